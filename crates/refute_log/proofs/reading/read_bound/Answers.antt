use Rattle.std.proofs.Common.{refl}
use Rattle.refute_log.proofs.LetterLemmas.{wrong_bound}
use Rattle.refute_log.proofs.reading.read_bound.Goals as goal

pub returns-in_default-read_bounded-clause-fault : goal.returns-in_default-read_bounded-clause-fault
returns-in_default-read_bounded-clause-fault c =
    (refl, wrong_bound c.args.text.now c.in-Some.criterion c.in-Some.k.now c.in-Some.variable.now c.in-Some.ensures c.in_default-read_bounded.ensures)
