use Rattle.log_check.proofs.AwaitedLemmas.{lits_same, words_decide}
use Rattle.log_check.proofs.awaited.are_same.Goals as goal

pub returns : goal.returns
returns c = lits_same _ c.args.a.now c.args.b.now c.eq.result c.eq.ensures words_decide
