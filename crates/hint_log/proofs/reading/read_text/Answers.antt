use Rattle.std.proofs.Common.{refl}
use Rattle.hint_log.proofs.FormLemmas.{no_cut_no_form}
use Rattle.hint_log.proofs.reading.read_text.Goals as goal

pub returns-in-None-clause-fault : goal.returns-in-None-clause-fault
returns-in-None-clause-fault c = (refl, no_cut_no_form c.args.text.now c.in-None.ensures)
