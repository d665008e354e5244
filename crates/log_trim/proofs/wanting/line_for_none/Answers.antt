use Rattle.log_trim.proofs.WantedLemmas.{found_none}
use Rattle.log_trim.proofs.wanting.line_for_none.Goals as goal

pub returns : goal.returns
returns c = found_none c.args.lines.now c.first_refuted.result c.first_refuted.ensures
