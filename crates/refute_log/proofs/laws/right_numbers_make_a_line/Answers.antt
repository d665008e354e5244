use Rattle.refute_log.proofs.LawLemmas.{right_form}
use Rattle.refute_log.proofs.laws.right_numbers_make_a_line.Goals as goal

pub returns : goal.returns
returns c = right_form
