use Rattle.run_check.proofs.CertifiedLemmas.{left_is_certified}
use Rattle.run_check.proofs.hint_laws.left_lines_are_certified.Goals as goal

pub returns : goal.returns
returns c = left_is_certified
