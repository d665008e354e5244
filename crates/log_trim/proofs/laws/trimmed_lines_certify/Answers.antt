use Rattle.log_trim.proofs.CertifyingLemmas.{left_good, left_certify}
use Rattle.log_trim.proofs.laws.trimmed_lines_certify.Goals as goal

pub returns-clause-good : goal.returns-clause-good
returns-clause-good c = left_good

pub returns-clause-certified : goal.returns-clause-certified
returns-clause-certified c = left_certify
