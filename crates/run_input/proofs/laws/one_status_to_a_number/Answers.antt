use Rattle.run_input.proofs.StatusLemmas.{one_status}
use Rattle.run_input.proofs.laws.one_status_to_a_number.Goals as goal

pub returns : goal.returns
returns c = one_status
