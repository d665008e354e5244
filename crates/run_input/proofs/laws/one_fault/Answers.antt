use Rattle.run_input.proofs.InputLemmas.{one_fault}
use Rattle.run_input.proofs.laws.one_fault.Goals as goal

pub returns : goal.returns
returns c = one_fault
