use Rattle.railml_faults.proofs.LawLemmas.{one_first_fault}
use Rattle.railml_faults.proofs.laws.one_fault.Goals as goal

pub returns : goal.returns
returns c = one_first_fault
