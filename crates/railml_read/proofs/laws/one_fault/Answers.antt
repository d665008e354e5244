use Rattle.railml_read.proofs.FaultLemmas.{one_fault}
use Rattle.railml_read.proofs.laws.one_fault.Goals as goal

pub returns : goal.returns
returns c = one_fault
