use Rattle.std.proofs.Common.{inr}
use Rattle.railml_read.proofs.document.read_bytes.Goals as goal

pub returns-in-Err-clause-fault : goal.returns-in-Err-clause-fault
returns-in-Err-clause-fault c = inr (rw c.valid_up_to.ensures c.in-Err.ensures.cases.1)
