use Rattle.std.proofs.Common.{arith}
use Rattle.run_input.proofs.MetLemmas.{reads_one, reads_some}
use Rattle.run_input.proofs.StatusLemmas.{refused_reply}
use Rattle.run_check.proofs.checking.check_sheet.Goals as goal

pub returns-in-Ok-clause-reads : goal.returns-in-Ok-clause-reads
returns-in-Ok-clause-reads g c = reads_one _ _ c.in-Ok.ensures.reads

pub returns-in-Err-Fault-clause-reads : goal.returns-in-Err-Fault-clause-reads
returns-in-Err-Fault-clause-reads g c = reads_some 1 1 _ _ (omega arith) (refused_reply c.fault_reply.result c.fault_reply.ensures.refused)
    c.in-Err-Fault.ensures.reads_err

pub returns-in-Err-Memory-clause-reads : goal.returns-in-Err-Memory-clause-reads
returns-in-Err-Memory-clause-reads g c = reads_some 1 1 _ _ (omega arith) (λ h. h) c.in-Err-Memory.ensures.reads_err
