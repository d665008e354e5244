use Rattle.std.proofs.Common.{arith}
use Rattle.std.proofs.lemmas.Result.{IfOk-weaker}
use Rattle.run_input.specs.Answer.{IsPrinted}
use Rattle.run_input.specs.Met.{between}
use Rattle.run_input.proofs.AnswerLemmas.{refused_on}
use Rattle.run_input.proofs.MetLemmas.{reads_one, reads_some}
use Rattle.run_input.proofs.StatusLemmas.{refused_reply}
use Rattle.run_input.proofs.printing.print.Goals as goal

pub returns-in-Ok-clause-reads : goal.returns-in-Ok-clause-reads
returns-in-Ok-clause-reads g c = reads_one _ _ c.in-Ok.ensures.reads

pub returns-in-Err-Fault-clause-answer : goal.returns-in-Err-Fault-clause-answer
returns-in-Err-Fault-clause-answer g c =
    let met = between (g.F.Files.at c.args.files.now) (g.F.Files.at c.station_of.new.files) in
    IfOk-weaker c.fault_reply.result _ _ (λ r told.
    refused_on IsPrinted c.args.input.now met c.in-Err-Fault.field-0 c.in-Err-Fault.fault r.status r.text.items c.in-Err-Fault.ensures.refusal
    c.in-Err-Fault.field-0-is told)
    c.fault_reply.ensures.told

pub returns-in-Err-Fault-clause-reads : goal.returns-in-Err-Fault-clause-reads
returns-in-Err-Fault-clause-reads g c = reads_some 1 1 _ _ (omega arith) (refused_reply c.fault_reply.result c.fault_reply.ensures.refused)
    c.in-Err-Fault.ensures.reads_err

pub returns-in-Err-Memory-clause-reads : goal.returns-in-Err-Memory-clause-reads
returns-in-Err-Memory-clause-reads g c = reads_some 1 1 _ _ (omega arith) (λ h. h) c.in-Err-Memory.ensures.reads_err
