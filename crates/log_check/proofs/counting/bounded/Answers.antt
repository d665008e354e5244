use Rattle.log_check.proofs.CountingLemmas.{counted_line, counted_fault}
use Rattle.log_check.proofs.counting.bounded.Goals as goal

pub returns-in-Ok : goal.returns-in-Ok
returns-in-Ok c = counted_line c.args.text.now c.in-Ok.line c.criterion_of.result c.in-Ok.ensures.value c.criterion_of.ensures

pub returns-in-Err-Log : goal.returns-in-Err-Log
returns-in-Err-Log c = counted_fault c.args.text.now c.in-Err-Log.field-0 c.in-Err-Log.field-0-0 c.in-Err-Log.field-0-1 c.in-Err-Log.field-0-is
    c.in-Err-Log.ensures.fault
