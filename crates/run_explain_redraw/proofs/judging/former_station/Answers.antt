use Rattle.run_explain_redraw.proofs.JudgedLemmas.{former_rejected}
use Rattle.run_explain_redraw.proofs.judging.former_station.Goals as goal

pub returns-in_ok-former_reply-in-Err-Fault-clause-rejected : goal.returns-in_ok-former_reply-in-Err-Fault-clause-rejected
returns-in_ok-former_reply-in-Err-Fault-clause-rejected c = λ bytes said g o has.
    let reply = c.in_ok-former_reply-in-Err-Fault.field-0 in
    let told = c.in_ok-former_reply-in-Err-Fault.ensures in
    former_rejected bytes c.args.old.now said g o c.in-Err-Fault.field-0 c.in-Err-Fault.fault reply.status reply.text.items has c.in-Err-Fault.field-0-is
    c.in-Err-Fault.ensures.refusal told.status_is told.line_is
