use Rattle.run_input.specs.declared.status.Status.{Status}
use Rattle.run_explain_redraw.proofs.JudgedLemmas.{sheet_rejected}
use Rattle.run_explain_redraw.proofs.judging.former_drawing.Goals as goal

pub returns-in_ok-fault_reply-in-Err-Sheet-clause-rejected : goal.returns-in_ok-fault_reply-in-Err-Sheet-clause-rejected
returns-in_ok-fault_reply-in-Err-Sheet-clause-rejected c = λ bytes former g o has before.
    let reply = c.in_ok-fault_reply-in-Err-Sheet.field-0 in
    sheet_rejected bytes former c.args.said.now g c.args.old.now.graph o c.args.old.now.order c.in-Err-Sheet.field-0 c.in-Err-Sheet.what c.in-Err-Sheet.line
    reply.status reply.text.items has before c.in-Err-Sheet.field-0-is
    c.in-Err-Sheet.ensures.fault c.in_ok-fault_reply-in-Err-Sheet.ensures.told
