use Rattle.std.proofs.lemmas.Result.{IfOk-weaker}
use Rattle.run_input.specs.Met.{between}
use Rattle.run_input.specs.Answer.{log_input}
use Rattle.run_input.proofs.ThreeFilesLemmas.{read_three, unread_answer}
use Rattle.run_check.specs.Rechecked.{IsRechecked}
use Rattle.run_check.proofs.RecheckedLemmas.{rechecked_of}
use Rattle.run_check.proofs.rechecking.recheck.Goals as goal

pub returns-in-Ok-clause-answer : goal.returns-in-Ok-clause-answer
returns-in-Ok-clause-answer g c =
    let at = g.F.Files.at in
    let texts = c.in-Ok.texts in
    IfOk-weaker c.recheck_bytes.result _ _ (λ r answer.
    read_three c.args.input.now c.args.sheet.now (log_input 3 c.args.hints.now) (between (at c.args.files.now) (at c.read_all.new.files)) IsRechecked
    texts.first.items texts.second.items texts.third.items r.status r.text.items c.in-Ok.ensures.inputs c.in-Ok.ensures.reads
    (rechecked_of texts.first.items texts.second.items texts.third.items c.deref.result.now c.deref-in-Ok.result.now c.deref-in-Ok-2.result.now r.status
    r.text.items c.deref.ensures.value c.deref-in-Ok.ensures.value c.deref-in-Ok-2.ensures.value answer))
    c.recheck_bytes.ensures

pub returns-in-Err-Fault-clause-answer : goal.returns-in-Err-Fault-clause-answer
returns-in-Err-Fault-clause-answer g c =
    let at = g.F.Files.at in
    IfOk-weaker c.fault_reply.result _ _ (λ r told.
    unread_answer c.args.input.now c.args.sheet.now (log_input 3 c.args.hints.now) (between (at c.args.files.now) (at c.read_all.new.files)) IsRechecked
    c.in-Err-Fault.field-0 c.in-Err-Fault.fault r.status r.text.items c.in-Err-Fault.field-0-is
    c.in-Err-Fault.ensures.refusal told)
    c.fault_reply.ensures.told
