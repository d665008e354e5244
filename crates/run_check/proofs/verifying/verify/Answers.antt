use Rattle.std.proofs.Common.{List, ℕ, subst, arith}
use Rattle.std.proofs.lemmas.Result.{IfOk-weaker}
use Rattle.run_input.specs.Met.{between}
use Rattle.run_input.specs.Answer.{text_input, IsAnswerAfter, IsAnswerOn}
use Rattle.run_check.specs.Verdict.{IsVerified}
use Rattle.run_input.proofs.AnswerLemmas.{IsRead, read_on, answer_before, after_before}
use Rattle.run_input.proofs.MetLemmas.{reads_more, reads_some}
use Rattle.run_input.proofs.StatusLemmas.{refused_reply}
use Rattle.run_check.proofs.verifying.verify.Goals as goal

pub returns-in-Ok-clause-answer : goal.returns-in-Ok-clause-answer
returns-in-Ok-clause-answer g c =
    let at = g.F.Files.at in
    let old = at c.args.files.now in
    let mid = at c.bytes_of.new.files in
    let new = at c.verify_bytes.new.files in
    let bytes = c.in-Ok.bytes.items in
    let read : IsRead old mid = record { same = c.in-Ok.ensures.same; later = c.in-Ok.ensures.later; one = c.in-Ok.ensures.reads } in
    let sheet = text_input 2 c.args.sheet.now in
    IfOk-weaker c.verify_bytes.result _ _ (λ r answer.
    read_on (text_input 1 c.args.input.now) 0 (between old new) (λ bytes. IsAnswerOn sheet 1 (between old new)
    (IsAnswerAfter 2 (between old new) (IsVerified bytes))) bytes r.status r.text.items c.in-Ok.ensures.bytes
    (answer_before sheet 0 old mid new (IsAnswerAfter 1 (between mid new) (IsVerified bytes)) (IsAnswerAfter 2 (between old new) (IsVerified bytes)) r.status
    r.text.items read
    (λ others. after_before 1 old mid new (IsVerified bytes) others r.status r.text.items read)
    (subst (λ (xs : List ℕ). IsAnswerOn sheet 0 (between mid new) (IsAnswerAfter 1 (between mid new) (IsVerified xs)) r.status r.text.items)
    c.deref.ensures.value answer)))
    c.verify_bytes.ensures.answer

pub returns-in-Ok-clause-reads : goal.returns-in-Ok-clause-reads
returns-in-Ok-clause-reads g c =
    let at = g.F.Files.at in
    reads_more 1 _ (at c.args.files.now) (at c.bytes_of.new.files) (at c.verify_bytes.new.files) c.in-Ok.ensures.reads c.verify_bytes.ensures.reads

pub returns-in-Err-Fault-clause-reads : goal.returns-in-Err-Fault-clause-reads
returns-in-Err-Fault-clause-reads g c = reads_some 1 2 _ _ (omega arith) (refused_reply c.fault_reply.result c.fault_reply.ensures.refused)
    c.in-Err-Fault.ensures.reads_err

pub returns-in-Err-Memory-clause-reads : goal.returns-in-Err-Memory-clause-reads
returns-in-Err-Memory-clause-reads g c = reads_some 1 2 _ _ (omega arith) (λ h. h) c.in-Err-Memory.ensures.reads_err
