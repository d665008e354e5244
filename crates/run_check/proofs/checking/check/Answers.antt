use Rattle.std.proofs.Common.{List, ℕ, subst, arith}
use Rattle.std.proofs.lemmas.Result.{IfOk-weaker}
use Rattle.run_input.specs.Met.{between}
use Rattle.run_input.specs.Answer.{text_input, log_input, IsAnswerAfter, IsAnswerOn}
use Rattle.run_check.specs.Checked.{IsChecked}
use Rattle.run_input.proofs.AnswerLemmas.{IsRead, read_on, answer_before, after_before}
use Rattle.run_input.proofs.MetLemmas.{reads_more, reads_some}
use Rattle.run_input.proofs.StatusLemmas.{refused_reply}
use Rattle.run_check.proofs.checking.check.Goals as goal

pub returns-in-Ok-clause-answer : goal.returns-in-Ok-clause-answer
returns-in-Ok-clause-answer g c =
    let at = g.F.Files.at in
    let old = at c.args.files.now in
    let mid = at c.bytes_of.new.files in
    let new = at c.check_file.new.files in
    let file = c.in-Ok.bytes.items in
    let sheet = text_input 2 c.args.sheet.now in
    let log = log_input 3 c.args.log.now in
    let read : IsRead old mid = record { same = c.in-Ok.ensures.same; later = c.in-Ok.ensures.later; one = c.in-Ok.ensures.reads } in
    IfOk-weaker c.check_file.result _ _ (λ r answer.
    read_on (text_input 1 c.args.input.now) 0 (between old new) (λ bytes. IsAnswerOn sheet 1 (between old new)
    (λ said. IsAnswerOn log 2 (between old new) (IsAnswerAfter 3 (between old new) (IsChecked bytes said)))) file r.status r.text.items c.in-Ok.ensures.bytes
    (answer_before sheet 0 old mid new (λ said. IsAnswerOn log 1 (between mid new) (IsAnswerAfter 2 (between mid new) (IsChecked file said)))
    (λ said. IsAnswerOn log 2 (between old new) (IsAnswerAfter 3 (between old new) (IsChecked file said))) r.status r.text.items read
    (λ said. answer_before log 1 old mid new (IsAnswerAfter 2 (between mid new) (IsChecked file said)) (IsAnswerAfter 3 (between old new) (IsChecked file said))
    r.status r.text.items read
    (λ told. after_before 2 old mid new (IsChecked file said) told r.status r.text.items read))
    (subst (λ (xs : List ℕ). IsAnswerOn sheet 0 (between mid new) (λ said. IsAnswerOn log 1 (between mid new)
    (IsAnswerAfter 2 (between mid new) (IsChecked xs said))) r.status r.text.items) c.deref.ensures.value answer)))
    c.check_file.ensures.answer

pub returns-in-Ok-clause-reads : goal.returns-in-Ok-clause-reads
returns-in-Ok-clause-reads g c =
    let at = g.F.Files.at in
    reads_more 2 _ (at c.args.files.now) (at c.bytes_of.new.files) (at c.check_file.new.files) c.in-Ok.ensures.reads c.check_file.ensures.reads

pub returns-in-Err-Fault-clause-reads : goal.returns-in-Err-Fault-clause-reads
returns-in-Err-Fault-clause-reads g c = reads_some 1 3 _ _ (omega arith) (refused_reply c.fault_reply.result c.fault_reply.ensures.refused)
    c.in-Err-Fault.ensures.reads_err

pub returns-in-Err-Memory-clause-reads : goal.returns-in-Err-Memory-clause-reads
returns-in-Err-Memory-clause-reads g c = reads_some 1 3 _ _ (omega arith) (λ h. h) c.in-Err-Memory.ensures.reads_err
