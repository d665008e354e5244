use Rattle.std.proofs.Common.{List, ℕ, subst, arith}
use Rattle.std.proofs.lemmas.Result.{IfErr-weaker}
use Rattle.outside_io.proofs.Results.{on_err_anyway}
use Rattle.run_input.specs.Met.{between}
use Rattle.run_input.specs.Answer.{text_input}
use Rattle.run_input.specs.ThreeFiles.{IsAnswerToThree}
use Rattle.run_input.proofs.ThreeFilesLemmas.{read_three, unread_answer}
use Rattle.run_explain_redraw.specs.Judged.{HaveFault}
use Rattle.run_explain_redraw.specs.Rejection.{RejectsFault}
use Rattle.run_explain_redraw.proofs.JudgedLemmas.{rejected_weaker}
use Rattle.run_explain_redraw.proofs.judging.known_of.Goals as goal

pub returns-in-Ok-clause-rejected : goal.returns-in-Ok-clause-rejected
returns-in-Ok-clause-rejected g c =
    let met = between (g.F.Files.at c.args.files.now) (g.F.Files.at c.read_all.new.files) in
    let t = c.in-Ok.texts in
    let To = IsAnswerToThree c.args.input.now c.args.former.now (text_input 3 c.args.sheet.now) met HaveFault in
    IfErr-weaker c.judge.result (RejectsFault c.deref.result.now c.deref-in-Ok.result.now c.deref-in-Ok-2.result.now) _
    (λ r. rejected_weaker (HaveFault c.deref.result.now c.deref-in-Ok.result.now c.deref-in-Ok-2.result.now) To r
    (λ status text fault. read_three c.args.input.now c.args.former.now (text_input 3 c.args.sheet.now) met HaveFault t.first.items t.second.items t.third.items
    status text c.in-Ok.ensures.inputs c.in-Ok.ensures.reads
    (subst (λ (xs : List ℕ). HaveFault t.first.items t.second.items xs status text) c.deref-in-Ok-2.ensures.value
    (subst (λ (xs : List ℕ). HaveFault t.first.items xs c.deref-in-Ok-2.result.now status text) c.deref-in-Ok.ensures.value
    (subst (λ (xs : List ℕ). HaveFault xs c.deref-in-Ok.result.now c.deref-in-Ok-2.result.now status text) c.deref.ensures.value fault)))))
    c.judge.ensures.rejected

pub returns-in-Ok-clause-reads_err : goal.returns-in-Ok-clause-reads_err
returns-in-Ok-clause-reads_err g c = on_err_anyway c.judge.result _ (record {
  number = 3;
  within = omega arith;
  once = c.in-Ok.ensures.reads;
  all = λ h. absurd h;
})

pub returns-in_ok-fault_reply-in-Err-Fault-clause-rejected : goal.returns-in_ok-fault_reply-in-Err-Fault-clause-rejected
returns-in_ok-fault_reply-in-Err-Fault-clause-rejected g c =
    let met = between (g.F.Files.at c.args.files.now) (g.F.Files.at c.read_all.new.files) in
    let reply = c.in_ok-fault_reply-in-Err-Fault.field-0 in
    unread_answer c.args.input.now c.args.former.now (text_input 3 c.args.sheet.now) met HaveFault c.in-Err-Fault.field-0 c.in-Err-Fault.fault
    reply.status reply.text.items c.in-Err-Fault.field-0-is c.in-Err-Fault.ensures.refusal
    c.in_ok-fault_reply-in-Err-Fault.ensures.told
