use Rattle.std.proofs.Common.{◌≢◌, ◌∙◌, refl, arith}
use Rattle.std.specs.Prelude.{IsOkAnd}
use Rattle.std.proofs.lemmas.Result.{IfOk-weaker}
use Rattle.run_input.specs.declared.status.Status.TheVariants.{Done}
use Rattle.run_input.specs.Status.{IsRefused}
use Rattle.run_input.specs.Met.{between}
use Rattle.run_input.specs.Answer.{log_input}
use Rattle.run_input.proofs.AnswerLemmas.{leaves_same}
use Rattle.run_input.proofs.ThreeFilesLemmas.{unread_answer}
use Rattle.run_check.specs.declared.trimming.Finding.TheVariants.{Answered, Left, PastLimits}
use Rattle.run_check.specs.Trimmed.{LeavesLines, HasReadLeft, FilesPassLimits, AreTrimmed}
use Rattle.run_check.specs.Finding.{IsFinding}
use Rattle.run_check.proofs.TrimmedLemmas.{finding_of, answered_trim, left_trim, no_room_trim}
use Rattle.run_check.proofs.WrittenLemmas.{trim_leaves, never_other, never_unwritten}
use Rattle.run_check.proofs.trimming.trim.Goals as goal

pub returns-in-Answered-clause-answer : goal.returns-in-Answered-clause-answer
returns-in-Answered-clause-answer g c =
    let at = g.F.Files.at in
    let texts = c.in-Ok.texts in
    let found : IsFinding texts.first.items texts.second.items texts.third.items (Answered c.in-Answered.reply) =
    finding_of texts.first.items texts.second.items texts.third.items c.deref.result.now c.deref-in-Ok.result.now c.deref-in-Ok-2.result.now
    c.in_ok-reply-in-Ok.field-0 (Answered c.in-Answered.reply) c.deref.ensures.value c.deref-in-Ok.ensures.value
    c.deref-in-Ok-2.ensures.value c.in-Answered.is c.in_ok-reply-in-Ok.ensures in
    answered_trim c.args.input.now c.args.sheet.now c.args.log.now c.args.hints.now texts.first.items texts.second.items texts.third.items
    (between (at c.args.files.now) (at c.read_all.new.files)) c.in-Answered.reply c.in-Ok.ensures.inputs c.in-Ok.ensures.reads
    found

pub returns-in-PastLimits-clause-answer : goal.returns-in-PastLimits-clause-answer
returns-in-PastLimits-clause-answer g c =
    let at = g.F.Files.at in
    let texts = c.in-Ok.texts in
    let reply = c.in_ok-reply-in-PastLimits.reply in
    let passes : FilesPassLimits texts.first.items texts.second.items texts.third.items =
    finding_of texts.first.items texts.second.items texts.third.items c.deref.result.now c.deref-in-Ok.result.now c.deref-in-Ok-2.result.now
    c.in_ok-reply-in-Ok.field-0 PastLimits c.deref.ensures.value c.deref-in-Ok.ensures.value
    c.deref-in-Ok-2.ensures.value c.in-PastLimits.is c.in_ok-reply-in-Ok.ensures in
    no_room_trim c.args.input.now c.args.sheet.now c.args.log.now c.args.hints.now texts.first.items texts.second.items texts.third.items
    (between (at c.args.files.now) (at c.read_all.new.files)) reply.status reply.text.items c.in-Ok.ensures.inputs c.in-Ok.ensures.reads
    passes c.in_ok-reply-in-PastLimits.ensures

pub returns-in-PastLimits-clause-leaves : goal.returns-in-PastLimits-clause-leaves
returns-in-PastLimits-clause-leaves g c = leaves_same _ (g.F.Files.at c.args.files.now).contents
    (g.F.Files.at c.read_all.new.files).contents c.in-Ok.ensures.same

pub returns-in_err-reply-in-PastLimits-clause-leaves : goal.returns-in_err-reply-in-PastLimits-clause-leaves
returns-in_err-reply-in-PastLimits-clause-leaves g c = leaves_same _ (g.F.Files.at c.args.files.now).contents
    (g.F.Files.at c.read_all.new.files).contents c.in-Ok.ensures.same

pub returns-in-Ok-clause-answer : goal.returns-in-Ok-clause-answer
returns-in-Ok-clause-answer g c =
    let at = g.F.Files.at in
    let texts = c.in-Ok.texts in
    let leaves : LeavesLines texts.first.items texts.second.items texts.third.items c.in-Left.left =
    finding_of texts.first.items texts.second.items texts.third.items c.deref.result.now c.deref-in-Ok.result.now c.deref-in-Ok-2.result.now
    c.in_ok-reply-in-Ok.field-0 (Left c.in-Left.left) c.deref.ensures.value c.deref-in-Ok.ensures.value
    c.deref-in-Ok-2.ensures.value c.in-Left.is c.in_ok-reply-in-Ok.ensures in
    IfOk-weaker c.write_left.result _ _ (λ r told.
    left_trim c.args.input.now c.args.sheet.now c.args.log.now c.args.hints.now texts.first.items texts.second.items texts.third.items (at c.args.files.now)
    (at c.read_all.new.files) (at c.write_left.new.files) c.in-Left.left r.status r.text.items
    c.in-Ok.ensures.inputs (c.write_left.ensures.reads ∙ c.in-Ok.ensures.reads) c.in-Ok.ensures.same leaves told)
    c.write_left.ensures.answer

pub returns-in-Ok-clause-reads : goal.returns-in-Ok-clause-reads
returns-in-Ok-clause-reads g c = record { number = 3; within = omega arith; once = c.write_left.ensures.reads ∙ c.in-Ok.ensures.reads; all = λ _. refl }

pub returns-in-Ok-clause-unwritten : goal.returns-in-Ok-clause-unwritten
returns-in-Ok-clause-unwritten g c =
    let at = g.F.Files.at in
    let old = at c.args.files.now in
    let new = at c.write_left.new.files in
    let texts = c.in-Ok.texts in
    let Other : Type 0 = IsOkAnd c.write_left.result (λ r. r.status ≢ Done) in
    let found : HasReadLeft c.args.input.now c.args.sheet.now c.args.log.now (between old new) c.in-Left.left = record {
      read = c.write_left.ensures.reads ∙ c.in-Ok.ensures.reads;
      bytes = texts.first.items;
      said = texts.second.items;
      lines = texts.third.items;
      files = c.in-Ok.ensures.inputs;
      leaves =
          finding_of texts.first.items texts.second.items texts.third.items c.deref.result.now c.deref-in-Ok.result.now c.deref-in-Ok-2.result.now
          c.in_ok-reply-in-Ok.field-0 (Left c.in-Left.left) c.deref.ensures.value c.deref-in-Ok.ensures.value
          c.deref-in-Ok-2.ensures.value c.in-Left.is c.in_ok-reply-in-Ok.ensures;
    } in
    never_unwritten c.args.input.now c.args.sheet.now c.args.log.now c.in-Left.left old new Other found
    (never_other c.write_left.result c.in-Left.left c.args.hints.now (between (at c.read_all.new.files) new) c.write_left.ensures.answer)

pub returns-in-Ok-clause-leaves : goal.returns-in-Ok-clause-leaves
returns-in-Ok-clause-leaves g c =
    let at = g.F.Files.at in
    let old = at c.args.files.now in
    let mid = at c.read_all.new.files in
    let new = at c.write_left.new.files in
    let texts = c.in-Ok.texts in
    let Refused : Type 0 = IsOkAnd c.write_left.result (λ r. IsRefused r.status) in
    let found : HasReadLeft c.args.input.now c.args.sheet.now c.args.log.now (between old new) c.in-Left.left = record {
      read = c.write_left.ensures.reads ∙ c.in-Ok.ensures.reads;
      bytes = texts.first.items;
      said = texts.second.items;
      lines = texts.third.items;
      files = c.in-Ok.ensures.inputs;
      leaves =
          finding_of texts.first.items texts.second.items texts.third.items c.deref.result.now c.deref-in-Ok.result.now c.deref-in-Ok-2.result.now
          c.in_ok-reply-in-Ok.field-0 (Left c.in-Left.left) c.deref.ensures.value c.deref-in-Ok.ensures.value
          c.deref-in-Ok-2.ensures.value c.in-Left.is c.in_ok-reply-in-Ok.ensures;
    } in
    trim_leaves c.args.input.now c.args.sheet.now c.args.log.now c.args.hints.now c.in-Left.left old mid new Refused found c.in-Ok.ensures.same
    c.write_left.ensures.unrefused c.write_left.ensures.leaves

pub returns-in-Err-Fault-clause-answer : goal.returns-in-Err-Fault-clause-answer
returns-in-Err-Fault-clause-answer g c =
    let met = between (g.F.Files.at c.args.files.now) (g.F.Files.at c.read_all.new.files) in
    let reply = c.in_ok-fault_reply-in-Err-Fault.field-0 in
    unread_answer c.args.input.now c.args.sheet.now (log_input 3 c.args.log.now) met (AreTrimmed c.args.hints.now met) c.in-Err-Fault.field-0
    c.in-Err-Fault.fault reply.status reply.text.items c.in-Err-Fault.field-0-is c.in-Err-Fault.ensures.refusal
    c.in_ok-fault_reply-in-Err-Fault.ensures.told
