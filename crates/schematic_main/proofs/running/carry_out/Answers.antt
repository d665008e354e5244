use Rattle.std.proofs.Common.{Err, sym, ap, subst, inl, inr}
use Rattle.plan_words.specs.Arguments.{texts_of}
use Rattle.refute_log.specs.ToldTo.{told_to}
use Rattle.run_input.specs.declared.status.Status.{Status}
use Rattle.run_input.specs.declared.status.Status.TheVariants.{Unwritten, NoMemory}
use Rattle.run_input.specs.Status.{IsCutShort}
use Rattle.run_input.specs.Met.{between}
use Rattle.schematic_main.proofs.AloneLemmas.{cut_not_alone, cut_is_short}
use Rattle.schematic_main.proofs.DueLemmas.{due_is_whole, due_unread, due_ends}
use Rattle.run_input.proofs.LeavesLemmas.{leaves_weaker}
use Rattle.run_input.proofs.MetLemmas.{reads_less}
use Rattle.run_input.proofs.StatusLemmas.{cut_ends}
use Rattle.schematic_main.proofs.running.carry_out.Goals as goal

-- ---- the text was put

pub returns-in-Ok-put-clause-cut_short : goal.returns-in-Ok-put-clause-cut_short
returns-in-Ok-put-clause-cut_short g c = λ cut.
    let met = between (g.F.Files.at c.args.files.now) (g.F.Files.at c.reply_to.new.files) in
    let traced = told_to {Self = g.row.T.Denot} g.T.LogSink.tells g.T.LogSink.learnt c.args.trace.now c.reply_to.new.trace in
    absurd (due_is_whole (texts_of c.args.words.now) met traced c.in-Ok.reply.status c.in-Ok.reply.text.items c.in-Ok.ensures.answer cut)

pub returns-in-Ok-put-clause-read_fault : goal.returns-in-Ok-put-clause-read_fault
returns-in-Ok-put-clause-read_fault g c =
    let met = between (g.F.Files.at c.args.files.now) (g.F.Files.at c.reply_to.new.files) in
    let traced = told_to {Self = g.row.T.Denot} g.T.LogSink.tells g.T.LogSink.learnt c.args.trace.now c.reply_to.new.trace in
    due_unread (texts_of c.args.words.now) met traced c.in-Ok.reply.status c.in-Ok.reply.text.items c.in-Ok.ensures.answer

pub returns-in-Ok-put-clause-write_fault : goal.returns-in-Ok-put-clause-write_fault
returns-in-Ok-put-clause-write_fault g c = λ is.
    let met = between (g.F.Files.at c.args.files.now) (g.F.Files.at c.reply_to.new.files) in
    let traced = told_to {Self = g.row.T.Denot} g.T.LogSink.tells g.T.LogSink.learnt c.args.trace.now c.reply_to.new.trace in
    absurd (due_is_whole (texts_of c.args.words.now) met traced c.in-Ok.reply.status c.in-Ok.reply.text.items c.in-Ok.ensures.answer
    (subst (λ (s : Status). IsCutShort s) (sym is) tt))

pub returns-in-Ok-put-clause-completes : goal.returns-in-Ok-put-clause-completes
returns-in-Ok-put-clause-completes g c = λ command asked sound read written.
    let met = between (g.F.Files.at c.args.files.now) (g.F.Files.at c.reply_to.new.files) in
    let traced = told_to {Self = g.row.T.Denot} g.T.LogSink.tells g.T.LogSink.learnt c.args.trace.now c.reply_to.new.trace in
    inl (due_ends (texts_of c.args.words.now) command met traced c.in-Ok.reply.status c.in-Ok.reply.text.items asked sound read c.in-Ok.ensures.answer)

-- ---- it couldn't be put

pub returns-in-Err-Failed-clause-reads : goal.returns-in-Err-Failed-clause-reads
returns-in-Err-Failed-clause-reads g c = λ command asked. reads_less _ _ _ _ (λ h. absurd h) (c.in-Ok.ensures.reads command asked)

pub returns-in-Err-Failed-clause-unwritten : goal.returns-in-Err-Failed-clause-unwritten
returns-in-Err-Failed-clause-unwritten g c = λ none. c.in-Ok.ensures.unwritten (elim none
    [ inl ends ↦ absurd (cut_not_alone (texts_of c.args.words.now) Unwritten tt ends) | inr nothing ↦ inr nothing ])

pub returns-in-Err-Failed-clause-leaves : goal.returns-in-Err-Failed-clause-leaves
returns-in-Err-Failed-clause-leaves g c =
    leaves_weaker _ _ (g.F.Files.at c.args.files.now).contents (g.F.Files.at c.reply_to.new.files).contents (λ name bytes may. (λ refused. refused, may.1))
    c.in-Ok.ensures.leaves

pub returns-in-Err-Failed-clause-untold : goal.returns-in-Err-Failed-clause-untold
returns-in-Err-Failed-clause-untold g c = λ none. c.in-Ok.ensures.untold (elim none [ inl refused ↦ absurd refused | inr nothing ↦ inr nothing ])

pub returns-in-Ok-clause-reads : goal.returns-in-Ok-clause-reads
returns-in-Ok-clause-reads g c = λ command asked. reads_less _ _ _ _ (λ h. absurd h) (c.in-Ok.ensures.reads command asked)

pub returns-in-Ok-clause-unwritten : goal.returns-in-Ok-clause-unwritten
returns-in-Ok-clause-unwritten g c = λ none. c.in-Ok.ensures.unwritten (elim none
    [ inl ends ↦ absurd (cut_not_alone (texts_of c.args.words.now) NoMemory tt ends) | inr nothing ↦ inr nothing ])

pub returns-in-Ok-clause-leaves : goal.returns-in-Ok-clause-leaves
returns-in-Ok-clause-leaves g c =
    leaves_weaker _ _ (g.F.Files.at c.args.files.now).contents (g.F.Files.at c.reply_to.new.files).contents (λ name bytes may. (λ refused. refused, may.1))
    c.in-Ok.ensures.leaves

pub returns-in-Ok-clause-untold : goal.returns-in-Ok-clause-untold
returns-in-Ok-clause-untold g c = λ none. c.in-Ok.ensures.untold (elim none [ inl refused ↦ absurd refused | inr nothing ↦ inr nothing ])

-- ---- there was no answer

pub returns-clause-unwritten : goal.returns-clause-unwritten
returns-clause-unwritten g c = λ none.
    c.in-Err.ensures.unwritten (elim none [
      | inl ends ↦ absurd (cut_not_alone (texts_of c.args.words.now) c.status.result (cut_is_short c.in-Err.cut c.status.result c.status.ensures) ends)
      | inr nothing ↦ inr nothing
    ])

-- ---- there was no text to put

pub returns-clause-completes : goal.returns-clause-completes
returns-clause-completes g c = λ command asked sound read written. cut_ends c.in-Err.cut c.status.result _ _ c.status.ensures
    (λ is. c.in-Err.ensures.cause (ap Err is)) (λ fails. written (inr fails))
