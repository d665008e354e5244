use Rattle.std.proofs.Common.{◌≡◌, ◌≢◌, ◌⊎◌, [], ◌∷◌, Ok, inl, inr, rules, sym, subst}
use Rattle.std.specs.Prelude.{IfOk, IsOkAnd, IsErrOf}
use Rattle.outside_io.specs.Contents.{WhereTold}
use Rattle.outside_io.specs.Counts.{Rose}
use Rattle.plan_words.specs.declared.command.Command.{Command}
use Rattle.refute_log.specs.ToldTo.{told_to}
use Rattle.run_input.specs.declared.reply.Cut.TheVariants.{Unwritten}
use Rattle.run_input.specs.declared.reply.Reply.{Reply}
use Rattle.run_input.specs.Status.{IsRefused}
use Rattle.run_input.specs.Met.{between, IsUnwritten, LeftSo}
use Rattle.run_check.specs.declared.trim_cut.TrimCut.{TrimCut}
use Rattle.run_check.specs.declared.trim_cut.TrimCut.TheVariants.{Unwritten as TrimUnwritten}
use Rattle.schematic_main.specs.Commands.{AnswersAlone, MayWrite, MayTell, MayLeave, Owes}
use Rattle.schematic_main.specs.Run.{CommandFailsToWrite}
use Rattle.run_input.proofs.AnswerLemmas.{leaves_same}
use Rattle.run_input.proofs.LeavesLemmas.{left_alone}
use Rattle.schematic_main.proofs.AloneLemmas.{trimmed_alone, lost_leaves, lost_unwritten, cut_unwritten}
use Rattle.run_input.proofs.DerivesLemmas.{new_unchanged}
use Rattle.run_draw_front.specs.Fronted.{front_job}
use Rattle.run_explain_redraw.specs.Explained.{explain_job}
use Rattle.schematic_main.proofs.HeldLemmas.{unchanged_holds, held_as, front_holds, explain_holds}
use Rattle.schematic_main.proofs.answers.answer_to.Goals as goal

pub returns-in-Draw-clause-answer : goal.returns-in-Draw-clause-answer
returns-in-Draw-clause-answer g c =
    let met = between (g.F.Files.at c.args.files.now) (g.F.Files.at c.draw.new.files) in
    let traced = told_to {Self = g.row.T.Denot} g.T.LogSink.tells g.T.LogSink.learnt c.args.trace.now c.draw.new.trace in
    subst (λ (command : Command). IfOk c.draw.result (λ r. Owes command met traced r.status r.text.items)) (sym c.in-Draw.is) c.draw.ensures.answer

pub returns-in-Draw-clause-leaves : goal.returns-in-Draw-clause-leaves
returns-in-Draw-clause-leaves g c =
    let old = (g.F.Files.at c.args.files.now).contents in
    let new = (g.F.Files.at c.draw.new.files).contents in
    let met = between (g.F.Files.at c.args.files.now) (g.F.Files.at c.draw.new.files) in
    let traced = told_to {Self = g.row.T.Denot} g.T.LogSink.tells g.T.LogSink.learnt c.args.trace.now c.draw.new.trace in
    let Refused : Type 0 = IsOkAnd c.draw.result (λ r. IsRefused r.status) in
    subst (λ (command : Command). WhereTold old new (LeftSo (λ name bytes. (Refused → ⊥) × MayLeave command met traced name bytes))) (sym c.in-Draw.is)
    c.draw.ensures.leaves

pub returns-in-Draw-clause-unwritten : goal.returns-in-Draw-clause-unwritten
returns-in-Draw-clause-unwritten g c =
    let met = between (g.F.Files.at c.args.files.now) (g.F.Files.at c.draw.new.files) in
    subst (λ (command : Command). IsOkAnd c.draw.result (λ r. AnswersAlone command r.status) ⊎ (MayWrite command met → ⊥) → IsUnwritten met) (sym c.in-Draw.is)
    c.draw.ensures.unwritten

pub returns-in-Draw-clause-untold : goal.returns-in-Draw-clause-untold
returns-in-Draw-clause-untold g c =
    let met = between (g.F.Files.at c.args.files.now) (g.F.Files.at c.draw.new.files) in
    let Refused : Type 0 = IsOkAnd c.draw.result (λ r. IsRefused r.status) in
    subst (λ (command : Command). Refused ⊎ (MayTell command met → ⊥) → c.draw.new.trace ≡ c.args.trace.now) (sym c.in-Draw.is) c.draw.ensures.untold

pub returns-in_ok-verify-in-Verify-clause-answer : goal.returns-in_ok-verify-in-Verify-clause-answer
returns-in_ok-verify-in-Verify-clause-answer g c =
    let met = between (g.F.Files.at c.args.files.now) (g.F.Files.at c.verify.new.files) in
    let traced = told_to {Self = g.row.T.Denot} g.T.LogSink.tells g.T.LogSink.learnt c.args.trace.now c.args.trace.now in
    let reply = c.in_ok-verify-in-Verify.field-0 in
    subst (λ (command : Command). Owes command met traced reply.status reply.text.items) (sym c.in-Verify.is) c.in_ok-verify-in-Verify.ensures.answer

pub returns-in_ok-verify-in-Verify-clause-leaves : goal.returns-in_ok-verify-in-Verify-clause-leaves
returns-in_ok-verify-in-Verify-clause-leaves g c = leaves_same _ (g.F.Files.at c.args.files.now).contents (g.F.Files.at c.verify.new.files).contents
    c.in_ok-verify-in-Verify.ensures.same

pub returns-in_ok-check-in-Check-clause-answer : goal.returns-in_ok-check-in-Check-clause-answer
returns-in_ok-check-in-Check-clause-answer g c =
    let met = between (g.F.Files.at c.args.files.now) (g.F.Files.at c.check.new.files) in
    let traced = told_to {Self = g.row.T.Denot} g.T.LogSink.tells g.T.LogSink.learnt c.args.trace.now c.args.trace.now in
    let reply = c.in_ok-check-in-Check.field-0 in
    subst (λ (command : Command). Owes command met traced reply.status reply.text.items) (sym c.in-Check.is) c.in_ok-check-in-Check.ensures.answer

pub returns-in_ok-check-in-Check-clause-leaves : goal.returns-in_ok-check-in-Check-clause-leaves
returns-in_ok-check-in-Check-clause-leaves g c = leaves_same _ (g.F.Files.at c.args.files.now).contents (g.F.Files.at c.check.new.files).contents
    c.in_ok-check-in-Check.ensures.same

pub returns-in-Trial-clause-leaves : goal.returns-in-Trial-clause-leaves
returns-in-Trial-clause-leaves g c = left_alone _ (g.F.Files.at c.args.files.now).contents

pub returns-in-Signals-clause-answer : goal.returns-in-Signals-clause-answer
returns-in-Signals-clause-answer g c =
    let met = between (g.F.Files.at c.args.files.now) (g.F.Files.at c.signals.new.files) in
    let traced = told_to {Self = g.row.T.Denot} g.T.LogSink.tells g.T.LogSink.learnt c.args.trace.now c.signals.new.trace in
    subst (λ (command : Command). IfOk c.signals.result (λ r. Owes command met traced r.status r.text.items)) (sym c.in-Signals.is) c.signals.ensures.answer

pub returns-in-Signals-clause-leaves : goal.returns-in-Signals-clause-leaves
returns-in-Signals-clause-leaves g c =
    let old = (g.F.Files.at c.args.files.now).contents in
    let new = (g.F.Files.at c.signals.new.files).contents in
    let met = between (g.F.Files.at c.args.files.now) (g.F.Files.at c.signals.new.files) in
    let traced = told_to {Self = g.row.T.Denot} g.T.LogSink.tells g.T.LogSink.learnt c.args.trace.now c.signals.new.trace in
    let Refused : Type 0 = IsOkAnd c.signals.result (λ r. IsRefused r.status) in
    subst (λ (command : Command). WhereTold old new (LeftSo (λ name bytes. (Refused → ⊥) × MayLeave command met traced name bytes))) (sym c.in-Signals.is)
    c.signals.ensures.leaves

pub returns-in-Signals-clause-unwritten : goal.returns-in-Signals-clause-unwritten
returns-in-Signals-clause-unwritten g c =
    let met = between (g.F.Files.at c.args.files.now) (g.F.Files.at c.signals.new.files) in
    subst (λ (command : Command). IsOkAnd c.signals.result (λ r. AnswersAlone command r.status) ⊎ (MayWrite command met → ⊥) → IsUnwritten met)
    (sym c.in-Signals.is) c.signals.ensures.unwritten

pub returns-in-Signals-clause-untold : goal.returns-in-Signals-clause-untold
returns-in-Signals-clause-untold g c =
    let met = between (g.F.Files.at c.args.files.now) (g.F.Files.at c.signals.new.files) in
    let Refused : Type 0 = IsOkAnd c.signals.result (λ r. IsRefused r.status) in
    subst (λ (command : Command). Refused ⊎ (MayTell command met → ⊥) → c.signals.new.trace ≡ c.args.trace.now) (sym c.in-Signals.is) c.signals.ensures.untold

pub returns-in-Front-clause-answer : goal.returns-in-Front-clause-answer
returns-in-Front-clause-answer g c =
    let met = between (g.F.Files.at c.args.files.now) (g.F.Files.at c.front.new.files) in
    let traced = told_to {Self = g.row.T.Denot} g.T.LogSink.tells g.T.LogSink.learnt c.args.trace.now c.front.new.trace in
    subst (λ (command : Command). IfOk c.front.result (λ r. Owes command met traced r.status r.text.items)) (sym c.in-Front.is) c.front.ensures.answer

pub returns-in-Front-clause-leaves : goal.returns-in-Front-clause-leaves
returns-in-Front-clause-leaves g c = leaves_same _ (g.F.Files.at c.args.files.now).contents (g.F.Files.at c.front.new.files).contents c.front.ensures.same

pub returns-in-Front-clause-untold : goal.returns-in-Front-clause-untold
returns-in-Front-clause-untold g c =
    let met = between (g.F.Files.at c.args.files.now) (g.F.Files.at c.front.new.files) in
    let Refused : Type 0 = IsOkAnd c.front.result (λ r. IsRefused r.status) in
    subst (λ (command : Command). Refused ⊎ (MayTell command met → ⊥) → c.front.new.trace ≡ c.args.trace.now) (sym c.in-Front.is)
    (λ none. c.front.ensures.untold (elim none [ inl refused ↦ inl refused | inr nothing ↦ inr (λ may. nothing (tt, may)) ]))

pub returns-in-Redraw-clause-answer : goal.returns-in-Redraw-clause-answer
returns-in-Redraw-clause-answer g c =
    let met = between (g.F.Files.at c.args.files.now) (g.F.Files.at c.redraw.new.files) in
    let traced = told_to {Self = g.row.T.Denot} g.T.LogSink.tells g.T.LogSink.learnt c.args.trace.now c.redraw.new.trace in
    subst (λ (command : Command). IfOk c.redraw.result (λ r. Owes command met traced r.status r.text.items)) (sym c.in-Redraw.is) c.redraw.ensures.answer

pub returns-in-Redraw-clause-leaves : goal.returns-in-Redraw-clause-leaves
returns-in-Redraw-clause-leaves g c =
    let old = (g.F.Files.at c.args.files.now).contents in
    let new = (g.F.Files.at c.redraw.new.files).contents in
    let met = between (g.F.Files.at c.args.files.now) (g.F.Files.at c.redraw.new.files) in
    let traced = told_to {Self = g.row.T.Denot} g.T.LogSink.tells g.T.LogSink.learnt c.args.trace.now c.redraw.new.trace in
    let Refused : Type 0 = IsOkAnd c.redraw.result (λ r. IsRefused r.status) in
    subst (λ (command : Command). WhereTold old new (LeftSo (λ name bytes. (Refused → ⊥) × MayLeave command met traced name bytes))) (sym c.in-Redraw.is)
    c.redraw.ensures.leaves

pub returns-in-Redraw-clause-unwritten : goal.returns-in-Redraw-clause-unwritten
returns-in-Redraw-clause-unwritten g c =
    let met = between (g.F.Files.at c.args.files.now) (g.F.Files.at c.redraw.new.files) in
    subst (λ (command : Command). IsOkAnd c.redraw.result (λ r. AnswersAlone command r.status) ⊎ (MayWrite command met → ⊥) → IsUnwritten met)
    (sym c.in-Redraw.is) c.redraw.ensures.unwritten

pub returns-in-Redraw-clause-untold : goal.returns-in-Redraw-clause-untold
returns-in-Redraw-clause-untold g c =
    let met = between (g.F.Files.at c.args.files.now) (g.F.Files.at c.redraw.new.files) in
    let Refused : Type 0 = IsOkAnd c.redraw.result (λ r. IsRefused r.status) in
    subst (λ (command : Command). Refused ⊎ (MayTell command met → ⊥) → c.redraw.new.trace ≡ c.args.trace.now) (sym c.in-Redraw.is) c.redraw.ensures.untold

pub returns-in-Explain-clause-answer : goal.returns-in-Explain-clause-answer
returns-in-Explain-clause-answer g c =
    let met = between (g.F.Files.at c.args.files.now) (g.F.Files.at c.explain.new.files) in
    let traced = told_to {Self = g.row.T.Denot} g.T.LogSink.tells g.T.LogSink.learnt c.args.trace.now c.explain.new.trace in
    subst (λ (command : Command). IfOk c.explain.result (λ r. Owes command met traced r.status r.text.items)) (sym c.in-Explain.is) c.explain.ensures.answer

pub returns-in-Explain-clause-leaves : goal.returns-in-Explain-clause-leaves
returns-in-Explain-clause-leaves g c = leaves_same _ (g.F.Files.at c.args.files.now).contents (g.F.Files.at c.explain.new.files).contents c.explain.ensures.same

pub returns-in-Explain-clause-untold : goal.returns-in-Explain-clause-untold
returns-in-Explain-clause-untold g c =
    let met = between (g.F.Files.at c.args.files.now) (g.F.Files.at c.explain.new.files) in
    let Refused : Type 0 = IsOkAnd c.explain.result (λ r. IsRefused r.status) in
    subst (λ (command : Command). Refused ⊎ (MayTell command met → ⊥) → c.explain.new.trace ≡ c.args.trace.now) (sym c.in-Explain.is)
    (λ none. c.explain.ensures.untold (elim none [ inl refused ↦ inl refused | inr nothing ↦ inr (λ may. nothing (tt, may)) ]))

pub returns-in_ok-trim-in-Trim-clause-answer : goal.returns-in_ok-trim-in-Trim-clause-answer
returns-in_ok-trim-in-Trim-clause-answer g c =
    let met = between (g.F.Files.at c.args.files.now) (g.F.Files.at c.trim.new.files) in
    let traced = told_to {Self = g.row.T.Denot} g.T.LogSink.tells g.T.LogSink.learnt c.args.trace.now c.args.trace.now in
    let reply = c.in_ok-trim-in-Trim.field-0 in
    subst (λ (command : Command). Owes command met traced reply.status reply.text.items) (sym c.in-Trim.is) c.in_ok-trim-in-Trim.ensures.answer

pub returns-in_ok-trim-in-Trim-clause-leaves : goal.returns-in_ok-trim-in-Trim-clause-leaves
returns-in_ok-trim-in-Trim-clause-leaves g c =
    let old = (g.F.Files.at c.args.files.now).contents in
    let new = (g.F.Files.at c.trim.new.files).contents in
    let met = between (g.F.Files.at c.args.files.now) (g.F.Files.at c.trim.new.files) in
    let traced = told_to {Self = g.row.T.Denot} g.T.LogSink.tells g.T.LogSink.learnt c.args.trace.now c.args.trace.now in
    let reply = c.in_ok-trim-in-Trim.field-0 in
    subst (λ (command : Command). WhereTold old new (LeftSo (λ name bytes. (IsRefused reply.status → ⊥) × MayLeave command met traced name bytes)))
    (sym c.in-Trim.is) c.in_ok-trim-in-Trim.ensures.leaves

pub returns-in_ok-trim-in-Trim-clause-unwritten : goal.returns-in_ok-trim-in-Trim-clause-unwritten
returns-in_ok-trim-in-Trim-clause-unwritten g c =
    let met = between (g.F.Files.at c.args.files.now) (g.F.Files.at c.trim.new.files) in
    let one : c.in-Trim.hints ∷ [] ≢ [] = λ e. cc in
    let reply = c.in_ok-trim-in-Trim.field-0 in
    subst (λ (command : Command). AnswersAlone command reply.status ⊎ (MayWrite command met → ⊥) → IsUnwritten met) (sym c.in-Trim.is)
    (λ none. c.in_ok-trim-in-Trim.ensures.unwritten (elim none [
      | inl alone ↦ inl (trimmed_alone {E = TrimCut} (Ok reply) alone)
      | inr nothing ↦ inr (λ may. nothing (one, may))
    ]))

pub returns-in_err-trim-in-Trim-clause-leaves : goal.returns-in_err-trim-in-Trim-clause-leaves
returns-in_err-trim-in-Trim-clause-leaves g c =
    let old = (g.F.Files.at c.args.files.now).contents in
    let new = (g.F.Files.at c.trim.new.files).contents in
    let met = between (g.F.Files.at c.args.files.now) (g.F.Files.at c.trim.new.files) in
    let traced = told_to {Self = g.row.T.Denot} g.T.LogSink.tells g.T.LogSink.learnt c.args.trace.now c.args.trace.now in
    let r = c.from_residual-in_err-trim-in-Trim.result in
    lost_leaves r (λ (reply : Reply). IsRefused reply.status) old new (MayLeave c.args.command.now met traced) c.from_residual-in_err-trim-in-Trim.ensures.0
    (subst (λ (command : Command). WhereTold old new (LeftSo (λ name bytes. (⊥ → ⊥) × MayLeave command met traced name bytes))) (sym c.in-Trim.is)
    c.in_err-trim-in-Trim.ensures.leaves)

pub returns-in_err-trim-in-Trim-clause-unwritten : goal.returns-in_err-trim-in-Trim-clause-unwritten
returns-in_err-trim-in-Trim-clause-unwritten g c =
    let met = between (g.F.Files.at c.args.files.now) (g.F.Files.at c.trim.new.files) in
    let one : c.in-Trim.hints ∷ [] ≢ [] = λ e. cc in
    let r = c.from_residual-in_err-trim-in-Trim.result in
    lost_unwritten r (λ (reply : Reply). AnswersAlone c.args.command.now reply.status) (MayWrite c.args.command.now met) (IsUnwritten met)
    c.from_residual-in_err-trim-in-Trim.ensures.0
    (subst (λ (command : Command). (MayWrite command met → ⊥) → IsUnwritten met) (sym c.in-Trim.is)
    (λ nothing. c.in_err-trim-in-Trim.ensures.unwritten (inr (λ may. nothing (one, may)))))

pub returns-in_err-trim-in-Trim-clause-cause : goal.returns-in_err-trim-in-Trim-clause-cause
returns-in_err-trim-in-Trim-clause-cause g c =
    let met = between (g.F.Files.at c.args.files.now) (g.F.Files.at c.trim.new.files) in
    let one : c.in-Trim.hints ∷ [] ≢ [] = λ e. cc in
    let r = c.from_residual-in_err-trim-in-Trim.result in
    subst (λ (command : Command). IsErrOf r Unwritten →
    CommandFailsToWrite command met (Rose (g.T.LogSink.faults c.args.trace.now) (g.T.LogSink.faults c.args.trace.now))) (sym c.in-Trim.is)
    (λ k. let cut : IsErrOf c.trim.result TrimUnwritten = search (rules, cut_unwritten, k) in inl (one, c.trim.ensures.cause cut))

pub returns-in_ok-recheck-in-Recheck-clause-answer : goal.returns-in_ok-recheck-in-Recheck-clause-answer
returns-in_ok-recheck-in-Recheck-clause-answer g c =
    let met = between (g.F.Files.at c.args.files.now) (g.F.Files.at c.recheck.new.files) in
    let traced = told_to {Self = g.row.T.Denot} g.T.LogSink.tells g.T.LogSink.learnt c.args.trace.now c.args.trace.now in
    let reply = c.in_ok-recheck-in-Recheck.field-0 in
    subst (λ (command : Command). Owes command met traced reply.status reply.text.items) (sym c.in-Recheck.is) c.in_ok-recheck-in-Recheck.ensures.answer

pub returns-in_ok-recheck-in-Recheck-clause-leaves : goal.returns-in_ok-recheck-in-Recheck-clause-leaves
returns-in_ok-recheck-in-Recheck-clause-leaves g c = leaves_same _ (g.F.Files.at c.args.files.now).contents (g.F.Files.at c.recheck.new.files).contents
    c.in_ok-recheck-in-Recheck.ensures.same

pub returns-in_ok-print-in-Graph-clause-derives : goal.returns-in_ok-print-in-Graph-clause-derives
returns-in_ok-print-in-Graph-clause-derives g c = new_unchanged (g.T.LogSink.tells c.args.trace.now) (g.met.T.LogSink.one_reading c.args.trace.now)

pub returns-in_err-print-in-Graph-clause-derives : goal.returns-in_err-print-in-Graph-clause-derives
returns-in_err-print-in-Graph-clause-derives g c = new_unchanged (g.T.LogSink.tells c.args.trace.now) (g.met.T.LogSink.one_reading c.args.trace.now)

pub returns-in_ok-verify-in-Verify-clause-derives : goal.returns-in_ok-verify-in-Verify-clause-derives
returns-in_ok-verify-in-Verify-clause-derives g c = new_unchanged (g.T.LogSink.tells c.args.trace.now) (g.met.T.LogSink.one_reading c.args.trace.now)

pub returns-in_err-verify-in-Verify-clause-derives : goal.returns-in_err-verify-in-Verify-clause-derives
returns-in_err-verify-in-Verify-clause-derives g c = new_unchanged (g.T.LogSink.tells c.args.trace.now) (g.met.T.LogSink.one_reading c.args.trace.now)

pub returns-in_ok-check-in-Check-clause-derives : goal.returns-in_ok-check-in-Check-clause-derives
returns-in_ok-check-in-Check-clause-derives g c = new_unchanged (g.T.LogSink.tells c.args.trace.now) (g.met.T.LogSink.one_reading c.args.trace.now)

pub returns-in_err-check-in-Check-clause-derives : goal.returns-in_err-check-in-Check-clause-derives
returns-in_err-check-in-Check-clause-derives g c = new_unchanged (g.T.LogSink.tells c.args.trace.now) (g.met.T.LogSink.one_reading c.args.trace.now)

pub returns-in_ok-made-in-Make-clause-derives : goal.returns-in_ok-made-in-Make-clause-derives
returns-in_ok-made-in-Make-clause-derives g c = new_unchanged (g.T.LogSink.tells c.args.trace.now) (g.met.T.LogSink.one_reading c.args.trace.now)

pub returns-in_err-made-in-Make-clause-derives : goal.returns-in_err-made-in-Make-clause-derives
returns-in_err-made-in-Make-clause-derives g c = new_unchanged (g.T.LogSink.tells c.args.trace.now) (g.met.T.LogSink.one_reading c.args.trace.now)

pub returns-in_ok-recheck-in-Recheck-clause-derives : goal.returns-in_ok-recheck-in-Recheck-clause-derives
returns-in_ok-recheck-in-Recheck-clause-derives g c = new_unchanged (g.T.LogSink.tells c.args.trace.now) (g.met.T.LogSink.one_reading c.args.trace.now)

pub returns-in_err-recheck-in-Recheck-clause-derives : goal.returns-in_err-recheck-in-Recheck-clause-derives
returns-in_err-recheck-in-Recheck-clause-derives g c = new_unchanged (g.T.LogSink.tells c.args.trace.now) (g.met.T.LogSink.one_reading c.args.trace.now)

pub returns-in_ok-trim-in-Trim-clause-derives : goal.returns-in_ok-trim-in-Trim-clause-derives
returns-in_ok-trim-in-Trim-clause-derives g c = new_unchanged (g.T.LogSink.tells c.args.trace.now) (g.met.T.LogSink.one_reading c.args.trace.now)

pub returns-in_err-trim-in-Trim-clause-derives : goal.returns-in_err-trim-in-Trim-clause-derives
returns-in_err-trim-in-Trim-clause-derives g c = new_unchanged (g.T.LogSink.tells c.args.trace.now) (g.met.T.LogSink.one_reading c.args.trace.now)

pub returns-in_ok-print-in-Graph-clause-begins : goal.returns-in_ok-print-in-Graph-clause-begins
returns-in_ok-print-in-Graph-clause-begins g c = unchanged_holds c.args.command.now _ (g.T.LogSink.tells c.args.trace.now)
    (g.met.T.LogSink.one_reading c.args.trace.now)

pub returns-in_err-print-in-Graph-clause-begins : goal.returns-in_err-print-in-Graph-clause-begins
returns-in_err-print-in-Graph-clause-begins g c = unchanged_holds c.args.command.now _ (g.T.LogSink.tells c.args.trace.now)
    (g.met.T.LogSink.one_reading c.args.trace.now)

pub returns-in_ok-verify-in-Verify-clause-begins : goal.returns-in_ok-verify-in-Verify-clause-begins
returns-in_ok-verify-in-Verify-clause-begins g c = unchanged_holds c.args.command.now _ (g.T.LogSink.tells c.args.trace.now)
    (g.met.T.LogSink.one_reading c.args.trace.now)

pub returns-in_err-verify-in-Verify-clause-begins : goal.returns-in_err-verify-in-Verify-clause-begins
returns-in_err-verify-in-Verify-clause-begins g c = unchanged_holds c.args.command.now _ (g.T.LogSink.tells c.args.trace.now)
    (g.met.T.LogSink.one_reading c.args.trace.now)

pub returns-in_ok-check-in-Check-clause-begins : goal.returns-in_ok-check-in-Check-clause-begins
returns-in_ok-check-in-Check-clause-begins g c = unchanged_holds c.args.command.now _ (g.T.LogSink.tells c.args.trace.now)
    (g.met.T.LogSink.one_reading c.args.trace.now)

pub returns-in_err-check-in-Check-clause-begins : goal.returns-in_err-check-in-Check-clause-begins
returns-in_err-check-in-Check-clause-begins g c = unchanged_holds c.args.command.now _ (g.T.LogSink.tells c.args.trace.now)
    (g.met.T.LogSink.one_reading c.args.trace.now)

pub returns-in_ok-made-in-Make-clause-begins : goal.returns-in_ok-made-in-Make-clause-begins
returns-in_ok-made-in-Make-clause-begins g c = unchanged_holds c.args.command.now _ (g.T.LogSink.tells c.args.trace.now)
    (g.met.T.LogSink.one_reading c.args.trace.now)

pub returns-in_err-made-in-Make-clause-begins : goal.returns-in_err-made-in-Make-clause-begins
returns-in_err-made-in-Make-clause-begins g c = unchanged_holds c.args.command.now _ (g.T.LogSink.tells c.args.trace.now)
    (g.met.T.LogSink.one_reading c.args.trace.now)

pub returns-in_ok-recheck-in-Recheck-clause-begins : goal.returns-in_ok-recheck-in-Recheck-clause-begins
returns-in_ok-recheck-in-Recheck-clause-begins g c = unchanged_holds c.args.command.now _ (g.T.LogSink.tells c.args.trace.now)
    (g.met.T.LogSink.one_reading c.args.trace.now)

pub returns-in_err-recheck-in-Recheck-clause-begins : goal.returns-in_err-recheck-in-Recheck-clause-begins
returns-in_err-recheck-in-Recheck-clause-begins g c = unchanged_holds c.args.command.now _ (g.T.LogSink.tells c.args.trace.now)
    (g.met.T.LogSink.one_reading c.args.trace.now)

pub returns-in_ok-trim-in-Trim-clause-begins : goal.returns-in_ok-trim-in-Trim-clause-begins
returns-in_ok-trim-in-Trim-clause-begins g c = unchanged_holds c.args.command.now _ (g.T.LogSink.tells c.args.trace.now)
    (g.met.T.LogSink.one_reading c.args.trace.now)

pub returns-in_err-trim-in-Trim-clause-begins : goal.returns-in_err-trim-in-Trim-clause-begins
returns-in_err-trim-in-Trim-clause-begins g c = unchanged_holds c.args.command.now _ (g.T.LogSink.tells c.args.trace.now)
    (g.met.T.LogSink.one_reading c.args.trace.now)

pub returns-in-Draw-clause-begins : goal.returns-in-Draw-clause-begins
returns-in-Draw-clause-begins g c =
    held_as c.args.command.now _ (between (g.F.Files.at c.args.files.now) (g.F.Files.at c.draw.new.files)) (g.T.LogSink.tells c.args.trace.now)
    (g.T.LogSink.tells c.draw.new.trace) c.in-Draw.is c.draw.ensures.left

pub returns-in-Trial-clause-begins : goal.returns-in-Trial-clause-begins
returns-in-Trial-clause-begins g c =
    held_as c.args.command.now _ (between (g.F.Files.at c.args.files.now) (g.F.Files.at c.args.files.now)) (g.T.LogSink.tells c.args.trace.now)
    (g.T.LogSink.tells c.trial.new.log) c.in-Trial.is c.trial.ensures.left

pub returns-in-Signals-clause-begins : goal.returns-in-Signals-clause-begins
returns-in-Signals-clause-begins g c =
    held_as c.args.command.now _ (between (g.F.Files.at c.args.files.now) (g.F.Files.at c.signals.new.files)) (g.T.LogSink.tells c.args.trace.now)
    (g.T.LogSink.tells c.signals.new.trace) c.in-Signals.is c.signals.ensures.left

pub returns-in-Redraw-clause-begins : goal.returns-in-Redraw-clause-begins
returns-in-Redraw-clause-begins g c =
    held_as c.args.command.now _ (between (g.F.Files.at c.args.files.now) (g.F.Files.at c.redraw.new.files)) (g.T.LogSink.tells c.args.trace.now)
    (g.T.LogSink.tells c.redraw.new.trace) c.in-Redraw.is c.redraw.ensures.left

pub returns-in-Front-clause-begins : goal.returns-in-Front-clause-begins
returns-in-Front-clause-begins g c =
    let met = between (g.F.Files.at c.args.files.now) (g.F.Files.at c.front.new.files) in
    let x = c.in-Front in
    held_as c.args.command.now _ met (g.T.LogSink.tells c.args.trace.now) (g.T.LogSink.tells c.front.new.trace) x.is
    (front_holds g.T.LogSink.tells g.T.LogSink.learnt c.args.trace.now c.front.new.trace x.input met (front_job x.grid x.first x.second x.budget) c.front.result
    (g.met.T.LogSink.one_reading c.front.new.trace) c.front.ensures.left c.front.ensures.answer c.front.ensures.untold)

pub returns-in-Explain-clause-begins : goal.returns-in-Explain-clause-begins
returns-in-Explain-clause-begins g c =
    let met = between (g.F.Files.at c.args.files.now) (g.F.Files.at c.explain.new.files) in
    let x = c.in-Explain in
    held_as c.args.command.now _ met (g.T.LogSink.tells c.args.trace.now) (g.T.LogSink.tells c.explain.new.trace) x.is
    (explain_holds g.T.LogSink.tells g.T.LogSink.learnt c.args.trace.now c.explain.new.trace x.input met (explain_job x.grid x.budget) c.explain.result
    (g.met.T.LogSink.one_reading c.explain.new.trace) c.explain.ensures.left c.explain.ensures.answer c.explain.ensures.untold)
