-- What follows from what a command owes: which statuses there are, and how it ends where its inputs are sound.
use Rattle.std.proofs.Common.{◌≡◌, ◌⊎◌, ℕ, true, false, List, None, Some, refl, sym, ◌∙◌, subst, inl, inr, lit<, arith}
use Rattle.std.specs.declared.option.Option.{Option}
use Rattle.plan_core.specs.declared.limits.TheConstants.{MAX_FILE_BYTES, MAX_LOG_BYTES}
use Rattle.plan_core.specs.declared.criterion.Criterion.{Criterion}
use Rattle.plan_core.specs.Grid.{GridSize}
use Rattle.plan_core.specs.Graph.{Graph}
use Rattle.plan_core.specs.Drawing.{Drawing}
use Rattle.track_order.specs.Order.{EdgeOrder}
use Rattle.outside_io.specs.Contents.{Told, IsFileWhereTold, TellsAt}
use Rattle.plan_words.specs.declared.command.Command.{Command}
use Rattle.plan_words.specs.declared.command.Command.TheVariants.{Draw, Verify, Check, Graph as PrintGraph, Make, Trial, Signals, Front, Redraw, Explain, Trim}
use Rattle.plan_words.specs.declared.command.Command.TheVariants.{Recheck}
use Rattle.plan_words.specs.Words.{IsCommandOf}
use Rattle.plan_text.specs.SheetText.{Sheet as PlainSheet}
use Rattle.refute_log.specs.Lines.{log_text, MayAllBeTold}
use Rattle.refute_log.specs.Told.{Lines}
use Rattle.station_make.specs.StationText.{station_text}
use Rattle.search_least.specs.declared.outcome.Outcome.{Outcome}
use Rattle.drawing_cnf.specs.Layout.{Layout, layout}
use Rattle.log_check.specs.declared.claim.Claim.{Claim}
use Rattle.log_check.specs.declared.verdict.Refusal.{Refusal}
use Rattle.log_check.specs.declared.verdict.Refusal.TheVariants as refusals
use Rattle.log_check.specs.declared.verdict.Verdict.{Verdict}
use Rattle.log_check.specs.declared.verdict.Verdict.TheVariants as verdicts
use Rattle.log_check.specs.Judged.{IsLogJudged}
use Rattle.plan_words.proofs.AnswerLemmas.{command_same, command_or_fault}
use Rattle.run_input.specs.declared.fault.RunFault.{RunFault}
use Rattle.run_input.specs.declared.fault.RunFault.TheVariants.{Long}
use Rattle.run_input.specs.declared.status.Status.{Status}
use Rattle.run_input.specs.declared.status.Status.TheVariants.{Done, Refused, WordsRefused, NoDrawing, Unfinished, Unread, Broken}
use Rattle.run_input.specs.Status.{IsCutShort}
use Rattle.run_input.specs.Input.{IsLong, IsShort, HasStation, HasFileFault}
use Rattle.run_input.specs.Met.{Met, ReadFails}
use Rattle.run_check.specs.Verdict.{IsVerdict, IsSheetJudged, IsSoundSheet}
use Rattle.run_input.specs.Answer.{InputFile, text_input, log_input, IsPrinted, IsFileJudged, IsAnswerAfter, IsAnswerOn}
use Rattle.run_check.specs.Verdict.{IsVerified}
use Rattle.run_check.specs.CheckLine.{claim_of, refusal_status, verdict_status}
use Rattle.run_check.specs.Checked.{IsFoundBroken, IsClaimJudged, IsChecked}
use Rattle.hint_log.specs.declared.text_fault.HintsWhat.{HintsWhat}
use Rattle.log_check.specs.declared.hint_verdict.HintRefusal.TheVariants as hint_refusals
use Rattle.log_check.specs.declared.hint_verdict.HintsVerdict.{HintsVerdict}
use Rattle.log_check.specs.declared.hint_verdict.HintsVerdict.TheVariants as hint_verdicts
use Rattle.log_check.specs.HintsJudged.{IsHintsJudged}
use Rattle.run_check.specs.Texts.{hints_status}
use Rattle.run_check.specs.Trimmed.{AreTrimmed}
use Rattle.run_check.specs.Rechecked.{IsHintsClaimJudged, IsRechecked}
use Rattle.run_draw_front.specs.Drawn.{Job, job, status_of, IsDrawAnswer}
use Rattle.run_draw_front.specs.Signalled.{job_for, IsSignalFileJudged}
use Rattle.trade_off.specs.declared.outcome.FrontEnd.{FrontEnd}
use Rattle.trade_off.specs.declared.outcome.FrontEnd.TheVariants.{Whole, Empty, Conflicts, Room as EndRoom}
use Rattle.run_explain_redraw.specs.Explained.{ExplainJob, explain_job, IsExplainAnswer}
use Rattle.run_explain_redraw.proofs.ExplainedLemmas.{by_why}
use Rattle.run_draw_front.specs.Fronted.{FrontJob, front_job, status_of_front, IsFrontAnswer}
use Rattle.drawing_cnf.specs.Moved.{Former}
use Rattle.search_least.specs.declared.fewest.Fewest.{Fewest}
use Rattle.search_least.specs.declared.fewest.Fewest.TheVariants as fewest
use Rattle.run_input.specs.SearchLog.{IsRunLog}
use Rattle.run_explain_redraw.specs.Redrawn.{RedrawJob, redraw_job, status_of_moved, IsRedrawn}
use Rattle.run_explain_redraw.specs.Judged.{IsFormerJudged, AreJudged}
use Rattle.run_draw_front.specs.Tried.{IsTried}
use Rattle.schematic_main.specs.Commands.{Owes, ends_of, HasSoundFile, HasSoundHints, AreSound}
use Rattle.schematic_main.specs.Run.{Asks, IsAnswerDue, FailsIn}
use Rattle.run_draw_front.proofs.OutcomeLemmas.{on_outcome}
use Rattle.run_input.proofs.InputLemmas.{file_fault_status}
use Rattle.run_input.proofs.SignalLemmas.{fault_refuses}
use Rattle.schematic_main.proofs.SoundLog.{sound_log}

-- ---- the statuses: what holds of those that each part of an answer may have holds of the answer's

on_input : (P : Status → Type 0) (input : InputFile) (done : ℕ) (met : Met) (Answers : List ℕ → Status → List ℕ → Type 0) (status : Status) (text : List ℕ) →
    P Refused → (ReadFails met done → P Unread) → ((bytes : List ℕ) → Answers bytes status text → P status) → IsAnswerOn input done met Answers status text →
    P status
on_input P input done met Answers status text refused unread answers (inl (bytes, is, inl (long, read, told))) = subst P (sym told.status_is) refused
on_input P input done met Answers status text refused unread answers (inl (bytes, is, inr (short, answer))) = answers bytes answer
on_input P input done met Answers status text refused unread answers (inr (fails, told)) = subst P (sym told.status_is) (unread fails)

on_file : (P : Status → Type 0) (Answers : Graph → EdgeOrder → Status → List ℕ → Type 0) (bytes : List ℕ) (status : Status) (text : List ℕ) →
    P Refused → ((g : Graph) (o : EdgeOrder) → Answers g o status text → P status) → IsFileJudged Answers bytes status text → P status
on_file P Answers bytes status text refused answers (inl (g, o, has, answer)) = answers g o answer
on_file P Answers bytes status text refused answers (inr r) = subst P (sym (r.answers.status_is ∙ file_fault_status bytes r.fault r.has)) refused

-- the statuses that may be owed, but that of a read that failed
record OfOwed (P : Status → Type 0) : Type 0 where
  pub done : P Done
  pub refused : P Refused
  pub words_refused : P WordsRefused
  pub none : P NoDrawing
  pub unfinished : P Unfinished
  pub broken : P Broken

on_drawing : (P : Status → Type 0) (asked : Job) (met : Met) (traced : Lines → Type 0) (g : Graph) (o : EdgeOrder) (status : Status) (text : List ℕ) →
    OfOwed P → IsDrawAnswer asked met traced g o status text → P status
on_drawing P asked met traced g o status text owed answer = subst P (sym answer.drawn.status_is)
    (on_outcome P answer.drawn.outcome owed.done owed.none owed.unfinished)

on_trial : (P : Status → Type 0) (n : ℕ) (traced : Lines → Type 0) (g : Graph) (o : EdgeOrder) (status : Status) (text : List ℕ) → OfOwed P →
    IsTried n traced g o status text → P status
on_trial P n traced g o status text owed tried = subst P (sym tried.status_is) (on_outcome P tried.outcome owed.done owed.none owed.unfinished)

on_signals : (P : Status → Type 0) (asked : Job) (met : Met) (traced : Lines → Type 0) (bytes : List ℕ) (status : Status) (text : List ℕ) → OfOwed P →
    IsSignalFileJudged asked met traced bytes status text → P status
on_signals P asked met traced bytes status text owed (inl a) = on_drawing P (job_for a.places asked) met traced a.graph a.order status a.signalled.sheet owed
    a.signalled.answer
on_signals P asked met traced bytes status text owed (inr r) = subst P (sym (r.answers.status_is ∙ fault_refuses bytes r.fault r.has)) owed.refused

on_verdict : (P : Status → Type 0) (g : Graph) (o : EdgeOrder) (grid : GridSize) (d : Drawing) (status : Status) (text : List ℕ) → OfOwed P →
    IsVerdict g o grid d status text → P status
on_verdict P g o grid d status text owed (inl a) = subst P (sym a.status_is) owed.done
on_verdict P g o grid d status text owed (inr b) = subst P (sym b.status_is) owed.broken

on_sheet : (P : Status → Type 0) (g : Graph) (o : EdgeOrder) (sheet : List ℕ) (status : Status) (text : List ℕ) → OfOwed P →
    IsSheetJudged g o sheet status text → P status
on_sheet P g o sheet status text owed (inl judged) = on_verdict P g o judged.grid judged.drawn status text owed judged.verdict
on_sheet P g o sheet status text owed (inr r) = subst P (sym r.answers.status_is) owed.refused

on_refusal : (P : Status → Type 0) (why : Refusal) → OfOwed P → P (refusal_status why)
on_refusal P refusals.Room owed = owed.unfinished
on_refusal P refusals.Differs owed = owed.broken
on_refusal P refusals.NewVar owed = owed.broken
on_refusal P refusals.WrongQuery owed = owed.broken
on_refusal P refusals.NotImplied owed = owed.broken
on_refusal P refusals.NotNew owed = owed.broken

on_log : (P : Status → Type 0) (verdict : Verdict) → OfOwed P → P (verdict_status verdict)
on_log P verdicts.Certified owed = owed.done
on_log P (verdicts.Lacks place) owed = owed.broken
on_log P (verdicts.Refused why line) owed = on_refusal P why owed
on_log P (verdicts.Faulty what line) owed = owed.refused

on_found : (P : Status → Type 0) (g : Graph) (o : EdgeOrder) (said : PlainSheet) (found : Option Drawing) (status : Status) (text : List ℕ) → OfOwed P →
    IsFoundBroken g o said found status text → P status
on_found P g o said None status text owed broken = absurd broken
on_found P g o said (Some d) status text owed broken = subst P (sym broken.status_is) owed.broken

on_claim : (P : Status → Type 0) (g : Graph) (o : EdgeOrder) (sheet log : List ℕ) (status : Status) (text : List ℕ) → OfOwed P →
    IsClaimJudged g o sheet log status text → P status
on_claim P g o sheet log status text owed (inl checked) = elim checked.answer [
  | inl broken ↦ on_found P g o checked.said checked.said.found status text owed broken
  | inr claim ↦ subst P (sym claim.told.status_is) (on_log P claim.verdict owed)
]
on_claim P g o sheet log status text owed (inr r) = subst P (sym r.answers.status_is) owed.refused

on_ending : (P : Status → Type 0) (ending : FrontEnd) → P Done → P NoDrawing → P Unfinished → P (status_of_front ending)
on_ending P Whole done none unfinished = done
on_ending P Empty done none unfinished = none
on_ending P Conflicts done none unfinished = unfinished
on_ending P EndRoom done none unfinished = unfinished

on_front : (P : Status → Type 0) (asked : FrontJob) (traced : Lines → Type 0) (g : Graph) (o : EdgeOrder) (status : Status) (text : List ℕ) → OfOwed P →
    IsFrontAnswer asked traced g o status text → P status
on_front P asked traced g o status text owed f = subst P (sym f.status_is) (on_ending P f.ending owed.done owed.none owed.unfinished)

on_fewest : (P : Status → Type 0) (outcome : Fewest) → P Done → P NoDrawing → P Unfinished → P (status_of_moved outcome)
on_fewest P (fewest.Best d) done none unfinished = done
on_fewest P fewest.NoDrawing done none unfinished = none
on_fewest P (fewest.Spent found) done none unfinished = unfinished
on_fewest P (fewest.Room found) done none unfinished = unfinished

-- what redraw answers to a station and its former points
abbrev Redrawn : RedrawJob → (traced : Lines → Type 0) → Graph → EdgeOrder → Former → Status → List ℕ → Type 0
Redrawn asked traced g o points = IsRedrawn g o asked points traced

on_redrawn : (P : Status → Type 0) (asked : RedrawJob) (traced : Lines → Type 0) (g : Graph) (o : EdgeOrder) (points : Former) (status : Status) (text : List ℕ)
    → OfOwed P → IsRedrawn g o asked points traced status text → P status
on_redrawn P asked traced g o points status text owed r = subst P (sym r.status_is) (on_fewest P r.outcome owed.done owed.none owed.unfinished)

on_former : (P : Status → Type 0) (asked : RedrawJob) (traced : Lines → Type 0) (g : Graph) (o : EdgeOrder) (old said : List ℕ) (status : Status)
    (text : List ℕ) → OfOwed P → IsFormerJudged (Redrawn asked traced g o) g old said status text → P status
on_former P asked traced g o old said status text owed (inl (h, q, has, inl (points, gives, redrawn))) = on_redrawn P asked traced g o points status text owed
    redrawn
on_former P asked traced g o old said status text owed (inl (h, q, has, inr r)) = subst P (sym r.answers.status_is) owed.refused
on_former P asked traced g o old said status text owed (inr r) = subst P (sym (r.status_is ∙ file_fault_status old r.fault r.has)) owed.refused

on_explain : (P : Status → Type 0) (asked : ExplainJob) (traced : Lines → Type 0) (g : Graph) (o : EdgeOrder) (status : Status) (text : List ℕ) → OfOwed P →
    IsExplainAnswer asked traced g o status text → P status
on_explain P asked traced g o status text owed f = by_why asked traced g o status text (λ s t. P s) f (λ d lawful. owed.done)
    (λ laws without explains irreducible. owed.done) owed.unfinished owed.unfinished

on_checked : (P : Status → Type 0) (file sheet log : List ℕ) (status : Status) (text : List ℕ) → OfOwed P → IsChecked file sheet log status text → P status
on_checked P file sheet log status text owed = on_file P (λ g o. IsClaimJudged g o sheet log) file status text owed.refused
    (λ g o. on_claim P g o sheet log status text owed)

on_trimmed : (P : Status → Type 0) (hints : List ℕ) (met : Met) (file sheet log : List ℕ) (status : Status) (text : List ℕ) → OfOwed P →
    AreTrimmed hints met file sheet log status text → P status
on_trimmed P hints met file sheet log status text owed (inl (checked, other)) = on_checked P file sheet log status text owed checked
on_trimmed P hints met file sheet log status text owed (inr (inl (r, leaves, told))) = subst P (sym told.status_is) owed.done
on_trimmed P hints met file sheet log status text owed (inr (inr (passes, told))) = subst P (sym told.status_is) owed.unfinished

on_hints : (P : Status → Type 0) (verdict : HintsVerdict) → OfOwed P → P (hints_status verdict)
on_hints P hint_verdicts.Certified owed = owed.done
on_hints P (hint_verdicts.Lacks place) owed = owed.broken
on_hints P (hint_verdicts.Refused hint_refusals.BadHint line) owed = owed.broken
on_hints P (hint_verdicts.Refused hint_refusals.Room line) owed = owed.unfinished
on_hints P (hint_verdicts.Faulty what line) owed = owed.refused

on_rechecked : (P : Status → Type 0) (g : Graph) (o : EdgeOrder) (sheet hints : List ℕ) (status : Status) (text : List ℕ) → OfOwed P →
    IsHintsClaimJudged g o sheet hints status text → P status
on_rechecked P g o sheet hints status text owed (inl checked) = elim checked.answer [
  | inl broken ↦ on_found P g o checked.said checked.said.found status text owed broken
  | inr claim ↦ subst P (sym claim.told.status_is) (on_hints P claim.verdict owed)
]
on_rechecked P g o sheet hints status text owed (inr r) = subst P (sym r.answers.status_is) owed.refused

on_command : (P : Status → Type 0) (command : Command) (met : Met) (traced : Lines → Type 0) (status : Status) (text : List ℕ) → OfOwed P →
    (FailsIn command met → P Unread) → Owes command met traced status text → P status
on_command P (Draw input grid order budget svg log) met traced status text owed unread owes =
    let asked = job grid order budget svg log in
    on_input P (text_input 1 input) 0 met (IsAnswerAfter 1 met (IsFileJudged (IsDrawAnswer asked met traced))) status text owed.refused
    (λ fails. unread (0, lit< tt, fails))
    (λ bytes answer. on_file P (IsDrawAnswer asked met traced) bytes status text owed.refused (λ g o. on_drawing P asked met traced g o status text owed)
    answer.1)
    owes
on_command P (PrintGraph input) met traced status text owed unread owes =
    on_input P (text_input 1 input) 0 met (IsAnswerAfter 1 met (IsFileJudged IsPrinted)) status text owed.refused (λ fails. unread (0, lit< tt, fails))
    (λ bytes answer. on_file P IsPrinted bytes status text owed.refused (λ g o printed. subst P (sym printed.status_is) owed.done) answer.1)
    owes
on_command P (Verify input sheet) met traced status text owed unread owes =
    on_input P (text_input 1 input) 0 met (λ bytes. IsAnswerOn (text_input 2 sheet) 1 met (IsAnswerAfter 2 met (IsVerified bytes))) status text owed.refused
    (λ fails. unread (0, lit< tt, fails))
    (λ bytes. on_input P (text_input 2 sheet) 1 met (IsAnswerAfter 2 met (IsVerified bytes)) status text owed.refused (λ fails. unread (1, lit< tt, fails))
    (λ drawn answer. on_file P (λ g o. IsSheetJudged g o drawn) bytes status text owed.refused (λ g o. on_sheet P g o drawn status text owed) answer.1))
    owes
on_command P (Check input sheet log) met traced status text owed unread owes =
    on_input P (text_input 1 input) 0 met (λ bytes. IsAnswerOn (text_input 2 sheet) 1 met
    (λ said. IsAnswerOn (log_input 3 log) 2 met (IsAnswerAfter 3 met (IsChecked bytes said)))) status text owed.refused
    (λ fails. unread (0, lit< tt, fails))
    (λ bytes. on_input P (text_input 2 sheet) 1 met (λ said. IsAnswerOn (log_input 3 log) 2 met (IsAnswerAfter 3 met (IsChecked bytes said))) status text
    owed.refused (λ fails. unread (1, lit< tt, fails))
    (λ said. on_input P (log_input 3 log) 2 met (IsAnswerAfter 3 met (IsChecked bytes said)) status text owed.refused (λ fails. unread (2, lit< tt, fails))
    (λ told answer. on_file P (λ g o. IsClaimJudged g o said told) bytes status text owed.refused (λ g o. on_claim P g o said told status text owed) answer.1)))
    owes
on_command P (Make n) met traced status text owed unread made = subst P (sym made.status_is) owed.done
on_command P (Trial n) met traced status text owed unread owes = on_file P (IsTried n traced) (station_text n) status text owed.refused
    (λ g o. on_trial P n traced g o status text owed) owes
on_command P (Signals input grid order budget log) met traced status text owed unread owes =
    let asked = job grid order budget None log in
    on_input P (text_input 1 input) 0 met (IsAnswerAfter 1 met (IsSignalFileJudged asked met traced)) status text owed.refused
    (λ fails. unread (0, lit< tt, fails))
    (λ bytes answer. on_signals P asked met traced bytes status text owed answer.1)
    owes
on_command P (Front input first second grid budget) met traced status text owed unread owes =
    let asked = front_job grid first second budget in
    on_input P (text_input 1 input) 0 met (IsAnswerAfter 1 met (IsFileJudged (IsFrontAnswer asked traced))) status text owed.refused
    (λ fails. unread (0, lit< tt, fails))
    (λ bytes answer. on_file P (IsFrontAnswer asked traced) bytes status text owed.refused (λ g o. on_front P asked traced g o status text owed) answer.1)
    owes
on_command P (Redraw input former sheet grid budget log) met traced status text owed unread owes =
    let asked = redraw_job grid budget log in
    let told : Lines → Type 0 = IsRunLog log met traced in
    on_input P (text_input 1 input) 0 met (λ bytes. IsAnswerOn (text_input 2 former) 1 met
    (λ old. IsAnswerOn (text_input 3 sheet) 2 met (IsAnswerAfter 3 met (AreJudged (Redrawn asked told) bytes old)))) status text owed.refused
    (λ fails. unread (0, lit< tt, fails))
    (λ bytes. on_input P (text_input 2 former) 1 met (λ old. IsAnswerOn (text_input 3 sheet) 2 met
    (IsAnswerAfter 3 met (AreJudged (Redrawn asked told) bytes old))) status text owed.refused (λ fails. unread (1, lit< tt, fails))
    (λ old. on_input P (text_input 3 sheet) 2 met (IsAnswerAfter 3 met (AreJudged (Redrawn asked told) bytes old)) status text owed.refused
    (λ fails. unread (2, lit< tt, fails))
    (λ said answer. on_file P (λ g o. IsFormerJudged (Redrawn asked told g o) g old said) bytes status text owed.refused
    (λ g o. on_former P asked told g o old said status text owed) answer.1)))
    owes
on_command P (Explain input grid budget) met traced status text owed unread owes =
    let asked = explain_job grid budget in
    on_input P (text_input 1 input) 0 met (IsAnswerAfter 1 met (IsFileJudged (IsExplainAnswer asked traced))) status text owed.refused
    (λ fails. unread (0, lit< tt, fails))
    (λ bytes answer. on_file P (IsExplainAnswer asked traced) bytes status text owed.refused (λ g o. on_explain P asked traced g o status text owed) answer.1)
    owes
on_command P (Trim input sheet log hints) met traced status text owed unread owes =
    on_input P (text_input 1 input) 0 met (λ bytes. IsAnswerOn (text_input 2 sheet) 1 met
    (λ said. IsAnswerOn (log_input 3 log) 2 met (IsAnswerAfter 3 met (AreTrimmed hints met bytes said)))) status text owed.refused
    (λ fails. unread (0, lit< tt, fails))
    (λ bytes. on_input P (text_input 2 sheet) 1 met (λ said. IsAnswerOn (log_input 3 log) 2 met (IsAnswerAfter 3 met (AreTrimmed hints met bytes said))) status
    text owed.refused (λ fails. unread (1, lit< tt, fails))
    (λ said. on_input P (log_input 3 log) 2 met (IsAnswerAfter 3 met (AreTrimmed hints met bytes said)) status text owed.refused
    (λ fails. unread (2, lit< tt, fails))
    (λ told answer. on_trimmed P hints met bytes said told status text owed answer.1)))
    owes
on_command P (Recheck input sheet hints) met traced status text owed unread owes =
    on_input P (text_input 1 input) 0 met (λ bytes. IsAnswerOn (text_input 2 sheet) 1 met
    (λ said. IsAnswerOn (log_input 3 hints) 2 met (IsAnswerAfter 3 met (IsRechecked bytes said)))) status text owed.refused
    (λ fails. unread (0, lit< tt, fails))
    (λ bytes. on_input P (text_input 2 sheet) 1 met (λ said. IsAnswerOn (log_input 3 hints) 2 met (IsAnswerAfter 3 met (IsRechecked bytes said))) status text
    owed.refused (λ fails. unread (1, lit< tt, fails))
    (λ said. on_input P (log_input 3 hints) 2 met (IsAnswerAfter 3 met (IsRechecked bytes said)) status text owed.refused (λ fails. unread (2, lit< tt, fails))
    (λ told answer. on_file P (λ g o. IsHintsClaimJudged g o said told) bytes status text owed.refused (λ g o. on_rechecked P g o said told status text owed)
    answer.1)))
    owes

on_due : (P : Status → Type 0) (words : List (List ℕ)) (met : Met) (traced : Lines → Type 0) (status : Status) (text : List ℕ) → OfOwed P →
    (Asks words (λ command. FailsIn command met) → P Unread) → IsAnswerDue words met traced status text → P status
on_due P words met traced status text owed unread (inl (command, asked, owes)) =
    on_command P command met traced status text owed (λ fails. unread (command, asked, fails)) owes
on_due P words met traced status text owed unread (inr r) = subst P (sym r.answers.status_is) owed.words_refused

-- what is due isn't cut short
pub due_is_whole : (words : List (List ℕ)) (met : Met) (traced : Lines → Type 0) (status : Status) (text : List ℕ) → IsAnswerDue words met traced status text →
    IsCutShort status → ⊥
due_is_whole words met traced status text =
    let owed : OfOwed (λ s. IsCutShort s → ⊥) = record {
      done = λ h. h;
      refused = λ h. h;
      words_refused = λ h. h;
      none = λ h. h;
      unfinished = λ h. h;
      broken = λ h. h;
    } in
    on_due (λ s. IsCutShort s → ⊥) words met traced status text owed (λ fails. λ h. h)

-- one that says so comes of a read that failed
pub due_unread : (words : List (List ℕ)) (met : Met) (traced : Lines → Type 0) (status : Status) (text : List ℕ) → IsAnswerDue words met traced status text →
    status ≡ Unread → Asks words (λ command. FailsIn command met)
due_unread words met traced status text =
    let owed : OfOwed (λ s. s ≡ Unread → Asks words (λ command. FailsIn command met)) =
    record {
      done = λ is. absurd (cc);
      refused = λ is. absurd (cc);
      words_refused = λ is. absurd (cc);
      none = λ is. absurd (cc);
      unfinished = λ is. absurd (cc);
      broken = λ is. absurd (cc);
    }
    in
    on_due (λ s. s ≡ Unread → Asks words (λ command. FailsIn command met)) words met traced status text owed (λ fails. λ is. fails)

-- ---- sound inputs

-- files tell one list of bytes of a name
told_once : (contents : Option Told) (name bytes others : List ℕ) → TellsAt contents name (Some bytes) → IsFileWhereTold contents name others → others ≡ bytes
told_once None name bytes others there is = absurd there
told_once (Some told) name bytes others there is = let k : Some bytes ≡ Some others = there ∙ is in cc

too_long : (limit : ℕ) (bytes : List ℕ) → IsShort limit bytes → IsLong limit bytes → ⊥
too_long limit bytes short long = omega (arith, short, long)

-- an answer on an input that was read and isn't too long is one to its bytes
within_on : (input : InputFile) (done : ℕ) (met : Met) (bytes : List ℕ) (Answers : List ℕ → Status → List ℕ → Type 0) (status : Status) (text : List ℕ) →
    TellsAt met.before.contents input.name (Some bytes) → (IsLong input.limit bytes → ⊥) → (ReadFails met done → ⊥) →
    IsAnswerOn input done met Answers status text → Answers bytes status text
within_on input done met bytes Answers status text there few read (inl (others, is, inl (long, done_all, told))) =
    absurd (few (subst (IsLong input.limit) (told_once met.before.contents input.name bytes others there is) long))
within_on input done met bytes Answers status text there few read (inl (others, is, inr (short, answer))) =
    subst (λ (xs : List ℕ). Answers xs status text) (told_once met.before.contents input.name bytes others there is) answer
within_on input done met bytes Answers status text there few read (inr (fails, told)) = absurd (read fails)

-- an answer on the first input, where that is a file without a fault, is one to its bytes
first_on : (name : List ℕ) (met : Met) (file : HasSoundFile name met.before.contents) (Answers : List ℕ → Status → List ℕ → Type 0) (status : Status)
    (text : List ℕ) →
    (ReadFails met 0 → ⊥) → IsAnswerOn (text_input 1 name) 0 met Answers status text → Answers file.bytes status text
first_on name met file Answers status text read answer =
    within_on (text_input 1 name) 0 met file.bytes Answers status text file.there (λ long. file.sound (Long 1) (refl, long)) read answer

-- an answer to a file that has no fault is one to its station
sound_judged : (Answers : Graph → EdgeOrder → Status → List ℕ → Type 0) (bytes : List ℕ) (status : Status) (text : List ℕ) →
    ((fault : RunFault) → HasFileFault bytes fault → ⊥) → IsFileJudged Answers bytes status text →
    (g : Graph) × (o : EdgeOrder) × HasStation bytes g o × Answers g o status text
sound_judged Answers bytes status text sound (inl answer) = answer
sound_judged Answers bytes status text sound (inr refused) = absurd (sound refused.fault refused.has)

outcome_status : (outcome : Outcome) (status : Status) → status ≡ status_of outcome → (status ≡ Done) ⊎ (status ≡ NoDrawing) ⊎ (status ≡ Unfinished)
outcome_status outcome status is =
    subst (λ s. (s ≡ Done) ⊎ (s ≡ NoDrawing) ⊎ (s ≡ Unfinished)) (sym is)
    (on_outcome (λ s. (s ≡ Done) ⊎ (s ≡ NoDrawing) ⊎ (s ≡ Unfinished)) outcome (inl refl) (inr (inl refl)) (inr (inr refl)))

drawing_status : (g : Graph) (o : EdgeOrder) (grid : GridSize) (d : Drawing) (status : Status) (text : List ℕ) → IsVerdict g o grid d status text →
    (status ≡ Done) ⊎ (status ≡ Broken)
drawing_status g o grid d status text (inl lawful) = inl lawful.status_is
drawing_status g o grid d status text (inr broken) = inr broken.status_is

sheet_status : (g : Graph) (o : EdgeOrder) (sheet : List ℕ) (status : Status) (text : List ℕ) → IsSoundSheet g true sheet →
    IsSheetJudged g o sheet status text → (status ≡ Done) ⊎ (status ≡ Broken)
sheet_status g o sheet status text sound (inl judged) = drawing_status g o judged.grid judged.drawn status text judged.verdict
sheet_status g o sheet status text sound (inr refused) = absurd (sound.sound refused.what refused.line refused.first)

found_status : (g : Graph) (o : EdgeOrder) (said : PlainSheet) (found : Option Drawing) (status : Status) (text : List ℕ) →
    IsFoundBroken g o said found status text → status ≡ Broken
found_status g o said None status text broken = absurd broken
found_status g o said (Some d) status text broken = broken.status_is

-- a sound log has no fault: it is judged to a verdict on lines
log_status : (y : Layout) (order : List Criterion) (claim : Claim) (lines : Lines) (verdict : Verdict) → MayAllBeTold lines →
    IsLogJudged y order claim (log_text lines) verdict →
    (verdict_status verdict ≡ Done) ⊎ (verdict_status verdict ≡ Unfinished) ⊎ (verdict_status verdict ≡ Broken)
log_status y order claim lines verdicts.Certified formed judged = inl refl
log_status y order claim lines (verdicts.Lacks place) formed judged = inr (inr refl)
log_status y order claim lines (verdicts.Refused refusals.Room line) formed judged = inr (inl refl)
log_status y order claim lines (verdicts.Refused refusals.Differs line) formed judged = inr (inr refl)
log_status y order claim lines (verdicts.Refused refusals.NewVar line) formed judged = inr (inr refl)
log_status y order claim lines (verdicts.Refused refusals.WrongQuery line) formed judged = inr (inr refl)
log_status y order claim lines (verdicts.Refused refusals.NotImplied line) formed judged = inr (inr refl)
log_status y order claim lines (verdicts.Refused refusals.NotNew line) formed judged = inr (inr refl)
log_status y order claim lines (verdicts.Faulty what line) formed judged = absurd (sound_log y order claim lines what line formed judged)

-- a sheet and a log without a fault are judged
checked_status : (g : Graph) (o : EdgeOrder) (sheet : List ℕ) (lines : Lines) (status : Status) (text : List ℕ) → IsSoundSheet g false sheet →
    MayAllBeTold lines → IsClaimJudged g o sheet (log_text lines) status text →
    (status ≡ Done) ⊎ (status ≡ Unfinished) ⊎ (status ≡ Broken)
checked_status g o sheet lines status text sound formed (inl checked) = elim checked.answer [
  | inl broken ↦ inr (inr (found_status g o checked.said checked.said.found status text broken))
  | inr claim ↦
      subst (λ s. (s ≡ Done) ⊎ (s ≡ Unfinished) ⊎ (s ≡ Broken)) (sym claim.told.status_is)
      (log_status (layout g o checked.said.grid) checked.said.order (claim_of checked.said.order checked.said.found checked.said.ending) lines claim.verdict
      formed claim.judged)
]
checked_status g o sheet lines status text sound formed (inr refused) = absurd (sound.sound refused.what refused.line refused.first)

fewest_status : (outcome : Fewest) (status : Status) → status ≡ status_of_moved outcome → (status ≡ Done) ⊎ (status ≡ NoDrawing) ⊎ (status ≡ Unfinished)
fewest_status outcome status is =
    subst (λ s. (s ≡ Done) ⊎ (s ≡ NoDrawing) ⊎ (s ≡ Unfinished)) (sym is)
    (on_fewest (λ s. (s ≡ Done) ⊎ (s ≡ NoDrawing) ⊎ (s ≡ Unfinished)) outcome (inl refl) (inr (inl refl)) (inr (inr refl)))

-- a former file and a sheet without a fault are answered
redrawn_status : (asked : RedrawJob) (traced : Lines → Type 0) (g : Graph) (o : EdgeOrder) (old said : List ℕ) (status : Status) (text : List ℕ) →
    ((fault : RunFault) → HasFileFault old fault → ⊥) →
    ((h : Graph) → (q : EdgeOrder) × HasStation old h q → IsSoundSheet h true said) → IsFormerJudged (Redrawn asked traced g o) g old said status text →
    (status ≡ Done) ⊎ (status ≡ NoDrawing) ⊎ (status ≡ Unfinished)
redrawn_status asked traced g o old said status text sound drawn (inl (h, q, has, inl (points, gives, r))) = fewest_status r.outcome status r.status_is
redrawn_status asked traced g o old said status text sound drawn (inl (h, q, has, inr r)) = let sheet = drawn h (q, has) in absurd
    (sheet.sound r.what r.line r.first)
redrawn_status asked traced g o old said status text sound drawn (inr r) = absurd (sound r.fault r.has)

-- the three of trim
trimmed_status : (hints : List ℕ) (met : Met) (file sheet : List ℕ) (lines : Lines) (status : Status) (text : List ℕ) →
    ((fault : RunFault) → HasFileFault file fault → ⊥) →
    ((h : Graph) → (q : EdgeOrder) × HasStation file h q → IsSoundSheet h false sheet) → MayAllBeTold lines →
    AreTrimmed hints met file sheet (log_text lines) status text → (status ≡ Done) ⊎ (status ≡ Unfinished) ⊎ (status ≡ Broken)
trimmed_status hints met file sheet lines status text sound drawn formed (inl (checked, other)) =
    let found = sound_judged (λ g o. IsClaimJudged g o sheet (log_text lines)) file status text sound checked in
    checked_status found.0 found.1 sheet lines status text (drawn found.0 (found.1, found.2)) formed found.3
trimmed_status hints met file sheet lines status text sound drawn formed (inr (inl (r, leaves, told))) = inl told.status_is
trimmed_status hints met file sheet lines status text sound drawn formed (inr (inr (passes, told))) = inr (inl told.status_is)

-- hinted lines without a fault are judged to a verdict on lines
hints_judged_status : (verdict : HintsVerdict) (Judged : HintsVerdict → Type 0) →
    ((what : HintsWhat) (line : ℕ) → Judged (hint_verdicts.Faulty what line) → ⊥) → Judged verdict →
    (hints_status verdict ≡ Done) ⊎ (hints_status verdict ≡ Unfinished) ⊎ (hints_status verdict ≡ Broken)
hints_judged_status hint_verdicts.Certified Judged sound judged = inl refl
hints_judged_status (hint_verdicts.Lacks place) Judged sound judged = inr (inr refl)
hints_judged_status (hint_verdicts.Refused hint_refusals.BadHint line) Judged sound judged = inr (inr refl)
hints_judged_status (hint_verdicts.Refused hint_refusals.Room line) Judged sound judged = inr (inl refl)
hints_judged_status (hint_verdicts.Faulty what line) Judged sound judged = absurd (sound what line judged)

rechecked_status : (name : List ℕ) (contents : Option Told) (file sheet : List ℕ) (g : Graph) (o : EdgeOrder) (hints : HasSoundHints name contents file sheet)
    (status : Status) (text : List ℕ) → HasStation file g o → IsSoundSheet g false sheet →
    IsHintsClaimJudged g o sheet hints.bytes status text → (status ≡ Done) ⊎ (status ≡ Unfinished) ⊎ (status ≡ Broken)
rechecked_status name contents file sheet g o hints status text has sound (inl checked) = elim checked.answer [
  | inl broken ↦ inr (inr (found_status g o checked.said checked.said.found status text broken))
  | inr claim ↦
      let said = checked.said in
      let Judged : HintsVerdict → Type 0 = λ v. IsHintsJudged (layout g o said.grid) said.order (claim_of said.order said.found said.ending) hints.bytes v in
      subst (λ s. (s ≡ Done) ⊎ (s ≡ Unfinished) ⊎ (s ≡ Broken)) (sym claim.told.status_is)
      (hints_judged_status claim.verdict Judged (hints.sound g o said has checked.is_text) claim.judged)
]
rechecked_status name contents file sheet g o hints status text has sound (inr refused) = absurd (sound.sound refused.what refused.line refused.first)

-- a command whose inputs are sound, and none of whose reads failed, ends as it is there for
sound_ends : (command : Command) (met : Met) (traced : Lines → Type 0) (status : Status) (text : List ℕ) → AreSound command met.before.contents →
    (FailsIn command met → ⊥) → Owes command met traced status text → ends_of command status
sound_ends (Draw input grid order budget svg log) met traced status text file read owes =
    let asked = job grid order budget svg log in
    let judged = first_on input met file (IsAnswerAfter 1 met (IsFileJudged (IsDrawAnswer asked met traced))) status text (λ fails. read (0, lit< tt, fails))
    owes in
    let found = sound_judged (IsDrawAnswer asked met traced) file.bytes status text file.sound judged.1 in
    outcome_status found.3.drawn.outcome status found.3.drawn.status_is
sound_ends (PrintGraph input) met traced status text file read owes =
    let judged = first_on input met file (IsAnswerAfter 1 met (IsFileJudged IsPrinted)) status text (λ fails. read (0, lit< tt, fails)) owes in
    let found = sound_judged IsPrinted file.bytes status text file.sound judged.1 in
    found.3.status_is
sound_ends (Verify input sheet) met traced status text (file, drawn) read owes =
    let both = first_on input met file (λ bytes. IsAnswerOn (text_input 2 sheet) 1 met (IsAnswerAfter 2 met (IsVerified bytes))) status text
    (λ fails. read (0, lit< tt, fails)) owes in
    let verified =
    within_on (text_input 2 sheet) 1 met drawn.bytes (IsAnswerAfter 2 met (IsVerified file.bytes)) status text drawn.there
    (too_long MAX_FILE_BYTES drawn.bytes drawn.short) (λ fails. read (1, lit< tt, fails)) both in
    let found = sound_judged (λ g o. IsSheetJudged g o drawn.bytes) file.bytes status text file.sound verified.1 in
    sheet_status found.0 found.1 drawn.bytes status text (drawn.sound found.0 (found.1, found.2)) found.3
sound_ends (Check input sheet log) met traced status text (file, said, log_file) read owes =
    let told = log_text log_file.lines in
    let first =
    first_on input met file (λ bytes. IsAnswerOn (text_input 2 sheet) 1 met (λ sheet_bytes. IsAnswerOn (log_input 3 log) 2 met
    (IsAnswerAfter 3 met (IsChecked bytes sheet_bytes)))) status text (λ fails. read (0, lit< tt, fails)) owes in
    let second =
    within_on (text_input 2 sheet) 1 met said.bytes (λ sheet_bytes. IsAnswerOn (log_input 3 log) 2 met (IsAnswerAfter 3 met (IsChecked file.bytes sheet_bytes)))
    status text said.there (too_long MAX_FILE_BYTES said.bytes said.short) (λ fails. read (1, lit< tt, fails)) first in
    let third =
    within_on (log_input 3 log) 2 met told (IsAnswerAfter 3 met (IsChecked file.bytes said.bytes)) status text log_file.there
    (too_long MAX_LOG_BYTES told log_file.short) (λ fails. read (2, lit< tt, fails)) second in
    let found = sound_judged (λ g o. IsClaimJudged g o said.bytes told) file.bytes status text file.sound third.1 in
    checked_status found.0 found.1 said.bytes log_file.lines status text (said.sound found.0 (found.1, found.2)) log_file.formed found.3
sound_ends (Make n) met traced status text sound read made = made.status_is
sound_ends (Trial n) met traced status text sound read owes =
    let found = sound_judged (IsTried n traced) (station_text n) status text sound owes in
    outcome_status found.3.outcome status found.3.status_is
sound_ends (Signals input grid order budget log) met traced status text file read owes =
    let asked = job grid order budget None log in
    let sound : HasSoundFile input met.before.contents = record { bytes = file.bytes; there = file.there; sound = λ fault has. file.sound fault (inl has) } in
    let judged = first_on input met sound (IsAnswerAfter 1 met (IsSignalFileJudged asked met traced)) status text (λ fails. read (0, lit< tt, fails)) owes in
    elim judged.1 [
      | inl a ↦ outcome_status a.signalled.answer.drawn.outcome status a.signalled.answer.drawn.status_is
      | inr r ↦ absurd (file.sound r.fault r.has)
    ]
sound_ends (Front input first second grid budget) met traced status text file read owes =
    let asked = front_job grid first second budget in
    let judged = first_on input met file (IsAnswerAfter 1 met (IsFileJudged (IsFrontAnswer asked traced))) status text (λ fails. read (0, lit< tt, fails))
    owes in
    let found = sound_judged (IsFrontAnswer asked traced) file.bytes status text file.sound judged.1 in
    subst (λ s. (s ≡ Done) ⊎ (s ≡ NoDrawing) ⊎ (s ≡ Unfinished)) (sym found.3.status_is)
    (on_ending (λ s. (s ≡ Done) ⊎ (s ≡ NoDrawing) ⊎ (s ≡ Unfinished)) found.3.ending (inl refl) (inr (inl refl)) (inr (inr refl)))
sound_ends (Redraw input former sheet grid budget log) met traced status text (file, old, said) read owes =
    let asked = redraw_job grid budget log in
    let told : Lines → Type 0 = IsRunLog log met traced in
    let first =
    first_on input met file (λ bytes. IsAnswerOn (text_input 2 former) 1 met (λ before. IsAnswerOn (text_input 3 sheet) 2 met
    (IsAnswerAfter 3 met (AreJudged (Redrawn asked told) bytes before)))) status text (λ fails. read (0, lit< tt, fails)) owes in
    let second =
    within_on (text_input 2 former) 1 met old.bytes (λ before. IsAnswerOn (text_input 3 sheet) 2 met
    (IsAnswerAfter 3 met (AreJudged (Redrawn asked told) file.bytes before))) status text old.there (λ long. old.sound (Long 1) (refl, long))
    (λ fails. read (1, lit< tt, fails)) first in
    let third =
    within_on (text_input 3 sheet) 2 met said.bytes (IsAnswerAfter 3 met (AreJudged (Redrawn asked told) file.bytes old.bytes)) status text said.there
    (too_long MAX_FILE_BYTES said.bytes said.short) (λ fails. read (2, lit< tt, fails)) second in
    let found = sound_judged (λ g o. IsFormerJudged (Redrawn asked told g o) g old.bytes said.bytes) file.bytes status text file.sound third.1 in
    redrawn_status asked told found.0 found.1 old.bytes said.bytes status text old.sound said.sound found.3
sound_ends (Explain input grid budget) met traced status text file read owes =
    let asked = explain_job grid budget in
    let judged = first_on input met file (IsAnswerAfter 1 met (IsFileJudged (IsExplainAnswer asked traced))) status text (λ fails. read (0, lit< tt, fails))
    owes in
    let found = sound_judged (IsExplainAnswer asked traced) file.bytes status text file.sound judged.1 in
    by_why asked traced found.0 found.1 status text (λ s t. (s ≡ Done) ⊎ (s ≡ Unfinished)) found.3 (λ d lawful. inl refl)
    (λ laws without explains irreducible. inl refl) (inr refl) (inr refl)
sound_ends (Trim input sheet log hints) met traced status text (file, said, log_file) read owes =
    let told = log_text log_file.lines in
    let first =
    first_on input met file (λ bytes. IsAnswerOn (text_input 2 sheet) 1 met (λ sheet_bytes. IsAnswerOn (log_input 3 log) 2 met
    (IsAnswerAfter 3 met (AreTrimmed hints met bytes sheet_bytes)))) status text (λ fails. read (0, lit< tt, fails)) owes in
    let second =
    within_on (text_input 2 sheet) 1 met said.bytes (λ sheet_bytes. IsAnswerOn (log_input 3 log) 2 met
    (IsAnswerAfter 3 met (AreTrimmed hints met file.bytes sheet_bytes))) status text said.there (too_long MAX_FILE_BYTES said.bytes said.short)
    (λ fails. read (1, lit< tt, fails)) first in
    let third =
    within_on (log_input 3 log) 2 met told (IsAnswerAfter 3 met (AreTrimmed hints met file.bytes said.bytes)) status text log_file.there
    (too_long MAX_LOG_BYTES told log_file.short) (λ fails. read (2, lit< tt, fails)) second in
    trimmed_status hints met file.bytes said.bytes log_file.lines status text file.sound said.sound log_file.formed third.1
sound_ends (Recheck input sheet hints) met traced status text (file, said, lines) read owes =
    let first =
    first_on input met file (λ bytes. IsAnswerOn (text_input 2 sheet) 1 met (λ sheet_bytes. IsAnswerOn (log_input 3 hints) 2 met
    (IsAnswerAfter 3 met (IsRechecked bytes sheet_bytes)))) status text (λ fails. read (0, lit< tt, fails)) owes in
    let second =
    within_on (text_input 2 sheet) 1 met said.bytes (λ sheet_bytes. IsAnswerOn (log_input 3 hints) 2 met
    (IsAnswerAfter 3 met (IsRechecked file.bytes sheet_bytes))) status text said.there (too_long MAX_FILE_BYTES said.bytes said.short)
    (λ fails. read (1, lit< tt, fails)) first in
    let third =
    within_on (log_input 3 hints) 2 met lines.bytes (IsAnswerAfter 3 met (IsRechecked file.bytes said.bytes)) status text lines.there
    (too_long MAX_LOG_BYTES lines.bytes lines.short) (λ fails. read (2, lit< tt, fails)) second in
    let found = sound_judged (λ g o. IsHintsClaimJudged g o said.bytes lines.bytes) file.bytes status text file.sound third.1 in
    rechecked_status hints met.before.contents file.bytes said.bytes found.0 found.1 lines status text found.2 (said.sound found.0 (found.1, found.2)) found.3

-- so do words that ask for it
pub due_ends : (words : List (List ℕ)) (command : Command) (met : Met) (traced : Lines → Type 0) (status : Status) (text : List ℕ) → IsCommandOf words command →
    AreSound command met.before.contents → (FailsIn command met → ⊥) → IsAnswerDue words met traced status text → ends_of command status
due_ends words command met traced status text asked sound read (inl (found, also, owes)) =
    let same : found ≡ command = command_same words found command also asked in
    sound_ends command met traced status text sound read (subst (λ (c : Command). Owes c met traced status text) same owes)
due_ends words command met traced status text asked sound read (inr wrong) = absurd (command_or_fault words command wrong.what wrong.position asked wrong.fault)
