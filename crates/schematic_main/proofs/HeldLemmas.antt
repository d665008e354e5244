-- What a trace that had no line holds behind a command.
use Rattle.std.proofs.Common.{◌≡◌, ◌⊎◌, List, [], ℕ, Ok, Err, inl, inr, refl, sym, ◌∙◌, subst}
use Rattle.std.specs.Prelude.{Result, IfOk, OnErr, IsOkAnd}
use Rattle.plan_core.specs.Graph.{Graph}
use Rattle.track_order.specs.Order.{EdgeOrder}
use Rattle.plan_words.specs.declared.command.Command.{Command}
use Rattle.plan_words.specs.declared.command.Command.TheVariants.{Draw, Verify, Check, Graph as PrintGraph, Make, Trial, Signals, Front, Redraw, Explain, Trim}
use Rattle.plan_words.specs.declared.command.Command.TheVariants.{Recheck}
use Rattle.refute_log.specs.Told.{Lines}
use Rattle.refute_log.specs.ToldTo.{told_to}
use Rattle.refute_log.proofs.StepLemmas.{counted_within}
use Rattle.run_input.specs.declared.reply.Cut.{Cut}
use Rattle.run_input.specs.declared.reply.Reply.{Reply}
use Rattle.run_input.specs.declared.status.Status.{Status}
use Rattle.run_input.specs.Status.{IsRefused}
use Rattle.run_input.specs.Met.{Met}
use Rattle.run_input.specs.Answer.{IsFileJudged, IsAnswerToFile, IsReadStation, HasReadStation}
use Rattle.run_input.proofs.InputLemmas.{file_fault_status}
use Rattle.run_draw_front.specs.Fronted.{FrontJob, IsFrontAnswer, IsLeftOfFront}
use Rattle.run_explain_redraw.specs.Explained.{ExplainJob, IsExplainAnswer, IsLeftOfExplain}
use Rattle.schematic_main.specs.Commands.{TraceMayHold}
use Rattle.run_input.specs.SearchLog.{TellsIfNew}

-- ---- nothing was told

none_held : (command : Command) (met : Met) → TraceMayHold command met []
none_held (Draw input grid order budget svg log) met = inl refl
none_held (PrintGraph input) met = refl
none_held (Verify input sheet) met = refl
none_held (Check input sheet log) met = refl
none_held (Make n) met = refl
none_held (Trial n) met = inl refl
none_held (Signals input grid order budget log) met = inl refl
none_held (Front input first second grid budget) met = inl refl
none_held (Redraw input former sheet grid budget log) met = inl refl
none_held (Explain input grid budget) met = inl refl
none_held (Trim input sheet log hints) met = refl
none_held (Recheck input sheet hints) met = refl

pub unchanged_holds : (command : Command) (met : Met) (log : Lines → Type 0) → ((a b : Lines) → log a → log b → a ≡ b) →
    TellsIfNew (TraceMayHold command met) log log
unchanged_holds command met log one = λ none lines is. subst (λ (ls : Lines). TraceMayHold command met ls) (one [] lines none is) (none_held command met)

-- ---- a search was told

-- the command is this one
pub held_as : (command other : Command) (met : Met) (old new : Lines → Type 0) → command ≡ other → TellsIfNew (TraceMayHold other met) old new →
    TellsIfNew (TraceMayHold command met) old new
held_as command other met old new is h = subst (λ (x : Command). TellsIfNew (TraceMayHold x met) old new) (sym is) h

-- what is answered to a file refuses it, or is an answer to the station that was read
on_station : (P : Type 0) (input : List ℕ) (met : Met) (Answers : Graph → EdgeOrder → Status → List ℕ → Type 0) (status : Status) (text : List ℕ) →
    (IsRefused status → P) → ((g : Graph) (o : EdgeOrder) → IsReadStation input met g o → Answers g o status text → P) →
    IsAnswerToFile input met (IsFileJudged Answers) status text → P
on_station P input met Answers status text refused searched (inl (bytes, is, inl (passes, read, told))) =
    refused (subst (λ (s : Status). IsRefused s) (sym told.status_is) tt)
on_station P input met Answers status text refused searched (inl (bytes, is, inr (short, (read, inl (g, o, has, answer))))) =
    searched g o (read, (bytes, is, has)) answer
on_station P input met Answers status text refused searched (inl (bytes, is, inr (short, (read, inr r)))) =
    refused (subst (λ (s : Status). IsRefused s) (sym (r.answers.status_is ∙ file_fault_status bytes r.fault r.has)) tt)
on_station P input met Answers status text refused searched (inr (fails, told)) = refused (subst (λ (s : Status). IsRefused s) (sym told.status_is) tt)

-- what is left after an error is left also where there is an answer
searched_holds : {S : Type 0} (tells : S → Lines → Type 0) (old new : S) (input : List ℕ) (met : Met)
    (Answers : Graph → EdgeOrder → Status → List ℕ → Type 0) (Left : Graph → EdgeOrder → Lines → Type 0) (r : Result Reply Cut) →
    ((a b : Lines) → tells new a → tells new b → a ≡ b) →
    ((g : Graph) (o : EdgeOrder) (status : Status) (text : List ℕ) → Answers g o status text → TellsIfNew (Left g o) (tells old) (tells new)) →
    OnErr r (tells old [] → (lines : Lines) → tells new lines →
    (lines ≡ []) ⊎ ((g : Graph) × (o : EdgeOrder) × IsReadStation input met g o × Left g o lines)) →
    IfOk r (λ x. IsAnswerToFile input met (IsFileJudged Answers) x.status x.text.items) →
    (IsOkAnd r (λ x. IsRefused x.status) ⊎ (HasReadStation input met → ⊥) → new ≡ old) →
    TellsIfNew (λ lines. (lines ≡ []) ⊎ ((g : Graph) × (o : EdgeOrder) × IsReadStation input met g o × Left g o lines)) (tells old) (tells new)
searched_holds tells old new input met Answers Left (Err e) one whole left answer untold = left
searched_holds {S} tells old new input met Answers Left (Ok reply) one whole left answer untold = λ none lines is.
    on_station ((lines ≡ []) ⊎ ((g : Graph) × (o : EdgeOrder) × IsReadStation input met g o × Left g o lines)) input met Answers reply.status
    reply.text.items (λ refused. inl (one lines [] is (subst (λ (s : S). tells s []) (sym (untold (inl refused))) none)))
    (λ g o read a. inr (g, o, read, whole g o reply.status reply.text.items a none lines is)) answer

pub front_holds : {S : Type 0} (tells : S → Lines → Type 0) (count : S → ℕ) (old new : S) (input : List ℕ) (met : Met) (asked : FrontJob)
    (r : Result Reply Cut) → ((a b : Lines) → tells new a → tells new b → a ≡ b) →
    OnErr r (tells old [] → (lines : Lines) → tells new lines →
    (lines ≡ []) ⊎ ((g : Graph) × (o : EdgeOrder) × IsReadStation input met g o × IsLeftOfFront asked g o lines)) →
    IfOk r (λ x. IsAnswerToFile input met (IsFileJudged (IsFrontAnswer asked (told_to {Self = S} tells count old new))) x.status x.text.items) →
    (IsOkAnd r (λ x. IsRefused x.status) ⊎ (HasReadStation input met → ⊥) → new ≡ old) →
    TellsIfNew (λ lines. (lines ≡ []) ⊎ ((g : Graph) × (o : EdgeOrder) × IsReadStation input met g o × IsLeftOfFront asked g o lines)) (tells old)
    (tells new)
front_holds {S} tells count old new input met asked r one left answer untold =
    let traced : Lines → Type 0 = told_to {Self = S} tells count old new in
    searched_holds tells old new input met (IsFrontAnswer asked traced) (IsLeftOfFront asked) r one
    (λ g o status text a none lines is. subst (λ (ls : Lines). IsLeftOfFront asked g o ls) (one a.lines lines (a.told.behind [] none) is)
    (record { derives = a.log.derives; begins = a.log.begins; within = counted_within _ a.lines a.log.within })) left answer untold

pub explain_holds : {S : Type 0} (tells : S → Lines → Type 0) (count : S → ℕ) (old new : S) (input : List ℕ) (met : Met) (asked : ExplainJob)
    (r : Result Reply Cut) → ((a b : Lines) → tells new a → tells new b → a ≡ b) →
    OnErr r (tells old [] → (lines : Lines) → tells new lines →
    (lines ≡ []) ⊎ ((g : Graph) × (o : EdgeOrder) × IsReadStation input met g o × IsLeftOfExplain asked g o lines)) →
    IfOk r (λ x. IsAnswerToFile input met (IsFileJudged (IsExplainAnswer asked (told_to {Self = S} tells count old new))) x.status x.text.items) →
    (IsOkAnd r (λ x. IsRefused x.status) ⊎ (HasReadStation input met → ⊥) → new ≡ old) →
    TellsIfNew (λ lines. (lines ≡ []) ⊎ ((g : Graph) × (o : EdgeOrder) × IsReadStation input met g o × IsLeftOfExplain asked g o lines)) (tells old)
    (tells new)
explain_holds {S} tells count old new input met asked r one left answer untold =
    let traced : Lines → Type 0 = told_to {Self = S} tells count old new in
    searched_holds tells old new input met (IsExplainAnswer asked traced) (IsLeftOfExplain asked) r one
    (λ g o status text a none lines is. subst (λ (ls : Lines). IsLeftOfExplain asked g o ls) (one a.lines lines (a.told.behind [] none) is)
    (record { derives = a.log.derives; begins = a.log.begins; within = counted_within _ a.lines a.log.within })) left answer untold
