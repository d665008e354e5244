-- The text of lines that may be told has no fault.
use Rattle.std.proofs.Common.{◌≡◌, ℕ, List, [], ◌∷◌, ◌++◌, refl, sym, ◌∙◌, subst, inl, inr, append_assoc, append-nil}
use Rattle.std.specs.Prelude.{flat_map}
use Rattle.plan_core.specs.declared.criterion.Criterion.{Criterion}
use Rattle.refute_log.specs.declared.fault.LogWhat.{LogWhat}
use Rattle.refute_log.specs.Lines.{ended_text, log_text, MayAllBeTold}
use Rattle.refute_log.specs.Told.{Lines}
use Rattle.drawing_cnf.specs.Layout.{Layout}
use Rattle.log_check.specs.declared.claim.Claim.{Claim}
use Rattle.log_check.specs.declared.verdict.Verdict.TheVariants.{Faulty}
use Rattle.log_check.specs.TextLines.{HasNextFault}
use Rattle.log_check.specs.Judged.{IsLogJudged}
use Rattle.log_check.proofs.CutLemmas.{log_fronts, line_goes_on, line_has_no_fault, no_next_fault}

-- lines that may be told, and nothing behind them
no_fault : (lines : Lines) (rest : List ℕ) (what : LogWhat) → MayAllBeTold lines → rest ≡ flat_map ended_text lines ++ [] → HasNextFault rest what → ⊥
no_fault [] rest what told is fault = no_next_fault what (subst (λ (text : List ℕ). HasNextFault text what) is fault)
no_fault (line ∷ lines) rest what told is fault =
    line_has_no_fault line rest (flat_map ended_text lines ++ []) what told.0 (is ∙ append_assoc (ended_text line) (flat_map ended_text lines) []) fault

-- nor before their end
no_fault_before : (lines : Lines) (rest : List ℕ) (what : LogWhat) → [] ≡ flat_map ended_text lines ++ rest → HasNextFault rest what → ⊥
no_fault_before [] rest what is fault = no_next_fault what (subst (λ (text : List ℕ). HasNextFault text what) (sym is) fault)
no_fault_before (line ∷ lines) rest what is fault = line_goes_on line (flat_map ended_text lines ++ rest)
    (is ∙ append_assoc (ended_text line) (flat_map ended_text lines) rest)

pub sound_log : (y : Layout) (order : List Criterion) (claim : Claim) (lines : Lines) (what : LogWhat) (number : ℕ) → MayAllBeTold lines →
    IsLogJudged y order claim (log_text lines) (Faulty what number) → ⊥
sound_log y order claim lines what number formed judged = elim judged.is_verdict [
  | inl text ↦ elim (log_fronts (log_text lines) text.before lines text.rest [] text.accepts.formed formed text.accepts.spelled
      (sym (append-nil (log_text lines)))) [
        | inl front ↦ no_fault front.more text.rest what front.told front.rest text.fault
        | inr front ↦ no_fault_before front.more text.rest what front.rest text.fault
      ]
  | inr header ↦ header.lacks (flat_map ended_text lines) refl
]
