use Rattle.std.proofs.Common.{◌≡◌, ℕ, List, [], ◌∷◌, Some, subst}
use Rattle.std.specs.Prelude.{Option, slice_get}
use Rattle.std.proofs.lemmas.List.Elements.{All-nil, All-cons, All-contains}
use Rattle.plan_core.specs.Searching.{IsFirst, FindsFirst}
use Rattle.cnf_core.specs.Lit.{Literal}
use Rattle.refute_log.specs.declared.line.LogLine.{LogLine}
use Rattle.refute_log.specs.declared.line.LogLine.TheVariants.{Formula, Learnt, Bound, Query, Refuted, Model}
use Rattle.refute_log.specs.Told.{Lines}
use Rattle.refute_log.specs.Log.{IsRefutedWithin}
use Rattle.log_trim.specs.Trimmed.{AreRefutedLines}
use Rattle.cases_refutation.proofs.trimming.left_of.Goals as goal

abbrev IsRefutedAt : Lines → ℕ → Type 0
IsRefutedAt lines p = (c : List Literal) × (slice_get lines p ≡ Some (Refuted c))

refuted_there : (lines : Lines) (p : ℕ) (line : LogLine) → slice_get lines p ≡ Some line → IsRefutedWithin [] line → IsRefutedAt lines p
refuted_there lines p (Formula c) e h = absurd h
refuted_there lines p (Learnt c) e h = absurd h
refuted_there lines p (Bound x k v) e h = absurd h
refuted_there lines p (Query c) e h = absurd h
refuted_there lines p (Refuted c) e h = (c, e)
refuted_there lines p Model e h = absurd h

one_wanted : (lines : Lines) (found : Option ℕ) (p : ℕ) → found ≡ Some p → FindsFirst (λ _ line. IsRefutedWithin [] line) lines found →
    AreRefutedLines lines (p ∷ [])
one_wanted lines found p is finds =
    let first : IsFirst (λ _ line. IsRefutedWithin [] line) lines p = subst (λ (f : Option ℕ). FindsFirst (λ _ line. IsRefutedWithin [] line) lines f) is
    finds in
    λ q among. All-contains (IsRefutedAt lines) (p ∷ []) q (All-cons (IsRefutedAt lines) p [] (refuted_there lines p first.x first.is first.holds)
    (All-nil (IsRefutedAt lines))) among

pub trim-requires : goal.trim-requires
trim-requires c = one_wanted c.args.lines.now c.first_refuted.result c.in-Some.place c.in-Some.is c.first_refuted.ensures
