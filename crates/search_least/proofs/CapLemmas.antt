-- The caps of the criteria, one place after another.
use Rattle.std.proofs.Common.{◌≡◌, ◌≢◌, ℕ, zero, suc, ◌+◌, ◌<◌, ◌≤◌, ◌⊎◌, List, take, refl, sym, ◌∙◌, ap, subst, inl, inr, arith, add-one}
use Rattle.std.specs.Prelude.{Contains, Some, slice_get}
use Rattle.std.proofs.lemmas.List.Elements.{Contains-push}
use Rattle.std.proofs.lemmas.Option.{same_Some}
use Rattle.plan_core.specs.declared.criterion.Criterion.{Criterion}
use Rattle.plan_core.specs.Values.{values_of, value_of}
use Rattle.plan_core.specs.Drawing.{Drawing}
use Rattle.plan_core.specs.Order.{IsOrder}
use Rattle.search_least.specs.Task.{Task, IsLawful, greatest_of}
use Rattle.search_least.specs.Reached.{HasSameValues}
use Rattle.search_least.specs.Caps.{AllZero, IsCapAt, IsTurn, IsByTurns, AreCapped, WasReached}
use Rattle.search_least.proofs.LowerLemmas.{take_of_take, at_place, same_then}
use Rattle.search_least.proofs.RunLemmas.{no_more}
use Rattle.search_least.proofs.BuildLemmas.{places_apart, take_next}
use Rattle.search_least.proofs.BeforeLemmas.{before_other, in_next}

-- the same turns with other caps, where those of their criteria are the same
comes_with : (p : Task) (order : List Criterion) (s : ℕ) (d : Drawing) (f h : Criterion → ℕ) →
    ((j : ℕ) (m : Criterion) → j < s → slice_get order j ≡ Some m → h m ≡ f m) → IsByTurns p order s d f → IsByTurns p order s d h
comes_with p order zero d f h same k = tt
comes_with p order (suc i) d f h same k =
    let turn : IsTurn p order i k.0 d f = k.1 in (
      k.0,
      record {
        lawful = turn.lawful;
        criterion = turn.criterion;
        at = turn.at;
        built = subst (IsCapAt (greatest_of p) order i turn.criterion (values_of k.0)) (sym (same i turn.criterion (omega arith) turn.at)) turn.built;
        left = turn.left;
      },
      comes_with p order i k.0 f h (λ j m lt at. same j m (omega arith) at) k.2,
    )

-- the same caps, criterion by criterion
pub capped_same : (p : Task) (order : List Criterion) (s : ℕ) (d : Drawing) (f h : Criterion → ℕ) → ((c : Criterion) → h c ≡ f c) → AreCapped p order s d f →
    AreCapped p order s d h
capped_same p order s d f h same k = record {
  turns = comes_with p order s d f h (λ j m lt at. same m) k.turns;
  no_other = λ c out. same c ∙ k.no_other c out;
}

-- no criterion was reached yet
pub capped_first : (p : Task) (order : List Criterion) (d : Drawing) (f : Criterion → ℕ) → ((c : Criterion) → f c ≡ 0) → AreCapped p order 0 d f
capped_first p order d f z = record { turns = tt; no_other = λ c out. z c }

-- one turn more, in which no cap but its criterion's changes
pub capped_next : (p : Task) (order : List Criterion) (i : ℕ) (reached d : Drawing) (f h : Criterion → ℕ) (turn : IsTurn p order i reached d h) →
    IsOrder order → ((m : Criterion) → turn.criterion ≢ m → h m ≡ f m) →
    AreCapped p order i reached f → AreCapped p order (i + 1) d h
capped_next p order i reached d f h turn is other k =
    let c : Criterion = turn.criterion in
    let here : Contains (take (i + 1) order) c = subst (λ (cs : List Criterion). Contains cs c) (sym (take_next order i c turn.at))
    (Contains-push (take i order) c) in
    let before : IsByTurns p order i reached h = comes_with p order i reached f h
    (λ j m lt there. other m (λ e. places_apart order j i m c is lt there turn.at (sym e))) k.turns in
    record {
      turns = subst (λ n. IsByTurns p order n d h) (sym (add-one i)) (reached, turn, before);
      no_other = λ m out. other m (λ e. out (subst (Contains (take (i + 1) order)) e here)) ∙ k.no_other m (λ there. out (in_next order i c m turn.at there));
    }

unbuilt : (p : Task) (order : List Criterion) (i : ℕ) (c : Criterion) (d : Drawing) (f : Criterion → ℕ) → IsOrder order → slice_get order i ≡ Some c →
    AreCapped p order i d f → f c ≡ 0
unbuilt p order i c d f is at k = k.no_other c (λ there. before_other order i c c is at there refl)

-- the criterion is passed without bounds: all values are 0 from there on
pub capped_zeros : (p : Task) (order : List Criterion) (i : ℕ) (c : Criterion) (d : Drawing) (f : Criterion → ℕ) → IsOrder order → slice_get order i ≡ Some c →
    IsLawful p d → AllZero order i (values_of d) → AreCapped p order i d f → AreCapped p order (i + 1) d f
capped_zeros p order i c d f is at lawful z k =
    let turn : IsTurn p order i d d f = record {
      lawful = lawful;
      criterion = c;
      at = at;
      built = record {
        none = λ all. unbuilt p order i c d f is at k;
        some = λ not_all. absurd (not_all z);
      };
      left = inl refl;
    } in
    capped_next p order i d d f f turn is (λ m apart. refl) k

-- or its value can only be 0
pub capped_only_zero : (p : Task) (order : List Criterion) (i : ℕ) (c : Criterion) (d : Drawing) (f : Criterion → ℕ) → IsOrder order →
    slice_get order i ≡ Some c → IsLawful p d → greatest_of p c ≡ 0 → AreCapped p order i d f → AreCapped p order (i + 1) d f
capped_only_zero p order i c d f is at lawful only k =
    let none : f c ≡ 0 = unbuilt p order i c d f is at k in
    let turn : IsTurn p order i d d f = record {
      lawful = lawful;
      criterion = c;
      at = at;
      built = record { none = λ all. none; some = λ not_all. omega (arith, none, only) };
      left = inl refl;
    } in
    capped_next p order i d d f f turn is (λ m apart. refl) k

-- ---- the drawing with which one criterion was reached

-- the drawing that a turn leaves has the values before it of the one that it reached
same_left : (p : Task) (order : List Criterion) (i : ℕ) (reached d : Drawing) (cap : Criterion → ℕ) → IsTurn p order i reached d cap →
    HasSameValues order i (values_of reached) (values_of d)
same_left p order i reached d cap turn = elim turn.left [
  | inl e ↦ subst (λ (x : Drawing). HasSameValues order i (values_of reached) (values_of x)) (sym e) (λ n c lt. refl)
  | inr less ↦ less.1
]

-- and no more of its criterion
no_more_left : (p : Task) (order : List Criterion) (i : ℕ) (reached d : Drawing) (cap : Criterion → ℕ) (turn : IsTurn p order i reached d cap) →
    value_of (values_of d) turn.criterion ≤ value_of (values_of reached) turn.criterion
no_more_left p order i reached d cap turn = no_more reached d turn.criterion (elim turn.left [ inl e ↦ inl e | inr less ↦ inr less.0 ])

-- so it is of the drawing that a later turn leaves
reached_before : (p : Task) (order : List Criterion) (s i : ℕ) (c : Criterion) (last d : Drawing) (cap : Criterion → ℕ) → IsTurn p order s last d cap → i < s →
    slice_get order i ≡ Some c → WasReached p order i c last cap → WasReached p order i c d cap
reached_before p order s i c last d cap turn lt at r =
    let P : Criterion → Type 0 = λ e. value_of (values_of last) e ≡ value_of (values_of d) e in
    let alike : HasSameValues order s (values_of last) (values_of d) = same_left p order s last d cap turn in
    let same : value_of (values_of last) c ≡ value_of (values_of d) c = at_place order s i c P lt at alike in
    let no_less : value_of (values_of last) c ≤ value_of (values_of r.0) c = r.3 in (
      r.0,
      r.1,
      same_then order i (values_of r.0) (values_of last) (values_of d) r.2 (take_of_take order s i P (omega arith) alike),
      omega
          (arith, same, no_less),
      r.4,
    )

-- and of its own turn's
reached_here : (p : Task) (order : List Criterion) (s i : ℕ) (c : Criterion) (last d : Drawing) (cap : Criterion → ℕ) → IsTurn p order s last d cap → i ≡ s →
    slice_get order i ≡ Some c → WasReached p order i c d cap
reached_here p order s i c last d cap turn e at =
    let one : turn.criterion ≡ c = same_Some turn.criterion c (sym turn.at ∙ ap (λ n. slice_get order n) (sym e) ∙ at) in
    let here : WasReached p order s turn.criterion d cap = (
      last,
      turn.lawful,
      same_left p order s last d cap turn,
      no_more_left p order s last d cap turn,
      turn.built,
    ) in
    subst (λ n. WasReached p order n c d cap) (sym e) (subst (λ m. WasReached p order s m d cap) one here)

earlier_or_last : (i s : ℕ) → i < suc s → (i < s) ⊎ (i ≡ s)
earlier_or_last i s lt = grind (arith, lt)

reached_with : (p : Task) (order : List Criterion) (s : ℕ) (d : Drawing) (cap : Criterion → ℕ) → IsByTurns p order s d cap → (i : ℕ) (c : Criterion) → i < s →
    slice_get order i ≡ Some c → WasReached p order i c d cap
reached_with p order zero d cap k i c lt at = absurd (omega arith)
reached_with p order (suc s) d cap k i c lt at = elim (earlier_or_last i s lt) [
  | inl before ↦ reached_before p order s i c k.0 d cap k.1 before at (reached_with p order s k.0 cap k.2 i c before at)
  | inr last ↦ reached_here p order s i c k.0 d cap k.1 last at
]

pub capped_each : (p : Task) (order : List Criterion) (s : ℕ) (d : Drawing) (cap : Criterion → ℕ) → AreCapped p order s d cap → (i : ℕ) (c : Criterion) →
    i < s → slice_get order i ≡ Some c → WasReached p order i c d cap
capped_each p order s d cap k i c lt at = reached_with p order s d cap k.turns i c lt at
