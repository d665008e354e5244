-- Looking through a list, one after another.
use Rattle.std.proofs.Common.{◌≡◌, ℕ, ◌<◌, ◌≤◌, ◌+◌, ◌⊎◌, Bool, false, true≢false, List, length, Some, slice_get, get_or, refl, sym, ◌∙◌, ap, subst, inl, inr}
use Rattle.std.proofs.Common.{arith}
use Rattle.std.specs.Prelude.{IsTrue}
use Rattle.std.proofs.lemmas.Option.{slice_get_read, same_Some}
use Rattle.std.proofs.lemmas.Bool.{cases_lt}
use Rattle.plan_core.specs.Searching.{NoneBefore, IsFirst}

pub none_at_start : {X : Type 0} (P : ℕ → X → Type 0) (xs : List X) → NoneBefore P xs 0
none_at_start P xs = record { none = λ i x below. absurd (omega arith) }

-- one more, which is read from the list, has it not either
pub none_more : {X : Type 0} {P : ℕ → X → Type 0} {xs : List X} {i : ℕ} {x : X} → NoneBefore P xs i → i < length xs → x ≡ get_or xs i x → (P i x → ⊥) →
    NoneBefore P xs (i + 1)
none_more {X} {P} {xs} {i} {x} before within is not = record { none = λ k other below at had. by k other below at had (cases_lt k i) }
  where
    here : slice_get xs i ≡ Some x
    here = slice_get_read xs (length xs) i x refl within is

    last : (k : ℕ) (other : X) → k ≡ i → slice_get xs k ≡ Some other → P k other → ⊥
    last k other same at had =
        let one : other ≡ x = same_Some other x (sym at ∙ (ap (slice_get xs) same ∙ here)) in
        not (subst (λ (e : X). P i e) one (subst (λ (n : ℕ). P n other) same had))

    by : (k : ℕ) (other : X) → k < i + 1 → slice_get xs k ≡ Some other → P k other → (k < i) ⊎ (i ≤ k) → ⊥
    by k other below at had (inl before_i) = before.none k other before_i at had
    by k other below at had (inr from_i) = let same : k ≡ i = omega arith in last k other same at had

-- it fails a test that it would pass if it had it
pub none_more_tested : {X : Type 0} {P : ℕ → X → Type 0} {xs : List X} {i : ℕ} {x : X} (b : Bool) → NoneBefore P xs i → i < length xs → x ≡ get_or xs i x →
    (P i x → IsTrue b) → b ≡ false → NoneBefore P xs (i + 1)
none_more_tested {X} {P} {xs} {i} {x} b before within is passes fails = none_more before within is (λ had. true≢false (sym (passes had) ∙ fails))

-- it has it
pub found_first : {X : Type 0} {P : ℕ → X → Type 0} {xs : List X} {i : ℕ} {x : X} → NoneBefore P xs i → i < length xs → x ≡ get_or xs i x → P i x →
    IsFirst P xs i
found_first {X} {P} {xs} {i} {x} before within is holds = record {
  x = x;
  is = slice_get_read xs (length xs) i x refl within is;
  holds = holds;
  before = before;
}

-- what is found is told in other words
pub none_restated : {X : Type 0} {P : ℕ → X → Type 0} {Q : ℕ → X → Type 0} {xs : List X} {n : ℕ} → ((i : ℕ) (x : X) → slice_get xs i ≡ Some x → Q i x → P i x) →
    NoneBefore P xs n → NoneBefore Q xs n
none_restated back before = record { none = λ i x below at had. before.none i x below at (back i x at had) }

pub first_restated : {X : Type 0} {P : ℕ → X → Type 0} {Q : ℕ → X → Type 0} {xs : List X} {n : ℕ} →
    ((i : ℕ) (x : X) → slice_get xs i ≡ Some x → P i x → Q i x) → ((i : ℕ) (x : X) → slice_get xs i ≡ Some x → Q i x → P i x) → IsFirst P xs n → IsFirst Q xs n
first_restated {n = n} there back f = record { x = f.x; is = f.is; holds = there n f.x f.is f.holds; before = none_restated back f.before }

-- whatever stands there, it has it not either
pub none_more_at : {X : Type 0} {P : ℕ → X → Type 0} {xs : List X} {i : ℕ} → NoneBefore P xs i → ((x : X) → P i x → ⊥) → NoneBefore P xs (i + 1)
none_more_at {X} {P} {xs} {i} before not = record {
  none = λ k other below at had. elim (cases_lt k i) [
    | inl less ↦ before.none k other less at had
    | inr from ↦ (let same : k ≡ i = omega arith in not other (subst (λ n. P n other) same had))
  ];
}
