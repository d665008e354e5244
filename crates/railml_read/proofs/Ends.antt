-- The last of a list, and texts that are told apart.
use Rattle.std.proofs.Common.{◌≡◌, ◌≢◌, ◌⊎◌, ℕ, ◌-◌, true, false, Some, List, [], ◌∷◌, ◌++◌, length, take, slice_get, refl, ap, inl, inr, length-append, arith}
use Rattle.std.specs.Prelude.{bytes_eq}
use Rattle.std.proofs.lemmas.List.{take_at}
use Rattle.std.proofs.lemmas.Slice.Eq.{bytes_eq-Decides}
use Rattle.plan_core.proofs.ListFacts.{get_last}

pub count_push : {X : Type 0} (xs : List X) (x : X) → length (xs ++ x ∷ []) - 1 ≡ length xs
count_push xs x = omega (arith, length-append xs (x ∷ []))

pub last_push : {X : Type 0} (xs : List X) (x : X) → slice_get (xs ++ x ∷ []) (length (xs ++ x ∷ []) - 1) ≡ Some x
last_push xs x = rw (count_push xs x) (get_last xs x)

pub front_push : {X : Type 0} (xs : List X) (x : X) → take (length (xs ++ x ∷ []) - 1) (xs ++ x ∷ []) ≡ xs
front_push xs x = rw (count_push xs x) (take_at xs (x ∷ []) (length xs) refl)

pub none_pushed : {X : Type 0} (xs : List X) (x : X) → xs ++ x ∷ [] ≢ []
none_pushed xs x e = omega (arith, length-append xs (x ∷ []), ap length e)

pub length_none : {X : Type 0} (xs : List X) → length xs ≡ 0 → xs ≡ []
length_none [] e = refl
length_none (x ∷ xs) e = absurd (omega arith)

-- equal or not
pub same_or_not : (a b : List ℕ) → (a ≡ b) ⊎ (a ≢ b)
same_or_not a b = elim (bytes_eq a b) as (λ v. bytes_eq a b ≡ v → (a ≡ b) ⊎ (a ≢ b)) [
  | true ↦ λ e. inl ((bytes_eq-Decides a b).0 e)
  | false ↦ λ e. inr (λ same. let yes = (bytes_eq-Decides a b).1 same in cc)
] refl

pub bytes_eq_true : (a b : List ℕ) → bytes_eq a b ≡ true → a ≡ b
bytes_eq_true a b = (bytes_eq-Decides a b).0
