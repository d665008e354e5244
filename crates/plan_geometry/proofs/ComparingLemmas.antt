-- Comparing values along an order, criterion after criterion.
use Rattle.std.proofs.Common.{◌≡◌, ◌≢◌, ℕ, ◌+◌, ◌<◌, true, List, ◌∷◌, Some, length, drop, inl, inr, sym, ◌∙◌, ap, subst, arith}
use Rattle.std.specs.Prelude.{◌↔◌, slice_get, nat_lt}
use Rattle.std.proofs.lemmas.List.{at_drop_more}
use Rattle.std.proofs.lemmas.Bool.Decides.{Decides-ltb}
use Rattle.std.proofs.lemmas.Option.{get_or_from_slice_get}
use Rattle.plan_core.specs.declared.criterion.Criterion.{Criterion}
use Rattle.plan_core.specs.declared.criterion.Values.{Values}
use Rattle.plan_core.specs.Values.{value_of, Better}

-- what is left of an order begins with the criterion at its place
left : (order : List Criterion) (i : ℕ) (c : Criterion) → i < length order → slice_get order i ≡ Some c → drop i order ≡ c ∷ drop (i + 1) order
left order i c within is_c =
    at_drop_more (λ xs. xs) order i c within ∙ ap (λ x. x ∷ drop (i + 1) order) (get_or_from_slice_get order i c c is_c)

-- where the two values are equal the rest decides
pub equal_values : (order : List Criterion) (i : ℕ) (c : Criterion) (a b : Values) → i < length order → slice_get order i ≡ Some c →
    value_of a c ≡ value_of b c → Better (drop i order) a b ↔ Better order a b → Better (drop (i + 1) order) a b ↔ Better order a b
equal_values order i c a b within is_c same so_far =
    let P : List Criterion → Type 0 = λ xs. Better xs a b in
    let e = left order i c within is_c in (
      (λ better. so_far.0 (subst P (sym e) (inr (same, better)))),
      (λ better. elim (subst P e (so_far.1 better)) [ inl less ↦ absurd (omega (arith, less, same)) | inr rest ↦ rest.1 ]),
    )

-- where they differ, these two decide
pub different_values : (order : List Criterion) (i : ℕ) (c : Criterion) (a b : Values) (first second : ℕ) → i < length order → slice_get order i ≡ Some c →
    first ≡ value_of a c → second ≡ value_of b c → first ≢ second → Better (drop i order) a b ↔ Better order a b →
    (nat_lt first second ≡ true) ↔ Better order a b
different_values order i c a b first second within is_c first_is second_is apart so_far =
    let P : List Criterion → Type 0 = λ xs. Better xs a b in
    let e = left order i c within is_c in
    let tests = Decides-ltb first second in (
      (λ less. let k = tests.0 less in so_far.0 (subst P (sym e) (inl (omega (arith, k, first_is, second_is))))),
      (λ better. elim (subst P e (so_far.1 better)) [
        | inl less ↦ tests.1 (omega (arith, less, first_is, second_is))
        | inr rest ↦ absurd (apart (first_is ∙ rest.0 ∙ sym second_is))
      ]),
    )
