-- Elements of a list by their place.
use Rattle.std.proofs.Common.{◌≡◌, ℕ, zero, suc, ◌+◌, ◌⊎◌, inl, inr, List, [], ◌∷◌, ◌++◌, length, map, Some, None, refl, ap, ◌∙◌, arith, zero-add}
use Rattle.std.specs.Prelude.{slice_get, Contains}
use Rattle.std.proofs.lemmas.Option.{slice_get_within, get_or_from_slice_get, slice_get-get_or}

-- an element of two lists joined is one of the front or one of the back
pub place_cases : {A : Type 0} (xs ys : List A) (i : ℕ) (x : A) → slice_get (xs ++ ys) i ≡ Some x →
    (slice_get xs i ≡ Some x) ⊎ ((n : ℕ) × (length xs + n ≡ i) × (slice_get ys n ≡ Some x))
place_cases [] ys i x is = inr (i, zero-add i, is)
place_cases (z ∷ xs) ys zero x is = inl is
place_cases (z ∷ xs) ys (suc i) x is = elim (place_cases xs ys i x is) [
  | inl here ↦ inl here
  | inr there ↦ inr (there.0, (let e = there.1 in omega (arith, e)), there.2)
]

-- an element that is contained stands at some place, and the other way
pub place_of : {A : Type 0} (xs : List A) (x : A) → Contains xs x → (n : ℕ) × (slice_get xs n ≡ Some x)
place_of xs x there = (there.0, slice_get-get_or xs there.0 x there.1 ∙ ap Some there.2)

pub contained : {A : Type 0} (xs : List A) (n : ℕ) (x : A) → slice_get xs n ≡ Some x → Contains xs x
contained xs n x is = (n, slice_get_within xs n x is, get_or_from_slice_get xs n x x is)

-- what stands at a place of an image
pub place_map : {A B : Type 0} (f : A → B) (xs : List A) (n : ℕ) (x : A) → slice_get xs n ≡ Some x → slice_get (map f xs) n ≡ Some (f x)
place_map {A} f [] n x is = absurd (let e : None ≡ Some x = is in cc)
place_map f (z ∷ xs) zero x is = let e : z ≡ x = cc in ap (λ y. Some (f y)) e
place_map f (z ∷ xs) (suc n) x is = place_map f xs n x is

pub place_map_from : {A B : Type 0} (f : A → B) (xs : List A) (n : ℕ) (y : B) → slice_get (map f xs) n ≡ Some y →
    (x : A) × (slice_get xs n ≡ Some x) × (f x ≡ y)
place_map_from f [] n y is = absurd (let e : None ≡ Some y = is in cc)
place_map_from f (z ∷ xs) zero y is = (z, refl, (let e : Some (f z) ≡ Some y = is in cc))
place_map_from f (z ∷ xs) (suc n) y is = place_map_from f xs n y is

-- at each place of a list something stands
