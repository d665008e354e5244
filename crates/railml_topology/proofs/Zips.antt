-- Two lists whose items are in a relation, place by place.
use Rattle.std.proofs.Common.{◌≡◌, ℕ, suc, zero, Some, List, [], ◌∷◌, ◌++◌, length, map, slice_get, refl, ap, subst}
use Rattle.std.specs.List.{AllByRecursion, AllZip}
use Rattle.std.proofs.lemmas.Option.{same_Some}

pub zip_joined : {A B : Type 0} (R : A → B → Type 0) (xs cs : List A) (ys ds : List B) → AllZip R xs ys → AllZip R cs ds → AllZip R (xs ++ cs) (ys ++ ds)
zip_joined R [] cs [] ds h k = k
zip_joined R [] cs (b ∷ ys) ds h k = absurd h
zip_joined R (a ∷ xs) cs [] ds h k = absurd h
zip_joined R (a ∷ xs) cs (b ∷ ys) ds h k = (h.0, zip_joined R xs cs ys ds h.1 k)

-- of places of two lists, with what is known of each of the first
pub zip_keyed : {A B C : Type 0} (P : A → Type 0) (R : A → B → Type 0) (S : C → B → Type 0) (f : A → C) → ((a : A) (b : B) → P a → R a b → S (f a) b) →
    (xs : List A) (ys : List B) → AllByRecursion P xs → AllZip R xs ys → AllZip S (map f xs) ys
zip_keyed P R S f keeps [] [] p h = tt
zip_keyed P R S f keeps [] (b ∷ ys) p h = absurd h
zip_keyed P R S f keeps (a ∷ xs) [] p h = absurd h
zip_keyed P R S f keeps (a ∷ xs) (b ∷ ys) p h = (keeps a b p.0 h.0, zip_keyed P R S f keeps xs ys p.1 h.1)

pub zip_length : {A B : Type 0} (R : A → B → Type 0) (xs : List A) (ys : List B) → AllZip R xs ys → length xs ≡ length ys
zip_length R [] [] h = refl
zip_length R [] (y ∷ ys) h = absurd h
zip_length R (x ∷ xs) [] h = absurd h
zip_length R (x ∷ xs) (y ∷ ys) h = ap (λ (n : ℕ). suc n) (zip_length R xs ys h.1)

-- the item at a place of the second list, with that of the first
pub zip_second : {A B : Type 0} (R : A → B → Type 0) (xs : List A) (ys : List B) → AllZip R xs ys → (k : ℕ) (y : B) → slice_get ys k ≡ Some y →
    (x : A) × (slice_get xs k ≡ Some x) × R x y
zip_second R [] [] h k y e = absurd cc
zip_second R [] (b ∷ ys) h k y e = absurd h
zip_second R (a ∷ xs) [] h k y e = absurd h
zip_second R (a ∷ xs) (b ∷ ys) h zero y e = (a, refl, (let same : b ≡ y = same_Some b y e in subst (λ v. R a v) same h.0))
zip_second R (a ∷ xs) (b ∷ ys) h (suc k) y e = zip_second R xs ys h.1 k y e

pub zip_first : {A B : Type 0} (R : A → B → Type 0) (xs : List A) (ys : List B) → AllZip R xs ys → (k : ℕ) (x : A) → slice_get xs k ≡ Some x →
    (y : B) × (slice_get ys k ≡ Some y) × R x y
zip_first R [] [] h k x e = absurd cc
zip_first R [] (b ∷ ys) h k x e = absurd h
zip_first R (a ∷ xs) [] h k x e = absurd h
zip_first R (a ∷ xs) (b ∷ ys) h zero x e = (b, refl, (let same : a ≡ x = same_Some a x e in subst (λ v. R v b) same h.0))
zip_first R (a ∷ xs) (b ∷ ys) h (suc k) x e = zip_first R xs ys h.1 k x e

pub zip_pushed : {A B : Type 0} (R : A → B → Type 0) (xs : List A) (ys : List B) (x : A) (y : B) → AllZip R xs ys → R x y →
    AllZip R (xs ++ x ∷ []) (ys ++ y ∷ [])
zip_pushed R xs ys x y h r = zip_joined R xs (x ∷ []) ys (y ∷ []) h (r, tt)
