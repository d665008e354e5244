-- What stands in a list, and in a list of which each two differ.
use Rattle.std.proofs.Common.{◌≡◌, ◌≢◌, ℕ, zero, suc, ◌+◌, ◌<◌, List, [], ◌∷◌, ◌++◌, length, map, get_or, Option, Some, None, refl, sym, ap, subst, inl, inr}
use Rattle.std.proofs.Common.{arith}
use Rattle.std.specs.Prelude.{◌⊎◌, AllPairs, Contains, slice_get, option_and_then}
use Rattle.std.specs.List.{flat_map, enumerate_from}
use Rattle.std.proofs.lemmas.List.Elements.{All-contains}
use Rattle.std.proofs.lemmas.Option.{same_Some, none-some}
use Rattle.plan_core.proofs.ListFacts.{pairs_head, pairs_tail, pairs_front}

-- x stands in the list
abbrev pub In : {X : Type 0} → X → List X → Type 0
In x [] = ⊥
In x (y ∷ ys) = (y ≡ x) ⊎ In x ys

pub contains_in : {X : Type 0} (xs : List X) (x : X) → In x xs → Contains xs x
contains_in [] x h = absurd h
contains_in (y ∷ ys) x (inl e) = (0, omega arith, e)
contains_in (y ∷ ys) x (inr h) = let c = contains_in ys x h in let within : c.0 < length ys = c.1 in (suc c.0, omega arith, c.2)

in_from : {X : Type 0} (xs : List X) (x : X) (k : ℕ) → k < length xs → get_or xs k x ≡ x → In x xs
in_from [] x k within e = absurd (omega arith)
in_from (y ∷ ys) x zero within e = inl e
in_from (y ∷ ys) x (suc k) within e = inr (in_from ys x k (omega arith) e)

pub in_contains : {X : Type 0} (xs : List X) (x : X) → Contains xs x → In x xs
in_contains xs x c = in_from xs x c.0 c.1 c.2

pub in_at : {X : Type 0} (xs : List X) (i : ℕ) (x : X) → slice_get xs i ≡ Some x → In x xs
in_at [] i x e = absurd (none-some x e)
in_at (y ∷ ys) zero x e = inl (same_Some y x e)
in_at (y ∷ ys) (suc i) x e = inr (in_at ys i x e)

pub at_in : {X : Type 0} (xs : List X) (x : X) → In x xs → (i : ℕ) × (slice_get xs i ≡ Some x)
at_in [] x h = absurd h
at_in {X} (y ∷ ys) x (inl e) = (0, ap (λ (z : X). Some z) e)
at_in (y ∷ ys) x (inr h) = let r = at_in ys x h in (suc r.0, r.1)

pub in_left : {X : Type 0} (xs ys : List X) (x : X) → In x xs → In x (xs ++ ys)
in_left [] ys x h = absurd h
in_left (y ∷ xs) ys x (inl e) = inl e
in_left (y ∷ xs) ys x (inr h) = inr (in_left xs ys x h)

pub in_right : {X : Type 0} (xs ys : List X) (x : X) → In x ys → In x (xs ++ ys)
in_right [] ys x h = h
in_right (y ∷ xs) ys x h = inr (in_right xs ys x h)

pub in_append : {X : Type 0} (xs ys : List X) (x : X) → In x (xs ++ ys) → In x xs ⊎ In x ys
in_append [] ys x h = inr h
in_append (y ∷ xs) ys x (inl e) = inl (inl e)
in_append (y ∷ xs) ys x (inr h) = elim (in_append xs ys x h) [ inl l ↦ inl (inr l) | inr r ↦ inr r ]

pub in_map : {X Y : Type 0} (f : X → Y) (xs : List X) (x : X) → In x xs → In (f x) (map f xs)
in_map f [] x h = absurd h
in_map f (y ∷ ys) x (inl e) = inl (ap f e)
in_map f (y ∷ ys) x (inr h) = inr (in_map f ys x h)

pub in_flat : {X Y : Type 0} (f : X → List Y) (xs : List X) (x : X) (y : Y) → In x xs → In y (f x) → In y (flat_map f xs)
in_flat f [] x y g h = absurd g
in_flat {Y = Y} f (z ∷ zs) x y (inl e) h = in_left (f z) (flat_map f zs) y (subst (λ (l : List Y). In y l) (ap f (sym e)) h)
in_flat f (z ∷ zs) x y (inr g) h = in_right (f z) (flat_map f zs) y (in_flat f zs x y g h)

-- the part in which an element of the whole stands
pub flat_in : {X Y : Type 0} (f : X → List Y) (xs : List X) (y : Y) → In y (flat_map f xs) → (i : ℕ) × (x : X) × (slice_get xs i ≡ Some x) × In y (f x)
flat_in f [] y h = absurd h
flat_in f (x ∷ xs) y h =
    elim (in_append (f x) (flat_map f xs) y h) [
      | inl l ↦ (0, x, refl, l)
      | inr r ↦ let s = flat_in f xs y r in (suc s.0, s.1, s.2, s.3)
    ]

-- the same where the parts are numbered
pub in_numbered : {X Y : Type 0} (f : ℕ → X → List Y) (n : ℕ) (xs : List X) (k : ℕ) (x : X) (y : Y) → slice_get xs k ≡ Some x → In y (f (n + k) x) →
    In y (flat_map (λ (kx : ℕ × X). f kx.0 kx.1) (enumerate_from n xs))
in_numbered f n [] k x y e h = absurd (none-some x e)
in_numbered {X} {Y} f n (z ∷ zs) zero x y e h =
    in_left (f n z) (flat_map (λ (kx : ℕ × X). f kx.0 kx.1) (enumerate_from (n + 1) zs)) y
    (subst (λ (m : ℕ). In y (f m z)) (omega arith) (subst (λ (w : X). In y (f (n + 0) w)) (sym (same_Some z x e)) h))
in_numbered {X} f n (z ∷ zs) (suc k) x y e h =
    in_right (f n z) (flat_map (λ (kx : ℕ × X). f kx.0 kx.1) (enumerate_from (n + 1) zs)) y
    (in_numbered f (n + 1) zs k x y e (subst (λ (m : ℕ). In y (f m x)) (omega arith) h))

pub numbered_in : {X Y : Type 0} (f : ℕ → X → List Y) (n : ℕ) (xs : List X) (y : Y) → In y (flat_map (λ (kx : ℕ × X). f kx.0 kx.1) (enumerate_from n xs)) →
    (k : ℕ) × (x : X) × (slice_get xs k ≡ Some x) × In y (f (n + k) x)
numbered_in f n [] y h = absurd h
numbered_in {X} f n (z ∷ zs) y h =
    elim (in_append (f n z) (flat_map (λ (kx : ℕ × X). f kx.0 kx.1) (enumerate_from (n + 1) zs)) y h) [
      | inl l ↦ (0, z, refl, subst (λ (m : ℕ). In y (f m z)) (omega arith) l)
      | inr r ↦ let s = numbered_in f (n + 1) zs y r in (suc s.0, s.1, s.2, subst (λ (m : ℕ). In y (f m s.1)) (omega arith) s.3)
    ]

pub bound : {X Y : Type 0} (f : X → Option Y) (o : Option X) (y : Y) → option_and_then f o ≡ Some y → (x : X) × (o ≡ Some x) × (f x ≡ Some y)
bound f None y e = absurd (none-some y e)
bound f (Some x) y e = (x, refl, e)

-- ---- lists of which each two stand in a relation

-- an element of the first list, and one of the second
pub pairs_across : {X : Type 0} (R : X → X → Type 0) (xs ys : List X) (a b : X) → AllPairs R (xs ++ ys) → In a xs → In b ys → R a b
pairs_across R [] ys a b pairs h k = absurd h
pairs_across {X} R (x ∷ xs) ys a b pairs (inl e) k =
    subst (λ (z : X). R z b) e (All-contains (R x) (xs ++ ys) b (pairs_head R x (xs ++ ys) pairs) (contains_in (xs ++ ys) b (in_right xs ys b k)))
pairs_across R (x ∷ xs) ys a b pairs (inr h) k = pairs_across R xs ys a b (pairs_tail R x (xs ++ ys) pairs) h k

pub pairs_right : {X : Type 0} (R : X → X → Type 0) (xs ys : List X) → AllPairs R (xs ++ ys) → AllPairs R ys
pairs_right R [] ys pairs = pairs
pairs_right R (x ∷ xs) ys pairs = pairs_right R xs ys (pairs_tail R x (xs ++ ys) pairs)

-- two elements of different places, where the relation holds both ways
pub pairs_at : {X : Type 0} (R : X → X → Type 0) (flip : (a b : X) → R a b → R b a) (xs : List X) (i j : ℕ) (a b : X) → AllPairs R xs →
    slice_get xs i ≡ Some a → slice_get xs j ≡ Some b → i ≢ j → R a b
pairs_at R flip [] i j a b pairs p q differ = absurd (none-some a p)
pairs_at R flip (x ∷ xs) zero zero a b pairs p q differ = absurd (differ refl)
pairs_at {X} R flip (x ∷ xs) zero (suc j) a b pairs p q differ =
    subst (λ (z : X). R z b) (same_Some x a p) (All-contains (R x) xs b (pairs_head R x xs pairs) (contains_in xs b (in_at xs j b q)))
pairs_at {X} R flip (x ∷ xs) (suc i) zero a b pairs p q differ =
    flip b a (subst (λ (z : X). R z a) (same_Some x b q) (All-contains (R x) xs a (pairs_head R x xs pairs) (contains_in xs a (in_at xs i a p))))
pairs_at R flip (x ∷ xs) (suc i) (suc j) a b pairs p q differ =
    pairs_at R flip xs i j a b (pairs_tail R x xs pairs) p q (λ e. differ (ap suc e))

-- elements of two different parts
pub pairs_apart : {X Y : Type 0} (R : Y → Y → Type 0) (flip : (a b : Y) → R a b → R b a) (f : X → List Y) (xs : List X) (i j : ℕ) (x y : X) (a b : Y) →
    AllPairs R (flat_map f xs) → slice_get xs i ≡ Some x → slice_get xs j ≡ Some y → i ≢ j → In a (f x) → In b (f y) → R a b
pairs_apart R flip f [] i j x y a b pairs p q differ h k = absurd (none-some x p)
pairs_apart R flip f (z ∷ zs) zero zero x y a b pairs p q differ h k = absurd (differ refl)
pairs_apart {Y = Y} R flip f (z ∷ zs) zero (suc j) x y a b pairs p q differ h k =
    pairs_across R (f z) (flat_map f zs) a b pairs (subst (λ (l : List Y). In a l) (ap f (sym (same_Some z x p))) h) (in_flat f zs y b (in_at zs j y q) k)
pairs_apart {Y = Y} R flip f (z ∷ zs) (suc i) zero x y a b pairs p q differ h k =
    flip b a (pairs_across R (f z) (flat_map f zs) b a pairs (subst (λ (l : List Y). In b l) (ap f (sym (same_Some z y q))) k)
    (in_flat f zs x a (in_at zs i x p) h))
pairs_apart R flip f (z ∷ zs) (suc i) (suc j) x y a b pairs p q differ h k =
    pairs_apart R flip f zs i j x y a b (pairs_right R (f z) (flat_map f zs) pairs) p q (λ e. differ (ap suc e)) h k

-- one part
pub pairs_within : {X Y : Type 0} (R : Y → Y → Type 0) (f : X → List Y) (xs : List X) (i : ℕ) (x : X) → AllPairs R (flat_map f xs) → slice_get xs i ≡ Some x →
    AllPairs R (f x)
pairs_within R f [] i x pairs p = absurd (none-some x p)
pairs_within {Y = Y} R f (z ∷ zs) zero x pairs p = subst (λ (l : List Y). AllPairs R l) (ap f (same_Some z x p)) (pairs_front R (f z) (flat_map f zs) pairs)
pairs_within R f (z ∷ zs) (suc i) x pairs p = pairs_within R f zs i x (pairs_right R (f z) (flat_map f zs) pairs) p
