-- Lists whose elements stand in another list, in its order.
use Rattle.std.proofs.Common.{◌≡◌, ◌≤◌, ◌⊎◌, inl, inr, List, [], ◌∷◌, ◌++◌, length, refl, sym, ap, subst, arith, map, get_or}
use Rattle.std.specs.Prelude.{All, AllPairs}
use Rattle.std.specs.List.{flat_map}
use Rattle.std.proofs.lemmas.List.Elements.{All-nil, All-cons, All-head, All-tail}
use Rattle.std.proofs.lemmas.List.Kept.{AllPairs-cons}
use Rattle.std.proofs.Math.ListN.{get_or-map}
use Rattle.std.proofs.lemmas.List.{length-map}
use Rattle.plan_core.proofs.ListFacts.{pairs_head, pairs_tail}

-- xs has some of the elements of ys, in their order
abbrev pub IsSublist : {A : Type 0} → List A → List A → Type 0
IsSublist xs [] = xs ≡ []
IsSublist {A} xs (y ∷ ys) = IsSublist xs ys ⊎ ((rest : List A) × (xs ≡ y ∷ rest) × IsSublist rest ys)

pub sublist-nil : {A : Type 0} (ys : List A) → IsSublist [] ys
sublist-nil [] = refl
sublist-nil (y ∷ ys) = inl (sublist-nil ys)

pub sublist-refl : {A : Type 0} (ys : List A) → IsSublist ys ys
sublist-refl [] = refl
sublist-refl (y ∷ ys) = inr (ys, refl, sublist-refl ys)

pub sublist-append : {A : Type 0} (xs ys us vs : List A) → IsSublist xs ys → IsSublist us vs → IsSublist (xs ++ us) (ys ++ vs)
sublist-append {A} xs [] us vs p q = subst (λ (l : List A). IsSublist (l ++ us) vs) (sym p) q
sublist-append xs (y ∷ ys) us vs (inl p) q = inl (sublist-append xs ys us vs p q)
sublist-append xs (y ∷ ys) us vs (inr (rest, is, p)) q = inr (rest ++ us, ap (λ l. l ++ us) is, sublist-append rest ys us vs p q)

-- what the list begins with may be left out
pub sublist-after : {A : Type 0} (xs us vs : List A) → IsSublist us vs → IsSublist us (xs ++ vs)
sublist-after xs us vs p = sublist-append [] xs us vs (sublist-nil xs) p

pub sublist-flat_map : {X A : Type 0} (f g : X → List A) (xs : List X) → ((x : X) → IsSublist (f x) (g x)) → IsSublist (flat_map f xs) (flat_map g xs)
sublist-flat_map f g [] each = refl
sublist-flat_map f g (x ∷ xs) each = sublist-append (f x) (g x) (flat_map f xs) (flat_map g xs) (each x) (sublist-flat_map f g xs each)

pub sublist-length : {A : Type 0} (xs ys : List A) → IsSublist xs ys → length xs ≤ length ys
sublist-length xs [] p = let e = ap length p in omega (arith, e)
sublist-length xs (y ∷ ys) (inl p) = let h = sublist-length xs ys p in omega (arith, h)
sublist-length xs (y ∷ ys) (inr (rest, is, p)) = let h = sublist-length rest ys p in let e = ap length is in omega (arith, h, e)

-- what holds of each element holds of those
pub sublist-All : {A : Type 0} (P : A → Type 0) (xs ys : List A) → IsSublist xs ys → All P ys → All P xs
sublist-All P xs [] p all = subst (All P) (sym p) (All-nil P)
sublist-All P xs (y ∷ ys) (inl p) all = sublist-All P xs ys p (All-tail P y ys all)
sublist-All P xs (y ∷ ys) (inr (rest, is, p)) all = subst (All P) (sym is) (All-cons P y rest (All-head P y ys all)
    (sublist-All P rest ys p (All-tail P y ys all)))

-- what holds of each two elements holds of those
pub sublist-AllPairs : {A : Type 0} (R : A → A → Type 0) (xs ys : List A) → IsSublist xs ys → AllPairs R ys → AllPairs R xs
sublist-AllPairs R xs [] p pairs = λ i j d less within. absurd (let e = ap length p in omega (arith, e))
sublist-AllPairs R xs (y ∷ ys) (inl p) pairs = sublist-AllPairs R xs ys p (pairs_tail R y ys pairs)
sublist-AllPairs R xs (y ∷ ys) (inr (rest, is, p)) pairs =
    subst (AllPairs R) (sym is) (AllPairs-cons R y rest (sublist-All (R y) rest ys p (pairs_head R y ys pairs))
    (sublist-AllPairs R rest ys p (pairs_tail R y ys pairs)))

-- what holds of each two images holds of each two
pub pairs_of_map : {X Y : Type 0} (R : Y → Y → Type 0) (f : X → Y) (xs : List X) → AllPairs R (map f xs) → AllPairs (λ (x y : X). R (f x) (f y)) xs
pairs_of_map {Y = Y} R f xs pairs i j d less within =
    subst (λ (z : Y). R z (f (get_or xs j d))) (get_or-map f xs i d)
    (subst (λ (z : Y). R (get_or (map f xs) i (f d)) z) (get_or-map f xs j d) (pairs i j (f d) less (omega (arith, length-map xs f))))
