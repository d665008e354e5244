-- Lists of places.
use Rattle.std.proofs.Common.{◌≡◌, ◌≢◌, ℕ, zero, suc, ◌+◌, ◌-◌, ◌<◌, ◌≤◌, Bool, true, false, List, [], ◌∷◌, ◌++◌, length, get_or, take, drop, refl, sym, ◌∙◌}
use Rattle.std.proofs.Common.{ap, subst, inl, inr, arith, append-nil, append_assoc, length-append, map, drop-cons, ◌⊎◌}
use Rattle.std.specs.Prelude.{◌||◌, ◌==◌, slice_index_or}
use Rattle.std.specs.List.{All, AllPairs, Contains, remove}
use Rattle.std.proofs.lemmas.List.{get_or_append_left, take-map, drop-map, map-append}
use Rattle.std.proofs.Math.Seq.{get_or-append_seam}
use Rattle.std.proofs.lemmas.Bool.Decides.{nat_tests}
use Rattle.std.proofs.lemmas.List.Elements.{All-nil, All-cons, All-weaker, Contains-get_or, Contains-append_cases}
use Rattle.std.proofs.lemmas.List.Kept.{AllPairs-cons}
use Rattle.std.proofs.lemmas.List.Quantifiers.{all_pairs_push}
use Rattle.search_why.specs.Narrowed.{countdown, has_number}
use Rattle.plan_core.proofs.ListFacts.{pairs_tail}
use Rattle.plan_core.proofs.Listing.{Contains-head, Contains-tail}

-- ---- parts of lists

pub all_last : {X : Type 0} (P : X → Type 0) (xs : List X) (y : X) → All P (xs ++ y ∷ []) → P y
all_last P xs y h = subst P (get_or-append_seam xs y [] y) (h (length xs) y (let n = length-append xs (y ∷ []) in omega arith))

pub pairs_last : {X : Type 0} (R : X → X → Type 0) (xs : List X) (y x : X) → AllPairs R (xs ++ y ∷ []) → Contains xs x → R x y
pairs_last R xs y x h c =
    let n = length-append xs (y ∷ []) in
    let k = c.0 in
    let lt : k < length xs = c.1 in
    let is : slice_index_or xs k x ≡ x = c.2 in
    subst (λ a. R a y) (get_or_append_left xs (y ∷ []) x k lt ∙ is)
    (subst (R (slice_index_or (xs ++ y ∷ []) k x)) (get_or-append_seam xs y [] x) (h k (length xs) x lt (omega arith)))

-- the tail of pairs
pub pairs_head : {X : Type 0} (R : X → X → Type 0) (x y : X) (xs : List X) → AllPairs R (x ∷ xs) → Contains xs y → R x y
pairs_head R x y xs h c =
    let k = c.0 in
    let lt : k < length xs = c.1 in
    let is : slice_index_or xs k y ≡ y = c.2 in
    subst (R x) is (h 0 (suc k) y (omega arith) (omega arith))

pub pairs_both : {X : Type 0} (R : X → X → Type 0) (xs ys : List X) → AllPairs R xs → AllPairs R ys → ((a b : X) → Contains xs a → Contains ys b → R a b) →
    AllPairs R (xs ++ ys)
pairs_both R xs [] p q h = subst (AllPairs R) (sym (append-nil xs)) p
pairs_both R xs (y ∷ ys) p q h = subst (AllPairs R) (append_assoc xs (y ∷ []) ys)
    (pairs_both R (xs ++ y ∷ []) ys
    (all_pairs_push R xs y p (λ k d lt. h (get_or xs k d) y (Contains-get_or xs k d lt) (Contains-head y ys)))
    (pairs_tail R y ys q)
    (λ a b ca cb. elim (Contains-append_cases xs (y ∷ []) a ca) [
      | inl there ↦ h a b there (Contains-tail y ys b cb)
      | inr last ↦ subst (λ z. R z b) (last_is y a last) (pairs_head R y b ys q cb)
    ]))
  where
    last_is : {X : Type 0} (y a : X) → Contains (y ∷ []) a → y ≡ a
    last_is y a (zero, lt, is) = is
    last_is y a (suc k, lt, is) = absurd (omega (arith, lt))

pub remove_map : {X Y : Type 0} (f : X → Y) (xs : List X) (i : ℕ) → remove (map f xs) i ≡ map f (remove xs i)
remove_map f xs i = ap (λ z. z ++ drop (suc i) (map f xs)) (take-map f i xs) ∙ ap (λ z. map f (take i xs) ++ z) (drop-map f (suc i) xs)
    ∙ sym (map-append f (take i xs) (drop (suc i) xs))

-- ---- all places

pub countdown_below : (n : ℕ) → All (λ k. k < n) (countdown n)
countdown_below zero = All-nil (λ k. k < 0)
countdown_below (suc n) = All-cons (λ k. k < suc n) n (countdown n) (omega arith)
    (All-weaker (λ k. k < n) (λ k. k < suc n) (λ k lt. omega arith) (countdown n) (countdown_below n))

pub countdown_once : (n : ℕ) → AllPairs (λ a b. a ≢ b) (countdown n)
countdown_once zero = λ i j d lt within. absurd (omega (arith, within))
countdown_once (suc n) = AllPairs-cons (λ a b. a ≢ b) n (countdown n) (All-weaker (λ k. k < n) (λ k. n ≢ k) (λ k lt e. omega (arith, lt, e)) (countdown n)
    (countdown_below n)) (countdown_once n)

pub countdown_has : (n k : ℕ) → k < n → Contains (countdown n) k
countdown_has zero k lt = absurd (omega (arith, lt))
countdown_has (suc n) k lt = elim (split k n lt) [
  | inl less ↦ Contains-tail n (countdown n) k (countdown_has n k less)
  | inr same ↦ subst (Contains (n ∷ countdown n)) (sym same) (Contains-head n (countdown n))
]
  where
    split : (k n : ℕ) → k < suc n → (k < n) ⊎ (k ≡ n)
    split k n lt = grind (arith, lt)

-- ---- numbers of a list

pub has_contained : (xs : List ℕ) (n : ℕ) → Contains xs n → has_number xs n ≡ true
has_contained [] n (k, lt, is) = absurd (omega (arith, lt))
has_contained (x ∷ xs) n (zero, lt, is) = grind (arith, is)
has_contained (x ∷ xs) n (suc k, lt, is) = or_right (x == n) (has_number xs n) (has_contained xs n (k, omega (arith, lt), is))
  where
    or_right : (a b : Bool) → b ≡ true → (a || b) ≡ true
    or_right true b h = refl
    or_right false b h = h

-- ---- loops

pub countdown_next : (n i : ℕ) → i < n → countdown (n - i) ≡ (n - 1 - i) ∷ countdown (n - (i + 1))
countdown_next n i lt = let e : n - i ≡ suc (n - 1 - i) = omega arith in let f : n - 1 - i ≡ n - (i + 1) = omega arith in ap countdown e
    ∙ ap (λ k. (n - 1 - i) ∷ countdown k) f

number_next : (xs : List ℕ) (i n : ℕ) → i < length xs → has_number (drop i xs) n ≡ ((get_or xs i 0 == n) || has_number (drop (i + 1) xs) n)
number_next xs i n lt = let e : suc i ≡ i + 1 = omega arith in ap (λ ys. has_number ys n) (drop-cons xs i 0 lt)
    ∙ ap (λ k. (get_or xs i 0 == n) || has_number (drop k xs) n) e

pub number_here : (xs : List ℕ) (i n : ℕ) → i < length xs → get_or xs i 0 ≡ n → has_number (drop i xs) n ≡ true
number_here xs i n lt same =
    let test : (get_or xs i 0 == n) ≡ true = grind (arith, nat_tests, same) in
    number_next xs i n lt ∙ ap (λ b. b || has_number (drop (i + 1) xs) n) test

pub number_later : (xs : List ℕ) (i n : ℕ) → i < length xs → (get_or xs i 0 ≡ n → ⊥) → has_number (drop i xs) n ≡ has_number (drop (i + 1) xs) n
number_later xs i n lt other =
    let test : (get_or xs i 0 == n) ≡ false = grind (arith, nat_tests, other) in
    number_next xs i n lt ∙ ap (λ b. b || has_number (drop (i + 1) xs) n) test

nothing_dropped : (i : ℕ) → drop {A = ℕ} i [] ≡ []
nothing_dropped zero = refl
nothing_dropped (suc i) = refl

pub number_nowhere : (xs : List ℕ) (i n : ℕ) → length xs ≤ i → has_number (drop i xs) n ≡ false
number_nowhere [] i n le = ap (λ (ys : List ℕ). has_number ys n) (nothing_dropped i)
number_nowhere (x ∷ xs) zero n le = absurd (omega (arith, le))
number_nowhere (x ∷ xs) (suc i) n le = number_nowhere xs i n (omega (arith, le))
