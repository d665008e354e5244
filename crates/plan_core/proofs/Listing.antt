-- Lists of numbers, of pairs and of what passes a test, and what they contain.
use Rattle.std.proofs.Common.{◌≡◌, ℕ, zero, suc, ◌+◌, ◌-◌, ◌<◌, ◌≤◌, Bool, true, false, cond, List, [], ◌∷◌, map, length, get_or, refl, sym, ap, ◌∙◌, subst}
use Rattle.std.proofs.Common.{arith}
use Rattle.std.specs.List.{Contains, filter, flat_map, range_with_len}
use Rattle.std.proofs.lemmas.List.Elements.{Contains-append_left, Contains-append_right}
use Rattle.std.proofs.lemmas.List.FromFn.{get_or-range_with_len, length-range_with_len}

module _ {X : Type 0} where
  pub Contains-head : (x : X) (xs : List X) → Contains (x ∷ xs) x
  Contains-head x xs = Contains-append_left (x ∷ []) xs x (0, omega arith, refl)

  pub Contains-tail : (y : X) (xs : List X) (x : X) → Contains xs x → Contains (y ∷ xs) x
  Contains-tail y xs x h = Contains-append_right (y ∷ []) xs x h

  kept_at : (p : X → Bool) (xs : List X) (x : X) (k : ℕ) → k < length xs → get_or xs k x ≡ x → p x ≡ true → Contains (filter p xs) x
  kept_at p [] x k within is passes = absurd (omega arith)
  kept_at p (y ∷ ys) x zero within is passes =
      subst (λ b. Contains (cond b (y ∷ filter p ys) (filter p ys)) x) (sym (ap p is ∙ passes))
      (subst (λ z. Contains (z ∷ filter p ys) x) (sym is) (Contains-head x (filter p ys)))
  kept_at p (y ∷ ys) x (suc k) within is passes = also (p y) (kept_at p ys x k (omega arith) is passes)
    where
      also : (b : Bool) → Contains (filter p ys) x → Contains (cond b (y ∷ filter p ys) (filter p ys)) x
      also true h = Contains-tail y (filter p ys) x h
      also false h = h

  pub Contains-filter : (p : X → Bool) (xs : List X) (x : X) → Contains xs x → p x ≡ true → Contains (filter p xs) x
  Contains-filter p xs x h passes = kept_at p xs x h.0 h.1 h.2 passes

module _ {X Y : Type 0} (f : X → Y) where
  mapped_at : (xs : List X) (x : X) (k : ℕ) → k < length xs → get_or xs k x ≡ x → Contains (map f xs) (f x)
  mapped_at [] x k within is = absurd (omega arith)
  mapped_at (y ∷ ys) x zero within is = subst (λ z. Contains (f z ∷ map f ys) (f x)) (sym is) (Contains-head (f x) (map f ys))
  mapped_at (y ∷ ys) x (suc k) within is = Contains-tail (f y) (map f ys) (f x) (mapped_at ys x k (omega arith) is)

  pub Contains-map : (xs : List X) (x : X) → Contains xs x → Contains (map f xs) (f x)
  Contains-map xs x h = mapped_at xs x h.0 h.1 h.2

module _ {X Y : Type 0} (f : X → List Y) where
  flattened_at : (xs : List X) (x : X) (y : Y) (k : ℕ) → k < length xs → get_or xs k x ≡ x → Contains (f x) y → Contains (flat_map f xs) y
  flattened_at [] x y k within is h = absurd (omega arith)
  flattened_at (z ∷ zs) x y zero within is h = Contains-append_left (f z) (flat_map f zs) y (subst (λ w. Contains (f w) y) (sym is) h)
  flattened_at (z ∷ zs) x y (suc k) within is h = Contains-append_right (f z) (flat_map f zs) y (flattened_at zs x y k (omega arith) is h)

  pub Contains-flat_map : (xs : List X) (x : X) (y : Y) → Contains xs x → Contains (f x) y → Contains (flat_map f xs) y
  Contains-flat_map xs x y h in_x = flattened_at xs x y h.0 h.1 h.2 in_x

pub Contains-range_with_len : (from n k : ℕ) → from ≤ k → k < from + n → Contains (range_with_len from n) k
Contains-range_with_len from n k low high =
    let place : k - from < n = omega arith in
    let there : from + (k - from) ≡ k = omega arith in
    (k - from, subst (λ m. k - from < m) (sym (length-range_with_len from n)) place, get_or-range_with_len from n (k - from) k place ∙ there)

-- f of each number below n; of each two, the smaller first; of each two in any order
abbrev pub for_each : {X : Type 0} → ℕ → (ℕ → X) → List X
for_each n f = map f (range_with_len 0 n)

abbrev pub for_pairs : {X : Type 0} → ℕ → (ℕ → ℕ → X) → List X
for_pairs n f = flat_map (λ a. map (f a) (range_with_len (a + 1) (n - (a + 1)))) (range_with_len 0 n)

abbrev pub for_any_two : {X : Type 0} → ℕ → (ℕ → ℕ → X) → List X
for_any_two n f = flat_map (λ a. map (f a) (range_with_len 0 n)) (range_with_len 0 n)

module _ {X : Type 0} (n : ℕ) where
  pub Contains-for_each : (f : ℕ → X) (a : ℕ) → a < n → Contains (for_each n f) (f a)
  Contains-for_each f a within = Contains-map f (range_with_len 0 n) a (Contains-range_with_len 0 n a (omega arith) (omega arith))

  pub Contains-for_pairs : (f : ℕ → ℕ → X) (a b : ℕ) → a < b → b < n → Contains (for_pairs n f) (f a b)
  Contains-for_pairs f a b rising within =
      Contains-flat_map (λ a. map (f a) (range_with_len (a + 1) (n - (a + 1)))) (range_with_len 0 n) a (f a b)
      (Contains-range_with_len 0 n a (omega arith) (omega arith))
      (Contains-map (f a) (range_with_len (a + 1) (n - (a + 1))) b (Contains-range_with_len (a + 1) (n - (a + 1)) b (omega arith) (omega arith)))

  pub Contains-for_any_two : (f : ℕ → ℕ → X) (a b : ℕ) → a < n → b < n → Contains (for_any_two n f) (f a b)
  Contains-for_any_two f a b first second =
      Contains-flat_map (λ a. map (f a) (range_with_len 0 n)) (range_with_len 0 n) a (f a b)
      (Contains-range_with_len 0 n a (omega arith) (omega arith))
      (Contains-map (f a) (range_with_len 0 n) b (Contains-range_with_len 0 n b (omega arith) (omega arith)))
