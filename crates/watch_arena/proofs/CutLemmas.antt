-- The levels of places on a trail.
use Rattle.std.proofs.Common.{◌≡◌, ℕ, ◌+◌, ◌<◌, ◌≤◌, zero, suc, List, [], ◌∷◌, ◌++◌, length, take, get_or, refl, ap, inl, inr, arith}
use Rattle.std.specs.Prelude.{Contains}
use Rattle.std.proofs.lemmas.Bool.Decides.{leb_tells}
use Rattle.cnf_core.specs.Trail.{weight}
use Rattle.watch_arena.specs.Trail.{trail_level, begun}

-- a level that begins at n counts from n on
one_from : (n i : ℕ) → n ≤ i → begun n i ≡ 1
one_from n i le = elim (leb_tells n i) [ inl a ↦ ap weight a.0 | inr a ↦ let lt = a.1 in absurd (omega arith) ]

none_before : (n i : ℕ) → i < n → begun n i ≡ 0
none_before n i lt = elim (leb_tells n i) [ inl a ↦ let le = a.1 in absurd (omega arith) | inr a ↦ ap weight a.0 ]

-- where all levels began, the level is the last one
pub level_past : (cuts : List ℕ) (i : ℕ) → ((k : ℕ) → k < length cuts → get_or cuts k 0 ≤ i) → trail_level cuts i ≡ length cuts
level_past [] i h = refl
level_past (n ∷ cuts) i h =
    let one = one_from n i (h zero (omega arith)) in
    let rest = level_past cuts i (λ k lt. h (suc k) (omega arith)) in
    omega arith

-- a level that begins later counts for no place before
pub level_push_before : (cuts : List ℕ) (n i : ℕ) → i < n → trail_level (cuts ++ n ∷ []) i ≡ trail_level cuts i
level_push_before [] n i lt = let none = none_before n i lt in omega arith
level_push_before (m ∷ cuts) n i lt = ap (λ k. begun m i + k) (level_push_before cuts n i lt)

-- and counts where it begins
pub level_of_new : (cuts : List ℕ) (n i : ℕ) → n ≤ i → trail_level (cuts ++ n ∷ []) i ≡ trail_level cuts i + 1
level_of_new [] n i le = let one = one_from n i le in omega arith
level_of_new (m ∷ cuts) n i le = let rest = level_of_new cuts n i le in omega arith

-- the levels that begin later don't matter
pub level_take : (cuts : List ℕ) (level i : ℕ) → ((k : ℕ) → level ≤ k → k < length cuts → i < get_or cuts k 0) →
    trail_level (take level cuts) i ≡ trail_level cuts i
level_take [] zero i h = refl
level_take [] (suc level) i h = refl
level_take (n ∷ cuts) zero i h =
    let none = none_before n i (h zero (omega arith) (omega arith)) in
    let rest = level_take cuts zero i (λ k from lt. h (suc k) (omega arith) (omega arith)) in
    omega arith
level_take (n ∷ cuts) (suc level) i h = ap (λ k. begun n i + k) (level_take cuts level i (λ k from lt. h (suc k) (omega arith) (omega arith)))

-- levels never fall along the trail
pub level_rise : (cuts : List ℕ) (i j : ℕ) → i ≤ j → trail_level cuts i ≤ trail_level cuts j
level_rise [] i j le = omega arith
level_rise (n ∷ cuts) i j le =
    let rest = level_rise cuts i j le in
    elim (leb_tells n i) [
      | inl a ↦ let from = a.1 in let one = one_from n i from in let one2 = one_from n j (omega arith) in omega arith
      | inr a ↦ let none = none_before n i a.1 in omega arith
    ]

-- and rise where a level begins in between
pub level_step : (cuts : List ℕ) (n i j : ℕ) → Contains cuts n → i < n → n ≤ j → trail_level cuts i < trail_level cuts j
level_step cuts n i j c lt le = at_place cuts c.0 c.1 c.2
  where
    at_place : (cuts : List ℕ) (k : ℕ) → k < length cuts → get_or cuts k n ≡ n → trail_level cuts i < trail_level cuts j
    at_place [] k l e = absurd (omega arith)
    at_place (m ∷ cuts) zero l e =
        let rest = level_rise cuts i j (omega arith) in
        let none = none_before m i (omega arith) in
        let one = one_from m j (omega arith) in
        omega arith
    at_place (m ∷ cuts) (suc k) l e =
        let rest = at_place cuts k (omega arith) e in
        elim (leb_tells m i) [
          | inl a ↦ let from = a.1 in let one = one_from m i from in let one2 = one_from m j (omega arith) in omega arith
          | inr a ↦ let none = none_before m i a.1 in omega arith
        ]

pub level_most : (cuts : List ℕ) (i : ℕ) → trail_level cuts i ≤ length cuts
level_most [] i = omega arith
level_most (n ∷ cuts) i =
    let rest = level_most cuts i in
    elim (leb_tells n i) [ inl a ↦ let one = one_from n i a.1 in omega arith | inr a ↦ let none = none_before n i a.1 in omega arith ]
