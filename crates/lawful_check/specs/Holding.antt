-- For which parties a law is known to hold. C says of which parties the law speaks, S is its sentence.
use Rattle.std.specs.Prelude.{ℕ, ◌<◌}
use Rattle.track_order.specs.Order.{IsEarlier}

-- where the law speaks of these parties, its sentence holds
pub record Where (C S : Type 0) : Type 0 where
  pub met : C → S

-- the law holds of each one before n
pub record HoldsTo (C S : ℕ → Type 0) (n : ℕ) : Type 0 where
  pub each : (m : ℕ) → m < n → Where (C m) (S m)

pub record HoldsForAll (C S : ℕ → Type 0) : Type 0 where
  pub each : (n : ℕ) → Where (C n) (S n)

-- n is the first of which the law speaks and doesn't hold
pub record FailsFirst (C S : ℕ → Type 0) (n : ℕ) : Type 0 where
  pub is : C n
  pub fails : S n → ⊥
  pub before : HoldsTo C S n

-- the law holds of each pair before a, b
pub record HoldsToPair (C S : ℕ → ℕ → Type 0) (a b : ℕ) : Type 0 where
  pub each : (c d : ℕ) → IsEarlier c d a b → Where (C c d) (S c d)

pub record HoldsForPairs (C S : ℕ → ℕ → Type 0) : Type 0 where
  pub each : (a b : ℕ) → Where (C a b) (S a b)

-- a, b is the first pair of which the law speaks and doesn't hold
pub record FailsFirstPair (C S : ℕ → ℕ → Type 0) (a b : ℕ) : Type 0 where
  pub is : C a b
  pub fails : S a b → ⊥
  pub before : HoldsToPair C S a b
