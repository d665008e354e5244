-- Looking for the least pair that a table marks both ways. Only private contracts cite this.
use Rattle.std.specs.Prelude.{◌≡◌, ℕ, ◌<◌, Bool, true, List}
use Rattle.track_order.specs.Tables.{entry}
use Rattle.track_order.specs.Order.{IsEarlier}

abbrev pub IsBothWays : List (List Bool) → ℕ → ℕ → Type 0
IsBothWays rows e f = (entry rows e f ≡ true) × (entry rows f e ≡ true)

-- no pair before e, f is marked both ways
pub record HasNoneBefore (rows : List (List Bool)) (count e f : ℕ) : Type 0 where
  pub none : (a b : ℕ) → a < b → b < count → IsEarlier a b e f → IsBothWays rows a b → ⊥

pub record IsFirstBothWays (rows : List (List Bool)) (count e f : ℕ) : Type 0 where
  pub rising : e < f
  pub there : f < count
  pub both : IsBothWays rows e f
  pub before : HasNoneBefore rows count e f
