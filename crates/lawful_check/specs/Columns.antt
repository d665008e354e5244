-- Columns at which two lines are compared. Only private contracts cite this.
use Rattle.std.specs.Prelude.{◌≡◌, ℕ, ◌<◌}
use Rattle.plan_core.specs.Graph.{Graph, IsEndOf}
use Rattle.plan_core.specs.Drawing.{Drawing, place, line}
use Rattle.plan_core.specs.Line.{height}
use Rattle.plan_core.specs.Laws.{AreCompared}

-- the node is an end of the edge, and stands in the column
pub record EndsIn (g : Graph) (d : Drawing) (f n x : ℕ) : Type 0 where
  pub end : IsEndOf g f n
  pub column : (place d n).x ≡ x

-- the column is that of a node that is an end of both edges
pub record IsShared (g : Graph) (d : Drawing) (e f x : ℕ) : Type 0 where
  pub node : ℕ
  pub first : IsEndOf g e node
  pub second : EndsIn g d f node x

-- where the two lines are compared at the column, e is the higher
pub record IsHigherAt (g : Graph) (d : Drawing) (e f x : ℕ) : Type 0 where
  pub higher : AreCompared g d e f x → height (line d f) x < height (line d e) x
