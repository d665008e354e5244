-- What some of the definitions come to in other words.
use Rattle.std.specs.Prelude.{◌≡◌, ℕ, ◌+◌, ◌-◌, ◌*◌, ◌<◌, not, ◌==◌, List, length, slice_index_or}
use Rattle.std.specs.List.{count_by, range_with_len}
use Rattle.plan_core.specs.declared.point.Point.{Point}
use Rattle.plan_core.specs.declared.criterion.Criterion.{Criterion}
use Rattle.plan_core.specs.declared.criterion.Criterion.TheVariants.{Height}
use Rattle.plan_core.specs.declared.criterion.Values.{Values}
use Rattle.plan_core.specs.Line.{Piece, run, height_on, height, west_end, east_end}
use Rattle.plan_core.specs.Graph.{Graph, edge}
use Rattle.plan_core.specs.Drawing.{Drawing, place, line}
use Rattle.plan_core.specs.Values.{value_of}

-- the edge's line begins and ends at the points of the edge's nodes
pub record MeetsItsNodes (g : Graph) (d : Drawing) (e : ℕ) : Type 0 where
  pub begins : west_end (line d e) ≡ place d (edge g e).west
  pub ends : east_end (line d e) ≡ place d (edge g e).east

-- a is less than b at this place of the order, and equal at all places before
pub record IsLessAt (order : List Criterion) (a b : Values) (i : ℕ) : Type 0 where
  pub within : i < length order
  pub less : value_of a (slice_index_or order i Height) < value_of b (slice_index_or order i Height)
  pub equal : (j : ℕ) → j < i → value_of a (slice_index_or order j Height) ≡ value_of b (slice_index_or order j Height)

-- the height over a column of the piece is the mean of the heights at its two ends, each weighed by how
-- far the column is from the other end
abbrev pub Interpolates : Piece → ℕ → Type 0
Interpolates p x = height_on p x * run p ≡ p.west.y * (p.east.x - x) + p.east.y * (x - p.west.x)

-- from how many columns of the line, but for the last, it goes up or down to the next
abbrev pub columns_off_level : List Point → ℕ
columns_off_level l = count_by (λ x. not (height l x == height l (x + 1)))
    (range_with_len (west_end l).x ((east_end l).x - (west_end l).x))
