-- The lines that an edge may be drawn with between two points.
use Rattle.std.specs.Prelude.{◌≡◌, ◌≤◌, ℕ, ◌+◌, true, List}
use Rattle.plan_core.specs.declared.point.Point.{Point}
use Rattle.plan_core.specs.Line.{is_line, west_end, east_end, height}

-- a line on the grid between the two points, over least columns at least
pub record JoinsPoints (width high least : ℕ) (west east : Point) (line : List Point) : Type 0 where
  pub shape : is_line line ≡ true
  pub begins : west_end line ≡ west
  pub ends : east_end line ≡ east
  pub long : west.x + least ≤ east.x
  pub in_width : east.x ≤ width
  pub in_height : (c : ℕ) → height line c ≤ high
