-- What a line is at each column: a track of n + 1 steps from column w on, or the line itself.
use Rattle.std.specs.Prelude.{ℕ, zero, suc, ◌+◌, ◌-◌, slice_index_or, Bool, true, false, not, ◌&&◌, ◌||◌, nat_eq}
use Rattle.std.specs.Prelude.{nat_le, nat_lt, List, [], ◌∷◌}
use Rattle.plan_core.specs.declared.point.Point.{Point}
use Rattle.plan_core.specs.declared.point.Slope.{Slope}
use Rattle.plan_core.specs.declared.point.Slope.TheVariants.{Down, Level, Up}
use Rattle.plan_core.specs.Line.{west_end, east_end, height}
use Rattle.edge_shape.specs.Track.{step_slope, same_slope}

-- the slope goes up
abbrev pub is_up : Slope → Bool
is_up Up = true
is_up s = false

-- the slope goes down
abbrev pub is_down : Slope → Bool
is_down Down = true
is_down s = false

-- the slope is level
abbrev pub is_level : Slope → Bool
is_level Level = true
is_level s = false

-- the column is one from w to w + n + 1
abbrev pub within : ℕ → ℕ → ℕ → Bool
within w n c = nat_le w c && nat_le c (w + n + 1)

-- the step from column c is one of the line, and level
abbrev pub is_level_step : (ℕ → ℕ) → ℕ → ℕ → ℕ → Bool
is_level_step y w n c = nat_le w c && (nat_le c (w + n) && is_level (step_slope y c))

-- one of those from column c or before it is
abbrev pub seen_by : (ℕ → ℕ) → ℕ → ℕ → ℕ → Bool
seen_by y w n zero = is_level_step y w n 0
seen_by y w n (suc c) = seen_by y w n c || is_level_step y w n (suc c)

-- the column behind c is an inner one of the line, and the slope turns there
abbrev pub turns_behind : (ℕ → ℕ) → ℕ → ℕ → ℕ → Bool
turns_behind y w n c = nat_le w c && (nat_lt c (w + n) && not (same_slope (step_slope y c) (step_slope y (c + 1))))

-- some step of the line is level
abbrev pub has_level : (ℕ → ℕ) → ℕ → ℕ → Bool
has_level y w n = seen_by y w n (w + n)

-- the column is that of one of the points, the last left out
abbrev pub inner_from : Point → List Point → ℕ → Bool
inner_from p [] x = false
inner_from p (q ∷ rest) x = nat_eq p.x x || inner_from q rest x

abbrev pub inner_of : List Point → ℕ → Bool
inner_of [] x = false
inner_of (p ∷ rest) x = inner_from p rest x

-- the column is that of a point of the line other than its first and last
abbrev pub has_inner : List Point → ℕ → Bool
has_inner [] x = false
has_inner (a ∷ rest) x = inner_of rest x

-- the steps of the line, less one
abbrev pub steps_of : List Point → ℕ
steps_of line = (east_end line).x - (west_end line).x - 1

-- a step of the line from column c or before it is level
abbrev pub line_is_level_from : List Point → ℕ → Bool
line_is_level_from line c = seen_by (height line) (west_end line).x (steps_of line) c

-- a piece of the line is level
abbrev pub has_level_piece : List Point → Bool
has_level_piece line = line_is_level_from line ((west_end line).x + steps_of line)

-- the heights of a list, one for each column
abbrev pub listed_height : List ℕ → ℕ → ℕ
listed_height heights c = slice_index_or heights c 0
