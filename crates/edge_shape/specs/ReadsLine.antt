-- What an assignment gives the variables of an edge: a line.
use Rattle.std.specs.Prelude.{◌≡◌, ◌≤◌, ◌<◌, ℕ, zero, suc, ◌+◌, Bool, not, ◌&&◌, nat_le, List}
use Rattle.edge_shape.specs.Setting.{EdgeBits}
use Rattle.plan_core.specs.declared.point.Point.{Point}
use Rattle.plan_core.specs.Line.{west_end, east_end, slope_west, slope_east, height}
use Rattle.cnf_core.specs.Assignment.{Assignment}
use Rattle.order_int.specs.OrderInt.{Reads}
use Rattle.edge_shape.specs.Track.{step_slope}
use Rattle.edge_shape.specs.Columns.{has_inner, is_up, is_down, is_level, line_is_level_from, has_level_piece}
use Rattle.edge_shape.specs.EdgeVars.{EdgeLits}
use Rattle.edge_shape.specs.Joins.{JoinsPoints}

-- each variable has the truth value that its name says of the line, whose height goes on level outside it
pub record ReadsLine (v : Assignment) (e : EdgeLits) (width : ℕ) (line : List Point) : Type 0 where
  pub inside : (c : ℕ) → c ≤ width → v (e.inside c) ≡ (nat_le (west_end line).x c && nat_le c (east_end line).x)
  pub up : (c : ℕ) → c < width → v (e.up c) ≡ is_up (step_slope (height line) c)
  pub down : (c : ℕ) → c < width → v (e.down c) ≡ is_down (step_slope (height line) c)
  pub seen : (c : ℕ) → c < width → v (e.seen c) ≡ line_is_level_from line c
  pub bend : (c : ℕ) → c + 1 < width → v (e.bend (c + 1)) ≡ has_inner line (c + 1)
  pub height : (c : ℕ) → c ≤ width → Reads v (e.height c) (height line c)
  pub west_up : v e.west_up ≡ is_up (slope_west line)
  pub west_down : v e.west_down ≡ is_down (slope_west line)
  pub east_up : v e.east_up ≡ is_up (slope_east line)
  pub east_down : v e.east_down ≡ is_down (slope_east line)
  pub first_bend : v e.first_bend ≡ (not (is_level (slope_west line)) && has_level_piece line)
  pub second_bend : v e.second_bend ≡ (not (is_level (slope_east line)) && has_level_piece line)

-- the truth values of the six variables of the whole line
abbrev pub whole_bits : List Point → ℕ → Bool
whole_bits line zero = is_up (slope_west line)
whole_bits line (suc zero) = is_down (slope_west line)
whole_bits line (suc (suc zero)) = is_up (slope_east line)
whole_bits line (suc (suc (suc zero))) = is_down (slope_east line)
whole_bits line (suc (suc (suc (suc zero)))) = not (is_level (slope_west line)) && has_level_piece line
whole_bits line (suc (suc (suc (suc (suc k))))) = not (is_level (slope_east line)) && has_level_piece line

-- those of all variables
abbrev pub line_bits : List Point → EdgeBits
line_bits line = record {
  inside = λ c. nat_le (west_end line).x c && nat_le c (east_end line).x;
  up = λ c. is_up (step_slope (height line) c);
  down = λ c. is_down (step_slope (height line) c);
  seen = line_is_level_from line;
  bend = λ c. has_inner line (c + 1);
  height = height line;
  whole = whole_bits line;
}

-- the assignment reads a line between the two points
pub record LineIsRead (v : Assignment) (e : EdgeLits) (width high least : ℕ) (west east : Point) : Type 0 where
  pub line : List Point
  pub joins : JoinsPoints width high least west east line
  pub reads : ReadsLine v e width line
