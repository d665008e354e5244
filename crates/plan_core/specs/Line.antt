-- The lines that an edge may be drawn with, each a list of points of the grid from west to east. A
-- column here is a column of the grid.
use Rattle.std.specs.Prelude.{ℕ, ◌+◌, ◌-◌, ◌≤◌, Bool, true, false, ◌&&◌, ◌||◌, if◌then◌else◌, ◌==◌, nat_lt, nat_le}
use Rattle.std.specs.Prelude.{List, [], ◌∷◌, map, length}
use Rattle.std.specs.List.{list_all, sum_by}
use Rattle.plan_core.specs.declared.point.Point.{Point}
use Rattle.plan_core.specs.declared.point.Slope.{Slope}
use Rattle.plan_core.specs.declared.point.Slope.TheVariants.{Down, Level, Up}

-- a part of a line from one point to the next
pub record Piece : Type 0 where
  pub west : Point
  pub east : Point

abbrev pub pieces_from : Point → List Point → List Piece
pieces_from a [] = []
pieces_from a (b ∷ rest) = record { west = a; east = b } ∷ pieces_from b rest

-- the pieces of a line, from west to east
abbrev pub pieces : List Point → List Piece
pieces [] = []
pieces (a ∷ rest) = pieces_from a rest

-- the columns that a piece passes over
abbrev pub run : Piece → ℕ
run p = p.east.x - p.west.x

-- x rises strictly, and the rise is 0, plus the run or minus the run
abbrev pub is_piece : Piece → Bool
is_piece p =
    nat_lt p.west.x p.east.x
    && (p.east.y == p.west.y || p.east.y == p.west.y + run p || p.west.y == p.east.y + run p)

-- which of the three slopes a piece has
abbrev pub slope : Piece → Slope
slope p = (if nat_lt p.west.y p.east.y then Up else (if nat_lt p.east.y p.west.y then Down else Level))

-- the eleven shapes, by the slopes of their pieces from west to east
abbrev pub is_shape : List Slope → Bool
is_shape (a ∷ b ∷ c ∷ d ∷ rest) = false
is_shape (Level ∷ []) = true
is_shape (Up ∷ []) = true
is_shape (Down ∷ []) = true
is_shape (Up ∷ Level ∷ []) = true
is_shape (Down ∷ Level ∷ []) = true
is_shape (Level ∷ Up ∷ []) = true
is_shape (Level ∷ Down ∷ []) = true
is_shape (Up ∷ Level ∷ Up ∷ []) = true
is_shape (Up ∷ Level ∷ Down ∷ []) = true
is_shape (Down ∷ Level ∷ Up ∷ []) = true
is_shape (Down ∷ Level ∷ Down ∷ []) = true
is_shape other = false

-- pieces of which each is one, in one of the eleven shapes; so there are two to four points, proved by
-- `other_readings`, `two_to_four_points`
abbrev pub is_line : List Point → Bool
is_line line = list_all is_piece (pieces line) && is_shape (map slope (pieces line))

-- what stands for a point of a list without any; no definition asks for it in a line
abbrev pub origin : Point
origin = record { x = 0; y = 0 }

abbrev pub last_from : Point → List Point → Point
last_from a [] = a
last_from a (b ∷ rest) = last_from b rest

-- the first point
abbrev pub west_end : List Point → Point
west_end [] = origin
west_end (a ∷ rest) = a

-- the last point
abbrev pub east_end : List Point → Point
east_end [] = origin
east_end (a ∷ rest) = last_from a rest

-- the slope of the first piece
abbrev pub slope_west : List Point → Slope
slope_west (a ∷ b ∷ rest) = slope (record { west = a; east = b })
slope_west other = Level

-- the slope of the last piece; a line has one to three
abbrev pub slope_east : List Point → Slope
slope_east (a ∷ b ∷ []) = slope (record { west = a; east = b })
slope_east (a ∷ b ∷ c ∷ []) = slope (record { west = b; east = c })
slope_east (a ∷ b ∷ c ∷ d ∷ []) = slope (record { west = c; east = d })
slope_east other = Level

-- the column is one of those from the first point to the last
pub record HasColumn (line : List Point) (x : ℕ) : Type 0 where
  pub from_west : (west_end line).x ≤ x
  pub to_east : x ≤ (east_end line).x

-- the height that is reached from height y, with this slope, after so many columns
abbrev pub reached : Slope → ℕ → ℕ → ℕ
reached Down y columns = y - columns
reached Level y columns = y
reached Up y columns = y + columns

-- the height of a piece at a column of its own, by interpolation, proved by `heights_interpolate`
abbrev pub height_on : Piece → ℕ → ℕ
height_on p x = reached (slope p) p.west.y (x - p.west.x)

abbrev pub height_from : Point → List Point → ℕ → ℕ
height_from a [] x = a.y
height_from a (b ∷ rest) x = (if nat_le x b.x then height_on (record { west = a; east = b }) x else height_from b rest
    x)

-- the height of a line at a column of its own: that of the piece over it
abbrev pub height : List Point → ℕ → ℕ
height [] x = 0
height (a ∷ rest) x = height_from a rest x

-- the points between the first and the last
abbrev pub bends : List Point → ℕ
bends line = length line - 2

-- how many rows a piece climbs or falls
abbrev pub absolute_rise : Piece → ℕ
absolute_rise p = (p.east.y - p.west.y) + (p.west.y - p.east.y)

-- the absolute rises of all pieces together; of a line this is also the number of columns from which it
-- goes up or down to the next, proved by `diagonal_counts_columns`
abbrev pub diagonal : List Point → ℕ
diagonal line = sum_by absolute_rise (pieces line)
