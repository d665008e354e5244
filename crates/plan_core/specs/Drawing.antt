-- A drawing as plain lists.
use Rattle.std.specs.Prelude.{ℕ, List, [], ◌++◌, slice_index_or}
use Rattle.std.specs.List.{flat_map}
use Rattle.plan_core.specs.declared.point.Point.{Point}
use Rattle.plan_core.specs.Line.{origin}

-- a point for each node, and a line for each edge, by number
pub record Drawing : Type 0 where
  pub places : List Point
  pub lines : List (List Point)

-- the drawing of these points and lines
abbrev pub drawing : List Point → List (List Point) → Drawing
drawing places lines = record { places = places; lines = lines }

-- the point of the node of this number
abbrev pub place : Drawing → ℕ → Point
place d n = slice_index_or d.places n origin

-- the line of the edge of this number
abbrev pub line : Drawing → ℕ → List Point
line d e = slice_index_or d.lines e []

-- the nodes' points, and each point of each line
abbrev pub all_points : Drawing → List Point
all_points d = d.places ++ flat_map (λ l. l) d.lines
