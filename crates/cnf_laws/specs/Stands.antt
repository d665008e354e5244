-- What an assignment says of a drawing.
use Rattle.std.specs.Prelude.{◌≡◌, ◌≤◌, ◌<◌, ℕ, Bool, not, ◌&&◌, nat_le, List, length, if◌then◌else◌, ◌==◌}
use Rattle.plan_core.specs.declared.point.Point.{Point}
use Rattle.plan_core.specs.declared.point.Slope.{Slope}
use Rattle.plan_core.specs.Grid.{GridSize}
use Rattle.plan_core.specs.Graph.{Graph, edge}
use Rattle.plan_core.specs.Line.{west_end, east_end, slope_west, slope_east, HasColumn, height}
use Rattle.plan_core.specs.Drawing.{Drawing, place, line}
use Rattle.plan_core.specs.Laws.{NodeIsOnGrid}
use Rattle.plan_core.specs.Lawful.{Fits}
use Rattle.cnf_core.specs.Assignment.{Assignment}
use Rattle.order_int.specs.IntVars.{IntIsThere}
use Rattle.order_int.specs.OrderInt.{Reads}
use Rattle.edge_shape.specs.EdgeVars.{NodeInts, EdgeLits}
use Rattle.edge_shape.specs.Track.{step_slope}
use Rattle.edge_shape.specs.Columns.{is_up, is_down, is_level}
use Rattle.edge_shape.specs.Joins.{JoinsPoints}
use Rattle.edge_shape.specs.Columns.{has_level_piece}

-- the variables of each node and of each edge
pub record DrawingVars : Type 0 where
  pub node : ℕ → NodeInts
  pub edge : ℕ → EdgeLits

-- the drawing fits the graph; the nodes' integers give its points, and the edges' heights its lines
pub record StandsFor (v : Assignment) (g : Graph) (x : DrawingVars) (d : Drawing) : Type 0 where
  pub fits : Fits g d
  pub columns : (n : ℕ) → n < length g.nodes → Reads v (x.node n).x (place d n).x
  pub rows : (n : ℕ) → n < length g.nodes → Reads v (x.node n).y (place d n).y
  pub heights : (e : ℕ) → e < length g.edges → (c : ℕ) → HasColumn (line d e) c →
      Reads v ((x.edge e).height c) (height (line d e) c)

-- the assignment gives the node's integers this point
pub record ReadsPoint (v : Assignment) (n : NodeInts) (p : Point) : Type 0 where
  pub x : Reads v n.x p.x
  pub y : Reads v n.y p.y

-- the variables of both are among the variables 1 to vars
pub record NodeThere (vars : ℕ) (n : NodeInts) : Type 0 where
  pub x : IntIsThere vars n.x
  pub y : IntIsThere vars n.y

-- the two variables of an end slope
pub record SlopeVars : Type 0 where
  pub rises : ℕ
  pub falls : ℕ

abbrev pub west_slope : EdgeLits → SlopeVars
west_slope e = record { rises = e.west_up; falls = e.west_down }

abbrev pub east_slope : EdgeLits → SlopeVars
east_slope e = record { rises = e.east_up; falls = e.east_down }

-- that of the west end, or of the east end
abbrev pub end_slope : Bool → EdgeLits → SlopeVars
end_slope west e = (if west then west_slope e else east_slope e)

-- the assignment gives the two variables this slope
pub record ReadsSlope (v : Assignment) (s : SlopeVars) (slope : Slope) : Type 0 where
  pub rises : v s.rises ≡ is_up slope
  pub falls : v s.falls ≡ is_down slope

-- those of the edge where it meets the node, as slope_at has its slope
abbrev pub slope_vars : Graph → DrawingVars → ℕ → ℕ → SlopeVars
slope_vars g x n e = end_slope ((edge g e).west == n) (x.edge e)

-- what laws and bounds read of an edge's variables; where a level piece was seen and inner points they don't
pub record ReadsShape (v : Assignment) (e : EdgeLits) (width : ℕ) (l : List Point) : Type 0 where
  pub inside : (c : ℕ) → c ≤ width → v (e.inside c) ≡ (nat_le (west_end l).x c && nat_le c (east_end l).x)
  pub up : (c : ℕ) → c < width → v (e.up c) ≡ is_up (step_slope (height l) c)
  pub down : (c : ℕ) → c < width → v (e.down c) ≡ is_down (step_slope (height l) c)
  pub height : (c : ℕ) → c ≤ width → Reads v (e.height c) (height l c)
  pub west : ReadsSlope v (west_slope e) (slope_west l)
  pub east : ReadsSlope v (east_slope e) (slope_east l)
  pub first_bend : v e.first_bend ≡ (not (is_level (slope_west l)) && has_level_piece l)
  pub second_bend : v e.second_bend ≡ (not (is_level (slope_east l)) && has_level_piece l)

-- the assignment gives all these variables what the drawing has
pub record ReadsDrawing (v : Assignment) (g : Graph) (x : DrawingVars) (width : ℕ) (d : Drawing) : Type 0 where
  pub points : (n : ℕ) → n < length g.nodes → ReadsPoint v (x.node n) (place d n)
  pub lines : (e : ℕ) → e < length g.edges → ReadsShape v (x.edge e) width (line d e)

-- laws 1 and 3 hold, and the drawing fits the graph
pub record IsJoinedOnGrid (g : Graph) (grid : GridSize) (d : Drawing) : Type 0 where
  pub fits : Fits g d
  pub on_grid : (n : ℕ) → n < length g.nodes → NodeIsOnGrid grid d n
  pub joins : (e : ℕ) → e < length g.edges →
      JoinsPoints grid.width grid.height grid.least (place d (edge g e).west) (place d (edge g e).east) (line d e)
