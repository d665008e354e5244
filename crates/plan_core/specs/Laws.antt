-- The seven laws, each as a sentence about its parties: n, u and v are nodes, e and f edges.
use Rattle.std.specs.Prelude.{◌≡◌, ◌≢◌, ℕ, ◌+◌, ◌<◌, ◌≤◌, ◌⊎◌, ◌==◌, if◌then◌else◌, ℤ, pos, negsuc, ◌+ℤ◌, ◌<ℤ◌, All}
use Rattle.std.specs.Ordering.{int_cmp}
use Rattle.std.specs.declared.cmp.Ordering.{Ordering}
use Rattle.std.specs.declared.cmp.Ordering.TheVariants.{Less, Equal, Greater}
use Rattle.plan_core.specs.declared.point.Point.{Point}
use Rattle.plan_core.specs.declared.point.Slope.{Slope}
use Rattle.plan_core.specs.declared.point.Slope.TheVariants.{Down, Level, Up}
use Rattle.plan_core.specs.declared.sides.Compass.{Compass}
use Rattle.plan_core.specs.declared.sides.Compass.TheVariants.{East, West}
use Rattle.plan_core.specs.declared.sides.Side.{Side}
use Rattle.plan_core.specs.declared.sides.Side.TheVariants.{Upper, Lower}
use Rattle.plan_core.specs.Grid.{GridSize}
use Rattle.plan_core.specs.Graph.{Graph, Ports, End, Joint, Switch, Crossing, node, edge, mileage, IsEndOf}
use Rattle.plan_core.specs.Line.{west_end, east_end, slope_west, slope_east, HasColumn, height}
use Rattle.plan_core.specs.Drawing.{Drawing, place, line}

-- Law 1: the point lies on the grid.

-- x is at most the grid's width, and y at most its height
pub record IsOnGrid (grid : GridSize) (p : Point) : Type 0 where
  pub in_width : p.x ≤ grid.width
  pub in_height : p.y ≤ grid.height

-- law 1 of a node: its point lies on the grid
abbrev pub NodeIsOnGrid : GridSize → Drawing → ℕ → Type 0
NodeIsOnGrid grid d n = IsOnGrid grid (place d n)

-- law 1 of a line: each of its points lies on the grid
abbrev pub LineIsOnGrid : GridSize → Drawing → ℕ → Type 0
LineIsOnGrid grid d e = All (IsOnGrid grid) (line d e)

-- Law 2: a node of smaller mileage has no greater x, and nodes of one mileage have one x.

-- by how two mileages compare, the first x is no greater than the second, equal to it, or no less
abbrev pub InOrder : Ordering → ℕ → ℕ → Type 0
InOrder Less u_x v_x = u_x ≤ v_x
InOrder Equal u_x v_x = u_x ≡ v_x
InOrder Greater u_x v_x = v_x ≤ u_x

-- law 2: of two nodes the one of smaller mileage has no greater x, and equal mileages have one x
abbrev pub NodesAreOrdered : Graph → Drawing → ℕ → ℕ → Type 0
NodesAreOrdered g d u v = InOrder (int_cmp (mileage g u) (mileage g v)) (place d u).x (place d v).x

-- Law 3: the edge's line begins at its west node's point and ends at its east node's point, and the x of
-- the second exceeds that of the first by the grid's least length or more.

-- law 3; in a drawing that fits, with a least length of 1, it asks no more than that the ends meet the
-- nodes, proved by `least_1_asks_no_more_than_that_ends_meet`
pub record LineJoinsItsNodes (g : Graph) (grid : GridSize) (d : Drawing) (e : ℕ) : Type 0 where
  pub begins : west_end (line d e) ≡ place d (edge g e).west
  pub ends : east_end (line d e) ≡ place d (edge g e).east
  pub is_long : (place d (edge g e).west).x + grid.least ≤ (place d (edge g e).east).x

-- Law 4: how slopes continue through a node.

-- slopes count Down as -1, Level as 0 and Up as 1
abbrev pub steepness : Slope → ℤ
steepness Down = negsuc 0
steepness Level = pos 0
steepness Up = pos 1

-- the second slope is the first and 1, so the first isn't Up
abbrev pub IsOneMore : Slope → Slope → Type 0
IsOneMore s t = steepness t ≡ steepness s +ℤ pos 1

-- beside the slope s of trunk and straight leg, the diverging leg has s + 1 where it is the upper
-- one of legs in the east or the lower one of legs in the west, and s - 1 otherwise
abbrev pub Diverges : Compass → Side → Slope → Slope → Type 0
Diverges East Upper s diverging = IsOneMore s diverging
Diverges East Lower s diverging = IsOneMore diverging s
Diverges West Upper s diverging = IsOneMore diverging s
Diverges West Lower s diverging = IsOneMore s diverging

-- trunk and straight leg have one slope, and the diverging leg turns off from it; at_node e is the slope
-- of edge e's line where it meets the node
pub record SwitchIsAligned (at_node : ℕ → Slope) (legs : Compass) (branch : Side) (trunk straight diverging : ℕ) : Type
    0 where
  pub goes_straight : at_node straight ≡ at_node trunk
  pub turns_off : Diverges legs branch (at_node trunk) (at_node diverging)

-- each path has one slope on both sides, and the rising path's is the greater
pub record CrossingIsAligned (at_node : ℕ → Slope) (west_upper west_lower east_upper east_lower : ℕ) : Type 0 where
  pub rising_path : at_node west_lower ≡ at_node east_upper
  pub falling_path : at_node west_upper ≡ at_node east_lower
  pub rising_is_greater : steepness (at_node west_upper) <ℤ steepness (at_node west_lower)

-- the slopes of the edges at a node fit its ports: at an end the line is level, at a joint both
-- slopes are equal
abbrev pub PortsAreAligned : (ℕ → Slope) → Ports → Type 0
PortsAreAligned at_node (End e side) = at_node e ≡ Level
PortsAreAligned at_node (Joint west east) = at_node west ≡ at_node east
PortsAreAligned at_node (Switch legs branch trunk straight diverging) =
    SwitchIsAligned at_node legs branch trunk straight diverging
PortsAreAligned at_node (Crossing west_upper west_lower east_upper east_lower) =
    CrossingIsAligned at_node west_upper west_lower east_upper east_lower

-- the slope of the edge's line where it meets the node
abbrev pub slope_at : Graph → Drawing → ℕ → ℕ → Slope
slope_at g d n e = (if (edge g e).west == n then slope_west (line d e) else slope_east (line d e))

-- law 4: the slopes of the edges at the node fit its ports
abbrev pub NodeIsAligned : Graph → Drawing → ℕ → Type 0
NodeIsAligned g d n = PortsAreAligned (slope_at g d n) (node g n).ports

-- Law 5: distinct nodes have distinct points.

-- law 5: the two nodes have distinct points
abbrev pub NodesAreApart : Drawing → ℕ → ℕ → Type 0
NodesAreApart d u v = place d u ≢ place d v

-- Laws 6 and 7: which of two lines is over the other. Above is what the track graph asks for, over what
-- the drawing shows.

-- both lines have the column, and it isn't that of a node that is an end of both
pub record AreCompared (g : Graph) (d : Drawing) (e f x : ℕ) : Type 0 where
  pub first : HasColumn (line d e) x
  pub second : HasColumn (line d f) x
  pub no_shared_end : (n : ℕ) → IsEndOf g e n → IsEndOf g f n → x ≢ (place d n).x

-- e's height is the greater at each such column
abbrev pub EdgeIsOver : Graph → Drawing → ℕ → ℕ → Type 0
EdgeIsOver g d e f = (x : ℕ) → AreCompared g d e f x → height (line d f) x < height (line d e) x

-- one of the two is the greater at all these columns
abbrev pub EdgesAreParted : Graph → Drawing → ℕ → ℕ → Type 0
EdgesAreParted g d e f = EdgeIsOver g d e f ⊎ EdgeIsOver g d f e
