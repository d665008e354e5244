-- A lawful drawing: each law for all its parties.
use Rattle.std.specs.Prelude.{◌≡◌, ℕ, ◌<◌, Bool, true, false, length, All}
use Rattle.plan_core.specs.Grid.{GridSize}
use Rattle.plan_core.specs.Graph.{Graph, Overlap}
use Rattle.plan_core.specs.Line.{is_line}
use Rattle.plan_core.specs.Drawing.{Drawing}
use Rattle.plan_core.specs.Laws.{NodeIsOnGrid, LineIsOnGrid, NodesAreOrdered, LineJoinsItsNodes, NodeIsAligned}
use Rattle.plan_core.specs.Laws.{NodesAreApart, EdgeIsOver, EdgesAreParted}

-- a law and its parties: in order, law 1 of nodes, law 1 of lines, and laws 2 to 7
pub data Instance : Type 0 where
  NodeOnGrid : (n : ℕ) → Instance
  LineOnGrid : (e : ℕ) → Instance
  Ordered : (u v : ℕ) → Instance
  Joined : (e : ℕ) → Instance
  Aligned : (n : ℕ) → Instance
  Apart : (u v : ℕ) → Instance
  Over : (e f : ℕ) → Instance
  Parted : (e f : ℕ) → Instance

-- two different numbers below a count, the smaller first
pub record IsPair (count a b : ℕ) : Type 0 where
  pub rising : a < b
  pub within : b < count

-- e is above f
pub record IsAbovePair (g : Graph) (above : ℕ → ℕ → Bool) (e f : ℕ) : Type 0 where
  pub first : e < length g.edges
  pub second : f < length g.edges
  pub is_above : above e f ≡ true

-- the edges overlap, and neither is above the other
pub record IsOtherPair (g : Graph) (above : ℕ → ℕ → Bool) (e f : ℕ) : Type 0 where
  pub pair : IsPair (length g.edges) e f
  pub overlap : Overlap g e f
  pub not_above : above e f ≡ false
  pub not_below : above f e ≡ false

-- the law speaks of these parties: laws 1, 3 and 4 of each node or edge, 2 and 5 of each pair of
-- nodes, 6 of each two edges of which the first is above, 7 of each other overlapping pair
abbrev pub IsInstance : Graph → (ℕ → ℕ → Bool) → Instance → Type 0
IsInstance g above (NodeOnGrid n) = n < length g.nodes
IsInstance g above (LineOnGrid e) = e < length g.edges
IsInstance g above (Ordered u v) = IsPair (length g.nodes) u v
IsInstance g above (Joined e) = e < length g.edges
IsInstance g above (Aligned n) = n < length g.nodes
IsInstance g above (Apart u v) = IsPair (length g.nodes) u v
IsInstance g above (Over e f) = IsAbovePair g above e f
IsInstance g above (Parted e f) = IsOtherPair g above e f

-- the law's sentence holds for these parties
abbrev pub Meets : Graph → GridSize → Drawing → Instance → Type 0
Meets g grid d (NodeOnGrid n) = NodeIsOnGrid grid d n
Meets g grid d (LineOnGrid e) = LineIsOnGrid grid d e
Meets g grid d (Ordered u v) = NodesAreOrdered g d u v
Meets g grid d (Joined e) = LineJoinsItsNodes g grid d e
Meets g grid d (Aligned n) = NodeIsAligned g d n
Meets g grid d (Apart u v) = NodesAreApart d u v
Meets g grid d (Over e f) = EdgeIsOver g d e f
Meets g grid d (Parted e f) = EdgesAreParted g d e f

-- the drawing has a point for each node, and a list of points for each edge
pub record HasSizeOf (g : Graph) (d : Drawing) : Type 0 where
  pub places : length d.places ≡ length g.nodes
  pub lines : length d.lines ≡ length g.edges

-- the drawing has a point for each node and a line for each edge
pub record Fits (g : Graph) (d : Drawing) : Type 0 where
  pub size : HasSizeOf g d
  pub are_lines : All (λ l. is_line l ≡ true) d.lines

-- the drawing fits the graph and meets all laws. above e f says that e is above f; where it said so both
-- ways of two edges that have a column to compare, no drawing could be lawful. Cite it beside IsTrackGraph:
-- past the lists' ends the laws say nothing
pub record Lawful (g : Graph) (above : ℕ → ℕ → Bool) (grid : GridSize) (d : Drawing) : Type 0 where
  pub fits : Fits g d
  pub laws : (i : Instance) → IsInstance g above i → Meets g grid d i
