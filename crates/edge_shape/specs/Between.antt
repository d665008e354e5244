-- What the clauses of an edge say of the lines between the points of its two nodes.
use Rattle.std.specs.Prelude.{ℕ, List}
use Rattle.plan_core.specs.declared.point.Point.{Point}
use Rattle.cnf_core.specs.Clause.{Clauses}
use Rattle.cnf_core.specs.Assignment.{Assignment, SatisfiesAll, Extends}
use Rattle.order_int.specs.OrderInt.{Reads}
use Rattle.edge_shape.specs.Joins.{JoinsPoints}
use Rattle.edge_shape.specs.EdgeVars.{NodeInts, EdgeSpot, lits_of, edge_size, LieBefore}
use Rattle.edge_shape.specs.Edge.{edge_clauses}
use Rattle.edge_shape.specs.ReadsLine.{ReadsLine, LineIsRead}

-- the clauses of the edge at this spot
abbrev pub spot_clauses : EdgeSpot → NodeInts → NodeInts → ℕ → Clauses
spot_clauses e west east least = edge_clauses (lits_of e) west east least e.high e.width

-- where the assignment gives the two nodes these points, this holds
abbrev pub WhereNodesAre : Assignment → NodeInts → NodeInts → Point → Point → Type 0 → Type 0
WhereNodesAre v west east p q P = Reads v west.x p.x → Reads v west.y p.y → Reads v east.x q.x → Reads v east.y q.y → P

-- where the assignment gives nodes before the edge two points that the line joins, the edge's clauses hold after it
abbrev pub HoldsBetween : Assignment → Assignment → EdgeSpot → List Point → Type 0
HoldsBetween before after e line =
    (west east : NodeInts) (least : ℕ) (p q : Point) → LieBefore e.first west → LieBefore e.first east →
    WhereNodesAre before west east p q (JoinsPoints e.width e.high least p q line →
    SatisfiesAll after (spot_clauses e west east least))

-- each model of the edge's clauses reads a line between the points that it gives the nodes
abbrev pub ModelsAreLines : EdgeSpot → NodeInts → NodeInts → ℕ → Type 0
ModelsAreLines e west east least =
    (v : Assignment) (p q : Point) → WhereNodesAre v west east p q (SatisfiesAll v (spot_clauses e west east least) →
    LineIsRead v (lits_of e) e.width e.high least p q)

-- and each line between two points is read by a model that gives the nodes these points, whatever it gives the
-- variables that aren't the edge's
abbrev pub LinesAreModels : EdgeSpot → NodeInts → NodeInts → ℕ → Type 0
LinesAreModels e west east least =
    (v : Assignment) (p q : Point) (line : List Point) →
    WhereNodesAre v west east p q (JoinsPoints e.width e.high least p q line →
    Extends e.first (edge_size e.high e.width) v
    (λ w. ReadsLine w (lits_of e) e.width line × SatisfiesAll w (spot_clauses e west east least)))
