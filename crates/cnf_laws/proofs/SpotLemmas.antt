-- The edges of a node's ports are there, and so are the variables of an edge.
use Rattle.std.proofs.Common.{◌≡◌, ℕ, ◌+◌, ◌<◌, ◌≤◌, length, sym, subst, arith}
use Rattle.plan_core.specs.declared.sides.Compass.{Compass}
use Rattle.plan_core.specs.declared.sides.Side.{Side}
use Rattle.plan_core.specs.Graph.{Graph, End, Joint, Switch, Crossing, ArePortsOf}
use Rattle.plan_core.specs.Grid.{GridSize}
use Rattle.edge_shape.specs.EdgeVars.{EdgeSpot, edge_spot, edge_size}
use Rattle.cnf_laws.specs.Expected.{edge_first, laws_first}

pub spot_there : (g : Graph) (grid : GridSize) (e vars : ℕ) (s : EdgeSpot) → s ≡ edge_spot (edge_first g grid e) grid.height grid.width →
    edge_first g grid e + edge_size grid.height grid.width ≤ laws_first g grid → laws_first g grid ≤ vars + 1 → s.first + edge_size s.high s.width ≤ vars + 1
spot_there g grid e vars s is within there = subst (λ (x : EdgeSpot). x.first + edge_size x.high x.width ≤ vars + 1) (sym is) (omega (arith, within, there))

pub end_there : (g : Graph) (n e : ℕ) (side : Compass) → ArePortsOf g n (End e side) → e < length g.edges
end_there g n e side p = p.there 0 0 (omega arith)

pub joint_there : (g : Graph) (n west east : ℕ) → ArePortsOf g n (Joint west east) → (west < length g.edges) × (east < length g.edges)
joint_there g n west east p = (p.there 0 0 (omega arith), p.there 1 0 (omega arith))

pub switch_there : (g : Graph) (n : ℕ) (legs : Compass) (branch : Side) (trunk straight diverging : ℕ) →
    ArePortsOf g n (Switch legs branch trunk straight diverging) → (trunk < length g.edges) × (straight < length g.edges) × (diverging < length g.edges)
switch_there g n legs branch trunk straight diverging p = (p.there 0 0 (omega arith), p.there 1 0 (omega arith), p.there 2 0 (omega arith))

pub crossing_there : (g : Graph) (n a b c d : ℕ) → ArePortsOf g n (Crossing a b c d) →
    (a < length g.edges) × (b < length g.edges) × (c < length g.edges) × (d < length g.edges)
crossing_there g n a b c d p = (p.there 0 0 (omega arith), p.there 1 0 (omega arith), p.there 2 0 (omega arith), p.there 3 0 (omega arith))
