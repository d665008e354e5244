-- Runs and nodes in the order of their numbers, and what they become.
use Rattle.std.specs.Prelude.{◌≡◌, ℕ, ◌<◌, List, length, map, Option, Some, None, IsSome, slice_get}
use Rattle.std.specs.List.{enumerate_from}
use Rattle.std.specs.Option.{option_map}
use Rattle.plan_core.specs.declared.topology.Topology.{Topology}
use Rattle.plan_core.specs.Graph.{Node, Edge, Ports}
use Rattle.port_graph.specs.declared.runs.Run.{Run}
use Rattle.port_graph.specs.declared.sites.Site.{Site}
use Rattle.port_graph.specs.declared.fault.GraphFault.{GraphFault}
use Rattle.port_graph.specs.declared.fault.GraphFault.TheVariants.{NotForward, SideMismatch, Memory}
use Rattle.port_graph.specs.Runs.{edge_count}
use Rattle.port_graph.specs.PortRule.{ports_of}
use Rattle.port_graph.specs.TopologyGraph.{IsRun, IsForward, side_at}

-- all runs of the topology, each at its number
pub record AreRunsOf (t : Topology) (runs : List Run) : Type 0 where
  pub count : length runs ≡ edge_count t
  pub each : (e : ℕ) (r : Run) → IsRun t e r → slice_get runs e ≡ Some r
  pub only : (e : ℕ) (r : Run) → slice_get runs e ≡ Some r → IsRun t e r

-- the fault of the first run whose nodes have one mileage
pub record IsLevelAt (runs : List Run) (e : ℕ) (r : Run) : Type 0 where
  pub there : slice_get runs e ≡ Some r
  pub level : r.from.mile.0 ≡ r.to.mile.0
  pub before : (f : ℕ) (q : Run) → f < e → slice_get runs f ≡ Some q → IsForward q

abbrev pub IsLevelFault : List Run → GraphFault → Type 0
IsLevelFault runs (NotForward edge track mileage) = (r : Run) × IsLevelAt runs edge.0 r × (track ≡ r.track)
    × (r.to.mile ≡ mileage)
IsLevelFault runs Memory = Unit {0}
IsLevelFault runs _ = ⊥

-- the node that a numbered site becomes, where the edges lie as they must
abbrev pub node_among : List Edge → ℕ × Site → Option Node
node_among edges ns =
    option_map (λ (ports : Ports). record { name = ns.1.id; mileage = ns.1.spot.mile.0; ports = ports })
    (ports_of (side_at edges ns.0) ns.1.meets)

abbrev pub nodes_among : List Edge → List Site → List (Option Node)
nodes_among edges ss = map (node_among edges) (enumerate_from 0 ss)

-- at this number of these sites, which are in order, is the first at which the edges don't lie as they must
pub record IsMismatchAt (edges : List Edge) (ss : List Site) (n : ℕ) (s : Site) : Type 0 where
  pub there : slice_get ss n ≡ Some s
  pub mismatched : ports_of (side_at edges n) s.meets ≡ None
  pub before : (m : ℕ) (r : Site) → m < n → slice_get ss m ≡ Some r → IsSome (ports_of (side_at edges m) r.meets)

-- the fault of this site at this number, if the edges don't lie there as they must
abbrev pub IsMismatchOf : List Edge → ℕ → Site → GraphFault → Type 0
IsMismatchOf edges n s (SideMismatch node name) = (node.0 ≡ n) × (name ≡ s.id)
    × (ports_of (side_at edges n) s.meets ≡ None)
IsMismatchOf edges n s Memory = Unit {0}
IsMismatchOf edges n s _ = ⊥

abbrev pub IsMismatchFault : List Edge → List Site → GraphFault → Type 0
IsMismatchFault edges ss (SideMismatch node name) = (s : Site) × IsMismatchAt edges ss node.0 s × (name ≡ s.id)
IsMismatchFault edges ss Memory = Unit {0}
IsMismatchFault edges ss _ = ⊥
