-- The track graph of a topology, and why it may have none.
-- All of this is meant of a resolved topology (`IsResolved` of plan_core).
use Rattle.std.specs.Prelude.{◌≡◌, ◌≢◌, ℕ, ◌≤◌, ◌<◌, ℤ, ◌⊎◌, nat_eq, int_lt, if◌then◌else◌, List, [], codes, length}
use Rattle.std.specs.Prelude.{Contains, Some, None, IsSome, slice_get, slice_index_or}
use Rattle.plan_core.specs.declared.limits.TheConstants.{MAX_NODES, MAX_EDGES}
use Rattle.plan_core.specs.declared.sides.Compass.{Compass}
use Rattle.plan_core.specs.declared.sides.Compass.TheVariants.{East, West}
use Rattle.plan_core.specs.declared.topology.Topology.{Topology}
use Rattle.plan_core.specs.Graph.{Graph, Edge, node, no_edge}
use Rattle.port_graph.specs.declared.runs.Spot.{Spot}
use Rattle.port_graph.specs.declared.runs.Run.{Run}
use Rattle.port_graph.specs.declared.runs.Join.{Join}
use Rattle.port_graph.specs.declared.sites.Site.{Site}
use Rattle.port_graph.specs.declared.fault.GraphFault.{GraphFault}
use Rattle.port_graph.specs.declared.fault.GraphFault.TheVariants.{TooManyNodes, TooManyEdges, NotForward}
use Rattle.port_graph.specs.declared.fault.GraphFault.TheVariants.{SideMismatch, Memory}
use Rattle.port_graph.specs.Runs.{pieces_of_tracks, joins, join_number, edge_count}
use Rattle.port_graph.specs.Sites.{sites, number_among, node_number}
use Rattle.port_graph.specs.PortRule.{ports_of}
use Rattle.port_graph.specs.StationGraph.{IsStationGraph}

-- the node of a run that has the smaller mileage; where both have one mileage, the node to which it leads
abbrev pub west_of : Run → Spot
west_of r = if int_lt r.from.mile.0 r.to.mile.0 then r.from else r.to

-- the other node of the run
abbrev pub east_of : Run → Spot
east_of r = if int_lt r.from.mile.0 r.to.mile.0 then r.to else r.from

-- the edge that a run becomes where these are the nodes
abbrev pub edge_among : List Site → Run → Edge
edge_among ss r = record {
  track = r.track;
  west = number_among ss (west_of r).at;
  east =
      number_among ss (east_of r).at;
}

abbrev pub edge_of : Topology → Run → Edge
edge_of t r = edge_among (sites t) r

-- the run that becomes the edge of this number
abbrev pub IsRun : Topology → ℕ → Run → Type 0
IsRun t e r = (slice_get (pieces_of_tracks t) e ≡ Some r)
    ⊎ ((j : Join) × Contains (joins t) j × (join_number t j.at ≡ e) × (j.run ≡ r))

-- the list has an edge for each piece and each join, at its number
pub record AreEdgesOf (t : Topology) (edges : List Edge) : Type 0 where
  pub count : length edges ≡ edge_count t
  pub each : (e : ℕ) (r : Run) → IsRun t e r → slice_get edges e ≡ Some (edge_of t r)

-- the side of node n on which edge e lies, if they meet: east where the node is the edge's west node
abbrev pub side_at : List Edge → ℕ → ℕ → Compass
side_at edges n e = if nat_eq (slice_index_or edges e no_edge).west n then East else West

-- the node of this element, at its number: its name, its mileage, and its ports by the sides on which
-- its edges lie
pub record IsNodeOf (t : Topology) (g : Graph) (s : Site) : Type 0 where
  pub name : (node g (node_number t s.spot.at)).name ≡ s.id
  pub mileage : (node g (node_number t s.spot.at)).mileage ≡ s.spot.mile.0
  pub ports : ports_of (side_at g.edges (node_number t s.spot.at)) s.meets
      ≡ Some (node g (node_number t s.spot.at)).ports

-- the track graph of a topology
pub record IsGraphOf (t : Topology) (g : Graph) : Type 0 where
  pub edges : AreEdgesOf t g.edges
  pub count : length g.nodes ≡ length (sites t)
  pub each : (s : Site) → Contains (sites t) s → IsNodeOf t g s

-- the track graph of a topology that has one
pub record IsStationGraphOf (t : Topology) (g : Graph) : Type 0 where
  pub graph : IsGraphOf t g
  pub station : IsStationGraph g

-- Faults.

-- the ends of a run have different mileages
abbrev pub IsForward : Run → Type 0
IsForward r = r.from.mile.0 ≢ r.to.mile.0

-- each edge joins nodes of different mileages
abbrev pub AllForward : Topology → Type 0
AllForward t = (e : ℕ) (r : Run) → IsRun t e r → IsForward r

-- the edges lie as they must at this node of the topology
abbrev pub Matches : Topology → List Edge → Site → Type 0
Matches t edges s = IsSome (ports_of (side_at edges (node_number t s.spot.at)) s.meets)

-- edge e, of this track name, has this mileage at both ends, and no earlier edge has one mileage
pub record IsFirstLevel (t : Topology) (e : ℕ) (track : List ℕ) (mileage : ℤ) : Type 0 where
  pub run : Run
  pub numbered : IsRun t e run
  pub named : track ≡ run.track
  pub from : run.from.mile.0 ≡ mileage
  pub to : run.to.mile.0 ≡ mileage
  pub before : (f : ℕ) (r : Run) → f < e → IsRun t f r → IsForward r

-- at node n, of this name, the edges don't lie as they must, and at each earlier node they do
pub record IsFirstMismatch (t : Topology) (n : ℕ) (name : List ℕ) : Type 0 where
  pub edges : List Edge
  pub built : AreEdgesOf t edges
  pub site : Site
  pub there : Contains (sites t) site
  pub numbered : node_number t site.spot.at ≡ n
  pub named : name ≡ site.id
  pub mismatched : ports_of (side_at edges n) site.meets ≡ None
  pub before : (s : Site) → Contains (sites t) s → node_number t s.spot.at < n → Matches t edges s

-- there are at most 128 nodes
abbrev pub HasFewNodes : Topology → Type 0
HasFewNodes t = length (sites t) ≤ MAX_NODES

-- there are at most 160 edges
abbrev pub HasFewEdges : Topology → Type 0
HasFewEdges t = edge_count t ≤ MAX_EDGES

-- the fault holds of the topology, and none before it in the order of their kinds; want of memory is no
-- fault of it. How many tracks there are doesn't matter: 65 open tracks have too many nodes, and none of
-- those past the 65,536th can be joined to another
abbrev pub IsGraphFault : Topology → GraphFault → Type 0
IsGraphFault t (TooManyNodes n) = (n ≡ length (sites t)) × (MAX_NODES < n)
IsGraphFault t (TooManyEdges n) = HasFewNodes t × (n ≡ edge_count t) × (MAX_EDGES < n)
IsGraphFault t (NotForward edge track mileage) = HasFewNodes t × HasFewEdges t × IsFirstLevel t edge.0 track mileage.0
IsGraphFault t (SideMismatch node name) = HasFewNodes t × HasFewEdges t × AllForward t × IsFirstMismatch t node.0 name
IsGraphFault t Memory = ⊥

-- the number of a fault; want of memory has none, and so 0
abbrev pub number_of : GraphFault → ℕ
number_of (TooManyNodes n) = 1
number_of (TooManyEdges n) = 2
number_of (NotForward edge track mileage) = 3
number_of (SideMismatch node name) = 4
number_of Memory = 0

-- the word of a fault; want of memory has none, and so an empty text
abbrev pub word_of : GraphFault → List ℕ
word_of (TooManyNodes n) = codes "TooManyNodes"
word_of (TooManyEdges n) = codes "TooManyEdges"
word_of (NotForward edge track mileage) = codes "NotForward"
word_of (SideMismatch node name) = codes "SideMismatch"
word_of Memory = []
