-- The same station seen from its other end: mileages are negated, so that east and west are exchanged, and
-- with them upper and lower.
use Rattle.std.specs.Prelude.{neg_ℤ, map}
use Rattle.plan_core.specs.declared.numbers.Micro.{Micro}
use Rattle.plan_core.specs.declared.sides.Side.{Side}
use Rattle.plan_core.specs.declared.sides.Side.TheVariants.{Upper, Lower}
use Rattle.plan_core.specs.declared.topology.Topology.{Topology}
use Rattle.plan_core.specs.declared.topology.Track.{Track}
use Rattle.plan_core.specs.declared.topology.End.{End as TrackEnd}
use Rattle.plan_core.specs.declared.topology.Inner.{Inner}
use Rattle.plan_core.specs.Graph.{Graph, Node, Edge, Ports, End, Joint, Switch, Crossing, opposite}
use Rattle.port_graph.specs.declared.fault.GraphFault.{GraphFault}
use Rattle.port_graph.specs.declared.fault.GraphFault.TheVariants.{TooManyNodes, TooManyEdges, NotForward}
use Rattle.port_graph.specs.declared.fault.GraphFault.TheVariants.{SideMismatch, Memory}

-- Topologies.

abbrev pub turned_mile : Micro → Micro
turned_mile m = record { 0 = neg_ℤ m.0 }

abbrev pub turned_end : TrackEnd → TrackEnd
turned_end e = record e { mile = turned_mile e.mile }

abbrev pub turned_inner : Inner → Inner
turned_inner x = record x { mile = turned_mile x.mile }

abbrev pub turned_track : Track → Track
turned_track track = record track {
  begin = turned_end track.begin;
  end = turned_end track.end;
  inner =
      map turned_inner track.inner;
}

-- the topology with every mileage negated
abbrev pub turned_topology : Topology → Topology
turned_topology t = record { tracks = map turned_track t.tracks }

-- Graphs.

abbrev pub other_side : Side → Side
other_side Upper = Lower
other_side Lower = Upper

abbrev pub turned_ports : Ports → Ports
turned_ports (End edge side) = End edge (opposite side)
turned_ports (Joint west east) = Joint east west
turned_ports (Switch legs branch trunk straight diverging) =
    Switch (opposite legs) (other_side branch) trunk straight diverging
turned_ports (Crossing west_upper west_lower east_upper east_lower) =
    Crossing east_lower east_upper west_lower west_upper

abbrev pub turned_node : Node → Node
turned_node n = record n { mileage = neg_ℤ n.mileage; ports = turned_ports n.ports }

abbrev pub turned_edge : Edge → Edge
turned_edge e = record e { west = e.east; east = e.west }

-- the graph seen from the other end: every mileage is negated, and east and west, and upper and lower, are
-- exchanged
abbrev pub turned_graph : Graph → Graph
turned_graph g = record { nodes = map turned_node g.nodes; edges = map turned_edge g.edges }

-- Faults.

-- the fault seen from the other end: its mileage is negated, where it has one
abbrev pub turned_fault : GraphFault → GraphFault
turned_fault (TooManyNodes n) = TooManyNodes n
turned_fault (TooManyEdges n) = TooManyEdges n
turned_fault (NotForward edge track mileage) = NotForward edge track (turned_mile mileage)
turned_fault (SideMismatch node name) = SideMismatch node name
turned_fault Memory = Memory
