-- The same station with every hand exchanged: what left its track to the left leaves it to the right. Mileages, and
-- with them east
-- and west, stay; upper and lower are exchanged.
use Rattle.std.specs.Prelude.{map}
use Rattle.plan_core.specs.declared.sides.Hand.{Hand}
use Rattle.plan_core.specs.declared.sides.Hand.TheVariants.{Left, Right}
use Rattle.plan_core.specs.declared.topology.Topology.{Topology}
use Rattle.plan_core.specs.declared.topology.Track.{Track}
use Rattle.plan_core.specs.declared.topology.Inner.{Inner}
use Rattle.plan_core.specs.declared.topology.InnerKind.{InnerKind}
use Rattle.plan_core.specs.declared.topology.InnerKind.TheVariants as kind
use Rattle.plan_core.specs.Graph.{Graph, Node, Ports, End, Joint, Switch, Crossing}
use Rattle.port_graph.specs.Turned.{other_side}

-- Topologies.

abbrev pub other_hand : Hand → Hand
other_hand Left = Right
other_hand Right = Left

abbrev pub mirrored_kind : InnerKind → InnerKind
mirrored_kind (kind.Switch outgoing hand track_diverges conn) =
    kind.Switch outgoing (other_hand hand) track_diverges conn
mirrored_kind (kind.Crossing hand incoming outgoing) = kind.Crossing (other_hand hand) incoming outgoing

abbrev pub mirrored_inner : Inner → Inner
mirrored_inner x = record x { what = mirrored_kind x.what }

abbrev pub mirrored_track : Track → Track
mirrored_track track = record track { inner = map mirrored_inner track.inner }

-- the topology with every hand the other one
abbrev pub mirrored_topology : Topology → Topology
mirrored_topology t = record { tracks = map mirrored_track t.tracks }

-- Graphs. The edges are as they were.

abbrev pub mirrored_ports : Ports → Ports
mirrored_ports (End edge side) = End edge side
mirrored_ports (Joint west east) = Joint west east
mirrored_ports (Switch legs branch trunk straight diverging) = Switch legs (other_side branch) trunk straight diverging
mirrored_ports (Crossing west_upper west_lower east_upper east_lower) =
    Crossing west_lower west_upper east_lower east_upper

abbrev pub mirrored_node : Node → Node
mirrored_node n = record n { ports = mirrored_ports n.ports }

-- the graph with upper and lower exchanged, and nothing else
abbrev pub mirrored_graph : Graph → Graph
mirrored_graph g = record { nodes = map mirrored_node g.nodes; edges = g.edges }
