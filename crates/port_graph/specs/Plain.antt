-- The track graph that the rows of a graph stand for.
use Rattle.std.specs.Prelude.{ℤ, List, map}
use Rattle.plan_core.specs.Graph.{Graph, Node, Edge, Ports, End, Joint, Switch, Crossing}
use Rattle.port_graph.specs.declared.ports.Ports.{Ports as NodePorts}
use Rattle.port_graph.specs.declared.ports.Ports.TheVariants as port
use Rattle.port_graph.specs.declared.ports.NodeKind.{NodeKind}
use Rattle.port_graph.specs.declared.ports.NodeKind.TheVariants as kind
use Rattle.port_graph.specs.declared.rows.NodeRow.{NodeRow}
use Rattle.port_graph.specs.declared.rows.EdgeRow.{EdgeRow}

-- a node's ports in the plain graph
abbrev pub plain_ports : NodePorts → Ports
plain_ports (port.End edge side) = End edge.0 side
plain_ports (port.Joint west east) = Joint west.0 east.0
plain_ports (port.Switch legs branch trunk straight diverging) = Switch legs branch trunk.0 straight.0 diverging.0
plain_ports (port.Crossing west_upper west_lower east_upper east_lower) =
    Crossing west_upper.0 west_lower.0 east_upper.0 east_lower.0

-- a node's kind: what its ports say but for their edges, and of an end and a crossing nothing more
abbrev pub kind_of : Ports → NodeKind
kind_of (End edge side) = kind.End
kind_of (Joint west east) = kind.Joint
kind_of (Switch legs branch trunk straight diverging) = kind.Switch legs branch
kind_of (Crossing west_upper west_lower east_upper east_lower) = kind.Crossing

abbrev pub plain_node : NodeRow → Node
plain_node n = record { name = n.name; mileage = n.mileage.0; ports = plain_ports n.ports }

abbrev pub plain_edge : EdgeRow → Edge
plain_edge e = record { track = e.track; west = e.west.0; east = e.east.0 }

-- a graph's rows as plan_core's plain graph
abbrev pub plain_graph : List NodeRow → List EdgeRow → Graph
plain_graph nodes edges = record { nodes = map plain_node nodes; edges = map plain_edge edges }

-- the mileages of rows, as the graph has them
abbrev pub miles_of : List NodeRow → List ℤ
miles_of nodes = map (λ (n : NodeRow). n.mileage.0) nodes
