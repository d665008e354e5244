-- With every hand exchanged twice, a station is as it was.
use Rattle.std.proofs.Common.{◌≡◌, List, refl, ap}
use Rattle.plan_core.specs.declared.sides.Hand.{Hand}
use Rattle.plan_core.specs.declared.sides.Side.{Side}
use Rattle.plan_core.specs.declared.topology.Topology.{Topology}
use Rattle.plan_core.specs.declared.topology.Track.{Track}
use Rattle.plan_core.specs.declared.topology.Inner.{Inner}
use Rattle.plan_core.specs.declared.topology.InnerKind.{InnerKind}
use Rattle.plan_core.specs.declared.topology.InnerKind.TheVariants as kind
use Rattle.plan_core.specs.Graph.{Graph, Node, Ports, End, Joint, Switch, Crossing}
use Rattle.port_graph.specs.Mirrored.{mirrored_kind, mirrored_inner, mirrored_track, mirrored_topology, mirrored_ports, mirrored_node, mirrored_graph}
use Rattle.port_graph.proofs.TurnedTwice.{map_twice, side_twice}
use Rattle.port_graph.proofs.MirroredGraph.{hand_twice}

kind_twice : (what : InnerKind) → mirrored_kind (mirrored_kind what) ≡ what
kind_twice (kind.Switch outgoing hand track_diverges conn) = ap (λ (h : Hand). kind.Switch outgoing h track_diverges conn) (hand_twice hand)
kind_twice (kind.Crossing hand incoming outgoing) = ap (λ (h : Hand). kind.Crossing h incoming outgoing) (hand_twice hand)

inner_twice : (x : Inner) → mirrored_inner (mirrored_inner x) ≡ x
inner_twice x = let F : InnerKind → Inner = λ k. record x { what = k } in ap F (kind_twice x.what)

track_twice : (track : Track) → mirrored_track (mirrored_track track) ≡ track
track_twice track = let F : List Inner → Track = λ l. record track { inner = l } in ap F (map_twice mirrored_inner inner_twice track.inner)

pub topology_twice : (t : Topology) → mirrored_topology (mirrored_topology t) ≡ t
topology_twice t = let F : List Track → Topology = λ l. record { tracks = l } in ap F (map_twice mirrored_track track_twice t.tracks)

ports_twice : (p : Ports) → mirrored_ports (mirrored_ports p) ≡ p
ports_twice (End e side) = refl
ports_twice (Joint west east) = refl
ports_twice (Switch legs branch trunk straight diverging) = ap (λ (s : Side). Switch legs s trunk straight diverging) (side_twice branch)
ports_twice (Crossing west_upper west_lower east_upper east_lower) = refl

node_twice : (n : Node) → mirrored_node (mirrored_node n) ≡ n
node_twice n = let F : Ports → Node = λ p. record n { ports = p } in ap F (ports_twice n.ports)

pub graph_twice : (g : Graph) → mirrored_graph (mirrored_graph g) ≡ g
graph_twice g = let F : List Node → Graph = λ nodes. record { nodes = nodes; edges = g.edges } in ap F (map_twice mirrored_node node_twice g.nodes)
