-- Seen twice from its other end, a station is as it was.
use Rattle.std.proofs.Common.{◌≡◌, ℤ, List, [], ◌∷◌, map, refl, ap, ◌∙◌}
use Rattle.std.proofs.Math.IntN.{neg_ℤ-neg_ℤ}
use Rattle.plan_core.specs.declared.numbers.Micro.{Micro}
use Rattle.plan_core.specs.declared.sides.Compass.{Compass}
use Rattle.plan_core.specs.declared.sides.Compass.TheVariants.{East, West}
use Rattle.plan_core.specs.declared.sides.Side.{Side}
use Rattle.plan_core.specs.declared.sides.Side.TheVariants.{Upper, Lower}
use Rattle.plan_core.specs.declared.topology.Topology.{Topology}
use Rattle.plan_core.specs.declared.topology.Track.{Track}
use Rattle.plan_core.specs.declared.topology.End.{End as TrackEnd}
use Rattle.plan_core.specs.declared.topology.Inner.{Inner}
use Rattle.plan_core.specs.Graph.{Graph, Node, Edge, Ports, End, Joint, Switch, Crossing, opposite}
use Rattle.port_graph.specs.Turned.{turned_end, turned_inner, turned_track, turned_topology, other_side, turned_ports, turned_node, turned_edge, turned_graph}
use Rattle.port_graph.proofs.TurnedGraph.{mile_twice}

pub map_twice : {X : Type 0} (f : X → X) → ((x : X) → f (f x) ≡ x) → (xs : List X) → map f (map f xs) ≡ xs
map_twice f twice [] = refl
map_twice {X} f twice (x ∷ xs) = ap (λ (y : X). y ∷ map f (map f xs)) (twice x) ∙ ap (λ (ys : List X). x ∷ ys) (map_twice f twice xs)

end_twice : (e : TrackEnd) → turned_end (turned_end e) ≡ e
end_twice e = let F : Micro → TrackEnd = λ m. record e { mile = m } in ap F (mile_twice e.mile)

inner_twice : (x : Inner) → turned_inner (turned_inner x) ≡ x
inner_twice x = let F : Micro → Inner = λ m. record x { mile = m } in ap F (mile_twice x.mile)

track_twice : (track : Track) → turned_track (turned_track track) ≡ track
track_twice track =
    let F : TrackEnd → TrackEnd → List Inner → Track = λ b e l. record track { begin = b; end = e; inner = l } in
    ap (λ (b : TrackEnd). F b (turned_end (turned_end track.end)) (map turned_inner (map turned_inner track.inner))) (end_twice track.begin)
    ∙ ap (λ (e : TrackEnd). F track.begin e (map turned_inner (map turned_inner track.inner))) (end_twice track.end)
    ∙ ap (F track.begin track.end) (map_twice turned_inner inner_twice track.inner)

pub topology_twice : (t : Topology) → turned_topology (turned_topology t) ≡ t
topology_twice t = let F : List Track → Topology = λ l. record { tracks = l } in ap F (map_twice turned_track track_twice t.tracks)

opposite_twice : (c : Compass) → opposite (opposite c) ≡ c
opposite_twice East = refl
opposite_twice West = refl

pub side_twice : (s : Side) → other_side (other_side s) ≡ s
side_twice Upper = refl
side_twice Lower = refl

ports_twice : (p : Ports) → turned_ports (turned_ports p) ≡ p
ports_twice (End e side) = ap (End e) (opposite_twice side)
ports_twice (Joint west east) = refl
ports_twice (Switch legs branch trunk straight diverging) =
    ap (λ (c : Compass). Switch c (other_side (other_side branch)) trunk straight diverging) (opposite_twice legs)
    ∙ ap (λ (s : Side). Switch legs s trunk straight diverging) (side_twice branch)
ports_twice (Crossing west_upper west_lower east_upper east_lower) = refl

node_twice : (n : Node) → turned_node (turned_node n) ≡ n
node_twice n =
    let F : ℤ → Ports → Node = λ m p. record n { mileage = m; ports = p } in
    ap (λ (m : ℤ). F m (turned_ports (turned_ports n.ports))) (neg_ℤ-neg_ℤ n.mileage) ∙ ap (F n.mileage) (ports_twice n.ports)

pub graph_twice : (g : Graph) → turned_graph (turned_graph g) ≡ g
graph_twice g =
    let F : List Node → List Edge → Graph = λ nodes edges. record { nodes = nodes; edges = edges } in
    ap (λ (l : List Node). F l (map turned_edge (map turned_edge g.edges))) (map_twice turned_node node_twice g.nodes)
    ∙ ap (F g.nodes) (map_twice turned_edge (λ e. refl) g.edges)
