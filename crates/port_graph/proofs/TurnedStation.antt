-- What a topology and a track graph are, they are seen from the other end too.
use Rattle.std.proofs.Common.{◌≡◌, ◌≢◌, ℕ, ◌<◌, ◌≤◌, ◌^◌, ℤ, List, [], ◌∷◌, ◌++◌, length, map, get_or, refl, sym, ap, ◌∙◌, subst, arith}
use Rattle.std.specs.Prelude.{◌<ℤ◌, neg_ℤ, All, AllPairs, Contains}
use Rattle.std.specs.List.{flat_map}
use Rattle.std.specs.List.Sorted.{IsPermutation}
use Rattle.std.proofs.Math.IntN.{neg_ℤ-neg_ℤ}
use Rattle.std.proofs.lemmas.List.{length-map, get_or-map, map-append}
use Rattle.std.proofs.lemmas.List.Elements.{All-map, All-weaker}
use Rattle.std.proofs.lemmas.List.Sorted.{IsPermutation-refl, All-permutation, Contains-permutation}
use Rattle.plan_core.specs.declared.sides.Compass.{Compass}
use Rattle.plan_core.specs.declared.sides.Compass.TheVariants.{East, West}
use Rattle.plan_core.specs.declared.limits.TheConstants.{MAX_NODES, MAX_EDGES}
use Rattle.plan_core.specs.declared.topology.Topology.{Topology}
use Rattle.plan_core.specs.declared.topology.Track.{Track}
use Rattle.plan_core.specs.declared.topology.Inner.{Inner}
use Rattle.plan_core.specs.Graph.{Graph, Node, Edge, Ports, End, Joint, Switch, Crossing, node, edge, no_edge, mileage, edges_of, opposite, LiesOn, AreAt}
use Rattle.plan_core.specs.Graph.{IsPortOf, ArePortsOf, IsTrackGraph}
use Rattle.plan_core.specs.Topology.{Element, elements, track_elements, inner_elements, end_elements, track_element, track_miles, IsMileage, farthest, IsId}
use Rattle.plan_core.specs.Topology.{IsResolved}
use Rattle.port_graph.specs.StationGraph.{IsStationGraph}
use Rattle.port_graph.specs.Turned.{turned_inner, turned_track, turned_topology, turned_ports, turned_node, turned_edge, turned_graph}
use Rattle.port_graph.proofs.PortLemmas.{apart_moved}
use Rattle.port_graph.proofs.MileLemmas.{neg_less}
use Rattle.port_graph.proofs.TurnedLists.{map_turned, flat_turned, flat_alike}
use Rattle.port_graph.proofs.TurnedNodes.{node-turned}
use Rattle.port_graph.proofs.TurnedTopology.{connection-turned}

-- ---- topologies

elements-turned : (t : Topology) → elements (turned_topology t) ≡ elements t
elements-turned t =
    flat_alike turned_track track_elements track_elements
    (λ track. ap (λ (l : List Element). track_element track ∷ (end_elements track.begin ++ (l ++ end_elements track.end)))
    (flat_alike turned_inner inner_elements inner_elements (λ x. refl) track.inner))
    t.tracks

track_miles-turned : (track : Track) → track_miles (turned_track track) ≡ map neg_ℤ (track_miles track)
track_miles-turned track =
    let mile : Inner → ℤ = λ x. x.mile.0 in
    ap (λ (l : List ℤ). neg_ℤ track.begin.mile.0 ∷ (l ++ neg_ℤ track.end.mile.0 ∷ [])) (map_turned turned_inner mile neg_ℤ mile (λ x. refl) track.inner)
    ∙ ap (λ (l : List ℤ). neg_ℤ track.begin.mile.0 ∷ l) (sym (map-append neg_ℤ (map mile track.inner) (track.end.mile.0 ∷ [])))

pub IsMileage-negated : (m : ℤ) → IsMileage m → IsMileage (neg_ℤ m)
IsMileage-negated m is = (neg_less m farthest is.1, subst (λ (z : ℤ). neg_ℤ m <ℤ z) (neg_ℤ-neg_ℤ farthest) (neg_less (neg_ℤ farthest) m is.0))

pub IsResolved-turned : (t : Topology) → IsResolved t → IsResolved (turned_topology t)
IsResolved-turned t resolved = record {
  few = subst (λ (l : List Element). length l < 2 ^ 32) (sym (elements-turned t)) resolved.few;
  ids = subst (λ (l : List Element). All (λ (e : Element). IsId e.id) l) (sym (elements-turned t)) resolved.ids;
  ids_differ = subst (λ (l : List Element). AllPairs (λ (d e : Element). d.id ≢ e.id) l) (sym (elements-turned t)) resolved.ids_differ;
  places_differ = subst (λ (l : List Element). AllPairs (λ (d e : Element). d.at ≢ e.at) l) (sym (elements-turned t)) resolved.places_differ;
  joins = record {
    back = λ p c is.
        let b = resolved.joins.back p c (sym (connection-turned t p) ∙ is) in
        (b.0, connection-turned t c.to ∙ b.1, b.2);
    elsewhere = λ p c is. resolved.joins.elsewhere p c (sym (connection-turned t p) ∙ is);
  };
  miles =
      subst (λ (l : List ℤ). All IsMileage l) (sym (flat_turned turned_track track_miles neg_ℤ track_miles track_miles-turned t.tracks))
      (All-map IsMileage neg_ℤ (flat_map track_miles t.tracks) (All-weaker IsMileage (λ (m : ℤ). IsMileage (neg_ℤ m)) IsMileage-negated
      (flat_map track_miles t.tracks) resolved.miles));
}

-- ---- graphs

ports_moved : (p : Ports) → IsPermutation (edges_of p) (edges_of (turned_ports p))
ports_moved (End e side) = IsPermutation-refl (e ∷ [])
ports_moved (Joint west east) = record { moves = (0, 1) ∷ []; below = (omega arith, omega arith, tt); is = refl }
ports_moved (Switch legs branch trunk straight diverging) = IsPermutation-refl (trunk ∷ straight ∷ diverging ∷ [])
ports_moved (Crossing west_upper west_lower east_upper east_lower) = record {
  moves = (1, 2) ∷ (0, 3) ∷ [];
  below = (omega arith, omega arith, (omega arith, omega arith, tt));
  is = refl;
}

edge-turned : (g : Graph) (e : ℕ) → e < length g.edges → edge (turned_graph g) e ≡ turned_edge (edge g e)
edge-turned g e within = get_or-map turned_edge g.edges e no_edge no_edge within

lies-turned : (g : Graph) (n e : ℕ) (c : Compass) → e < length g.edges → LiesOn c g n e → LiesOn (opposite c) (turned_graph g) n e
lies-turned g n e East within is = ap (λ (x : Edge). x.east) (edge-turned g e within) ∙ is
lies-turned g n e West within is = ap (λ (x : Edge). x.west) (edge-turned g e within) ∙ is

at-turned : (g : Graph) (n : ℕ) (p : Ports) → All (λ (e : ℕ). e < length g.edges) (edges_of p) → AreAt g n p → AreAt (turned_graph g) n (turned_ports p)
at-turned g n (End e side) there is = lies-turned g n e side (there 0 0 (omega arith)) is
at-turned g n (Joint west east) there is = (lies-turned g n east East (there 1 0 (omega arith)) is.1, lies-turned g n west West (there 0 0 (omega arith)) is.0)
at-turned g n (Switch East branch trunk straight diverging) there is = (
  lies-turned g n trunk West (there 0 0 (omega arith)) is.0,
  lies-turned g n straight East (there 1 0 (omega arith)) is.1,
  lies-turned g n diverging East
      (there 2 0 (omega arith)) is.2,
)
at-turned g n (Switch West branch trunk straight diverging) there is = (
  lies-turned g n trunk East (there 0 0 (omega arith)) is.0,
  lies-turned g n straight West (there 1 0 (omega arith)) is.1,
  lies-turned g n diverging West
      (there 2 0 (omega arith)) is.2,
)
at-turned g n (Crossing west_upper west_lower east_upper east_lower) there is = (
  lies-turned g n east_lower East (there 3 0 (omega arith)) is.3,
  lies-turned g n east_upper East (there 2 0 (omega arith)) is.2,
  lies-turned g n west_lower
      West (there 1 0 (omega arith)) is.1,
  lies-turned g n west_upper West (there 0 0 (omega arith)) is.0,
)

ports-turned : (g : Graph) (n : ℕ) (p : Ports) → ArePortsOf g n p → ArePortsOf (turned_graph g) n (turned_ports p)
ports-turned g n p is = record {
  there = subst (λ (k : ℕ). All (λ (e : ℕ). e < k) (edges_of (turned_ports p))) (sym (length-map g.edges turned_edge))
      (All-permutation (λ (e : ℕ). e < length g.edges) (edges_of p) (edges_of (turned_ports p)) (ports_moved p) is.there);
  apart = apart_moved (edges_of p) (edges_of (turned_ports p)) (ports_moved p) is.apart;
  placed = at-turned g n p is.there is.placed;
}

port-turned : (g : Graph) (n e : ℕ) → n < length g.nodes → IsPortOf g n e → IsPortOf (turned_graph g) n e
port-turned g n e within is =
    subst (λ (x : Node). Contains (edges_of x.ports) e) (sym (node-turned g n within))
    (Contains-permutation (edges_of (node g n).ports) (edges_of (turned_ports (node g n).ports)) e (ports_moved (node g n).ports) is)

mileage-turned : (g : Graph) (n : ℕ) → n < length g.nodes → mileage (turned_graph g) n ≡ neg_ℤ (mileage g n)
mileage-turned g n within = ap (λ (x : Node). x.mileage) (node-turned g n within)

module _ (g : Graph) (is : IsTrackGraph g) where
  edge_there : (e : ℕ) → e < length (turned_graph g).edges → e < length g.edges
  edge_there e within = subst (λ (n : ℕ). e < n) (length-map g.edges turned_edge) within

  node_count : length g.nodes ≡ length (turned_graph g).nodes
  node_count = sym (length-map g.nodes turned_node)

  pub IsTrackGraph-turned : IsTrackGraph (turned_graph g)
  IsTrackGraph-turned = record {
    nodes = λ e within.
        let here = edge_there e within in
        let ends = is.nodes e here in (
          subst (λ (n : ℕ). n < length (turned_graph g).nodes) (sym (ap (λ (x : Edge). x.west) (edge-turned g e here)))
              (subst (λ (n : ℕ). (edge g e).east < n) node_count ends.1),
          subst (λ (n : ℕ). n < length (turned_graph g).nodes) (sym (ap (λ (x : Edge). x.east) (edge-turned g e here)))
              (subst (λ (n : ℕ). (edge g e).west < n) node_count ends.0),
        );
    forward = λ e within.
        let here = edge_there e within in
        let ends = is.nodes e here in
        let west : mileage (turned_graph g) (edge (turned_graph g) e).west ≡ neg_ℤ (mileage g (edge g e).east) = ap
        (λ (x : Edge). mileage (turned_graph g) x.west) (edge-turned g e here) ∙ mileage-turned g (edge g e).east ends.1 in
        let east : mileage (turned_graph g) (edge (turned_graph g) e).east ≡ neg_ℤ (mileage g (edge g e).west) = ap
        (λ (x : Edge). mileage (turned_graph g) x.east) (edge-turned g e here) ∙ mileage-turned g (edge g e).west ends.0 in
        subst (λ (z : ℤ). z <ℤ mileage (turned_graph g) (edge (turned_graph g) e).east) (sym west)
        (subst (λ (z : ℤ). neg_ℤ (mileage g (edge g e).east) <ℤ z) (sym east) (neg_less (mileage g (edge g e).west) (mileage g (edge g e).east)
        (is.forward e here)));
    met = λ e within.
        let here = edge_there e within in
        let ends = is.nodes e here in
        let ports = is.met e here in (
          subst (λ (x : Edge). IsPortOf (turned_graph g) x.west e) (sym (edge-turned g e here)) (port-turned g (edge g e).east e ends.1 ports.1),
          subst (λ (x : Edge). IsPortOf (turned_graph g) x.east e) (sym (edge-turned g e here)) (port-turned g (edge g e).west e ends.0 ports.0),
        );
    ports = λ n within.
        let here = subst (λ (k : ℕ). n < k) (sym node_count) within in
        subst (λ (x : Node). ArePortsOf (turned_graph g) n x.ports) (sym (node-turned g n here)) (ports-turned g n (node g n).ports (is.ports n here));
  }

pub pairs_map : {X : Type 0} (R : X → X → Type 0) (f : X → X) (xs : List X) → AllPairs (λ (x y : X). R (f x) (f y)) xs → AllPairs R (map f xs)
pairs_map {X} R f xs pairs i j d less within =
    let within' : j < length xs = subst (λ (n : ℕ). j < n) (length-map xs f) within in
    subst (λ (z : X). R z (get_or (map f xs) j d)) (sym (get_or-map f xs i d d (omega arith)))
    (subst (λ (z : X). R (f (get_or xs i d)) z) (sym (get_or-map f xs j d d within')) (pairs i j d less within'))

pub IsStationGraph-turned : (g : Graph) → IsStationGraph g → IsStationGraph (turned_graph g)
IsStationGraph-turned g is = record {
  track_graph = IsTrackGraph-turned g is.track_graph;
  few_nodes = subst (λ (n : ℕ). n ≤ MAX_NODES) (sym (length-map g.nodes turned_node)) is.few_nodes;
  few_edges = subst (λ (n : ℕ). n ≤ MAX_EDGES) (sym (length-map g.edges turned_edge)) is.few_edges;
  names = All-map (λ (n : Node). IsId n.name) turned_node g.nodes is.names;
  names_differ = pairs_map (λ (m n : Node). m.name ≢ n.name) turned_node g.nodes is.names_differ;
  track_names = All-map (λ (e : Edge). IsId e.track) turned_edge g.edges is.track_names;
  mileages = All-map (λ (n : Node). IsMileage n.mileage) turned_node g.nodes (All-weaker (λ (n : Node). IsMileage n.mileage)
      (λ (n : Node). IsMileage (neg_ℤ n.mileage)) (λ n. IsMileage-negated n.mileage) g.nodes is.mileages);
}
