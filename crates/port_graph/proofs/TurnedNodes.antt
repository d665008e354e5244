-- The graph of a topology seen from its other end is the graph seen from its other end.
use Rattle.std.proofs.Common.{◌≡◌, ◌≢◌, ℕ, ◌<◌, ℤ, List, length, map, get_or, Option, Some, sym, ap, ◌∙◌, subst, inl, inr}
use Rattle.std.specs.Prelude.{◌<ℤ◌, neg_ℤ, slice_get, All, Contains}
use Rattle.std.specs.Int.Signed.{<ℤ_irrefl}
use Rattle.std.specs.Option.{option_map}
use Rattle.std.proofs.lemmas.List.{length-map, get_or-map}
use Rattle.plan_core.specs.declared.topology.Topology.{Topology}
use Rattle.plan_core.specs.Graph.{Graph, Node, Edge, node, edge, no_node, no_edge, mileage, opposite, IsTrackGraph}
use Rattle.plan_core.specs.Topology.{IsResolved}
use Rattle.port_graph.specs.declared.runs.Spot.{Spot}
use Rattle.port_graph.specs.declared.runs.Run.{Run}
use Rattle.port_graph.specs.declared.sites.Site.{Site}
use Rattle.port_graph.specs.PortRule.{ports_of}
use Rattle.port_graph.specs.Sides.{edges_met}
use Rattle.port_graph.specs.Sites.{sites, node_number}
use Rattle.port_graph.specs.TopologyGraph.{west_of, east_of, IsRun, AreEdgesOf, side_at, IsNodeOf, IsGraphOf, AllForward}
use Rattle.port_graph.specs.Turned.{turned_topology, turned_ports, turned_node, turned_edge, turned_graph}
use Rattle.port_graph.proofs.Membership.{In, contains_in, in_contains, at_in, pairs_at}
use Rattle.port_graph.proofs.RankLemmas.{one_rank}
use Rattle.port_graph.proofs.RunEnds.{met_run}
use Rattle.port_graph.proofs.TrackGraphLemmas.{number_within, edge_within, edge_is, west_cases, west_with, east_with, goes_east, end_at, all_of}
use Rattle.port_graph.proofs.TurnedGraph.{site_twice, contains_back, AreEdgesOf-turned, side-turned, ports_of-turned}
use Rattle.port_graph.proofs.TurnedTopology.{turned_site, sites-turned, node_number-turned}
use Rattle.std.proofs.lemmas.Bool.{cases_eq}
use Rattle.std.proofs.lemmas.Option.{same_Some}
use Rattle.port_graph.proofs.FromFile.{site_places_differ}

-- ---- the two nodes of an edge differ

-- sites at one place are one site
pub one_site : (t : Topology) → IsResolved t → (s s' : Site) → In s (sites t) → In s' (sites t) → s.spot.at ≡ s'.spot.at → s ≡ s'
one_site t resolved s s' there there' same =
    let i = at_in (sites t) s there in
    let j = at_in (sites t) s' there' in
    elim (cases_eq i.0 j.0) [
      | inl one ↦ same_Some s s' (sym i.1 ∙ ap (λ (n : ℕ). at_place n) one ∙ j.1)
      | inr differ ↦ absurd (pairs_at (λ (a b : Site). a.spot.at ≢ b.spot.at) (λ a b apart e. apart (sym e)) (sites t) i.0 j.0 s s'
          (site_places_differ t resolved) i.1 j.1 differ same)
    ]
  where
    at_place : ℕ → Option Site
    at_place n = slice_get (sites t) n

pub nodes_differ : (t : Topology) → IsResolved t → AllForward t → (edges : List Edge) (e : ℕ) (r : Run) → AreEdgesOf t edges → IsRun t e r →
    (get_or edges e no_edge).west ≢ (get_or edges e no_edge).east
nodes_differ t resolved forward edges e r are run same =
    let at_e = edge_is t edges e r are run in
    let w = west_with t resolved e r run in
    let x = east_with t resolved e r run in
    let numbers : node_number t w.site.spot.at ≡ node_number t x.site.spot.at =
    ap (λ (s : Spot). node_number t s.at) w.at ∙ sym (ap (λ (y : Edge). y.west) at_e) ∙ same ∙ ap (λ (y : Edge). y.east) at_e
    ∙ sym (ap (λ (s : Spot). node_number t s.at) x.at) in
    let place : w.site.spot.at ≡ x.site.spot.at = one_rank (λ (s : Site). s.spot.at) (sites t) w.site x.site w.there x.there numbers in
    let spot : west_of r ≡ east_of r = sym w.at ∙ ap (λ (s : Site). s.spot) (one_site t resolved w.site x.site w.there x.there place) ∙ x.at in
    <ℤ_irrefl (subst (λ (s : Spot). s.mile.0 <ℤ (east_of r).mile.0) spot (goes_east r (forward e r run)))

-- ---- sides

pub flips : (t : Topology) → IsResolved t → AllForward t → (edges : List Edge) (s : Site) → AreEdgesOf t edges → In s (sites t) →
    All (λ (e : ℕ). side_at (map turned_edge edges) (node_number t s.spot.at) e ≡ opposite (side_at edges (node_number t s.spot.at) e)) (edges_met s.meets)
flips t resolved forward edges s are there =
    all_of (λ (e : ℕ). side_at (map turned_edge edges) (node_number t s.spot.at) e ≡ opposite (side_at edges (node_number t s.spot.at) e)) (edges_met s.meets)
    (λ e met.
    let r = met_run t resolved s e there met in
    side-turned edges (node_number t s.spot.at) e (edge_within t edges e r.run are r.numbered) (end_at t edges e s.spot are r)
    (nodes_differ t resolved forward edges e r.run are r.numbered))

pub site_ports-turned : (t : Topology) → IsResolved t → AllForward t → (edges : List Edge) (s : Site) → AreEdgesOf t edges → In s (sites t) →
    ports_of (side_at (map turned_edge edges) (node_number t s.spot.at)) s.meets ≡ option_map turned_ports
    (ports_of (side_at edges (node_number t s.spot.at)) s.meets)
site_ports-turned t resolved forward edges s are there =
    ports_of-turned (side_at edges (node_number t s.spot.at)) (side_at (map turned_edge edges) (node_number t s.spot.at)) s.meets
    (flips t resolved forward edges s are there)

-- ---- nodes

pub node-turned : (g : Graph) (n : ℕ) → n < length g.nodes → node (turned_graph g) n ≡ turned_node (node g n)
node-turned g n within = get_or-map turned_node g.nodes n no_node no_node within

IsNodeOf-turned : (t : Topology) (g : Graph) (s : Site) → IsResolved t → AllForward t → AreEdgesOf t g.edges → In s (sites t) →
    node_number t s.spot.at < length g.nodes → IsNodeOf t g s → IsNodeOf (turned_topology t) (turned_graph g) (turned_site s)
IsNodeOf-turned t g s resolved forward are there within is =
    let n : ℕ = node_number t s.spot.at in
    let number : n ≡ node_number (turned_topology t) s.spot.at = sym (node_number-turned t s.spot.at) in
    let at_n = node-turned g n within in
    record {
      name = subst (λ (k : ℕ). (node (turned_graph g) k).name ≡ s.id) number (ap (λ (x : Node). x.name) at_n ∙ is.name);
      mileage = subst (λ (k : ℕ). (node (turned_graph g) k).mileage ≡ neg_ℤ s.spot.mile.0) number (ap (λ (x : Node). x.mileage) at_n ∙ ap neg_ℤ is.mileage);
      ports =
          subst (λ (k : ℕ). ports_of (side_at (map turned_edge g.edges) k) s.meets ≡ Some (node (turned_graph g) k).ports) number
          (site_ports-turned t resolved forward g.edges s are there
          ∙ ap (option_map turned_ports) is.ports
          ∙ sym (ap (λ (x : Node). Some x.ports) at_n));
    }

-- ---- the graph

-- a track graph's topology leads forward everywhere
pub all_forward_of : (t : Topology) (g : Graph) → IsResolved t → IsGraphOf t g → IsTrackGraph g → AllForward t
all_forward_of t g resolved is track_graph e r run level =
    let at_e = edge_is t g.edges e r is.edges run in
    let w = west_with t resolved e r run in
    let x = east_with t resolved e r run in
    let west : mileage g (node_number t (west_of r).at) ≡ (west_of r).mile.0 = subst (λ (s : Spot). mileage g (node_number t s.at) ≡ s.mile.0) w.at
    (is.each w.site (contains_in (sites t) w.site w.there)).mileage in
    let east : mileage g (node_number t (east_of r).at) ≡ (east_of r).mile.0 = subst (λ (s : Spot). mileage g (node_number t s.at) ≡ s.mile.0) x.at
    (is.each x.site (contains_in (sites t) x.site x.there)).mileage in
    let less : mileage g (edge g e).west <ℤ mileage g (edge g e).east = track_graph.forward e (edge_within t g.edges e r is.edges run) in
    let one : (west_of r).mile.0 ≡ (east_of r).mile.0 = elim (west_cases r) [
      | inl c ↦ ap (λ (s : Spot). s.mile.0) c.0 ∙ level ∙ sym (ap (λ (s : Spot). s.mile.0) c.1)
      | inr c ↦ ap (λ (s : Spot). s.mile.0) c.0 ∙ sym level ∙ sym (ap (λ (s : Spot). s.mile.0) c.1)
    ] in
    let same : mileage g (edge g e).west ≡ mileage g (edge g e).east =
    ap (λ (y : Edge). mileage g y.west) at_e ∙ west ∙ one ∙ sym east ∙ sym (ap (λ (y : Edge). mileage g y.east) at_e) in
    <ℤ_irrefl (subst (λ (z : ℤ). z <ℤ mileage g (edge g e).east) same less)

pub IsGraphOf-turned : (t : Topology) (g : Graph) → IsResolved t → AllForward t → IsGraphOf t g → IsGraphOf (turned_topology t) (turned_graph g)
IsGraphOf-turned t g resolved forward is = record {
  edges = AreEdgesOf-turned t g.edges forward is.edges;
  count = length-map g.nodes turned_node ∙ is.count ∙ sym (ap (λ (l : List Site). length l) (sites-turned t) ∙ length-map (sites t) turned_site);
  each = λ s there.
      let there' = contains_back turned_site site_twice (sites t) s (subst (λ (l : List Site). Contains l s) (sites-turned t) there) in
      let in_there = in_contains (sites t) (turned_site s) there' in
      let within = subst (λ (n : ℕ). node_number t s.spot.at < n) (sym is.count) (number_within t (turned_site s) in_there) in
      subst (λ (x : Site). IsNodeOf (turned_topology t) (turned_graph g) x) (site_twice s)
      (IsNodeOf-turned t g (turned_site s) resolved forward is.edges in_there within (is.each (turned_site s) there'));
}
