-- The names and mileages of a topology's graph are those of the file, and few enough.
use Rattle.std.proofs.Common.{◌≡◌, ◌≢◌, ℕ, ◌<◌, inl, inr, List, [], ◌∷◌, ◌++◌, length, map, get_or, Some, sym, ap, ◌∙◌, subst, arith}
use Rattle.std.specs.Prelude.{slice_get, All, AllPairs, Contains}
use Rattle.std.specs.List.{flat_map}
use Rattle.std.proofs.lemmas.Option.{slice_get_within, get_or_from_slice_get, slice_get-get_or}
use Rattle.std.proofs.lemmas.List.{length-map, get_or_default}
use Rattle.std.proofs.lemmas.Bool.{cases_order}
use Rattle.std.proofs.lemmas.List.Elements.{All-nil, All-cons, All-head, All-append, All-map, All-contains}
use Rattle.std.proofs.lemmas.List.Sorted.{length_permutation}
use Rattle.plan_core.specs.declared.topology.Topology.{Topology}
use Rattle.plan_core.specs.declared.topology.Track.{Track}
use Rattle.plan_core.specs.Topology.{Element, elements, track_element, end_elements, inner_elements, track_elements, track_miles, IsId, IsMileage, IsResolved}
use Rattle.plan_core.specs.Graph.{Graph, Node, Edge, IsTrackGraph}
use Rattle.plan_core.proofs.ListFacts.{get_within, all_front, all_back, all_mapped}
use Rattle.port_graph.specs.declared.runs.Spot.{Spot}
use Rattle.port_graph.specs.declared.runs.Run.{Run}
use Rattle.port_graph.specs.declared.runs.Join.{Join}
use Rattle.port_graph.specs.declared.sites.Site.{Site}
use Rattle.port_graph.specs.StationGraph.{IsStationGraph}
use Rattle.port_graph.specs.Runs.{runs_between, track_pieces, pieces_of_tracks, joins}
use Rattle.port_graph.specs.Sites.{sites, node_number}
use Rattle.port_graph.specs.TopologyGraph.{edge_of, IsRun, HasFewNodes, HasFewEdges}
use Rattle.port_graph.specs.Ordered.{AreRunsOf, nodes_among}
use Rattle.port_graph.proofs.Sublists.{sublist-All, sublist-AllPairs, pairs_of_map}
use Rattle.port_graph.proofs.FromFile.{site_element, site_mile, join_element, sites_from_file, miles_from_file, joins_from_file}
use Rattle.port_graph.proofs.GraphLemmas.{AreInOrder, Becomes, node_of_site, nodes_count, site_number, site_there}

-- Names of tracks.

between_named : (name : List ℕ) (from : Spot) (spots : List Spot) → IsId name → All (λ (r : Run). IsId r.track) (runs_between name (from ∷ spots))
between_named name from [] is = All-nil (λ (r : Run). IsId r.track)
between_named name from (to ∷ spots) is = All-cons (λ (r : Run). IsId r.track) _ _ is (between_named name to spots is)

pieces_named : (t : Topology) (tracks : List Track) → All (λ (e : Element). IsId e.id) (flat_map track_elements tracks) →
    All (λ (r : Run). IsId r.track) (flat_map (track_pieces t) tracks)
pieces_named t [] all = All-nil (λ (r : Run). IsId r.track)
pieces_named t (track ∷ tracks) all =
    let own = all_front (λ (e : Element). IsId e.id) (track_elements track) (flat_map track_elements tracks) all in
    let rest = all_back (λ (e : Element). IsId e.id) (track_elements track) (flat_map track_elements tracks) all in
    All-append (λ (r : Run). IsId r.track) (track_pieces t track) (flat_map (track_pieces t) tracks)
    (between_named track.id _ _ (All-head (λ (e : Element). IsId e.id) (track_element track)
    (end_elements track.begin ++ (flat_map inner_elements track.inner ++ end_elements track.end)) own)) (pieces_named t tracks rest)

joins_named : (t : Topology) → IsResolved t → All (λ (j : Join). IsId j.run.track) (joins t)
joins_named t resolved =
    all_mapped (λ (e : Element). IsId e.id) join_element (joins t) (sublist-All (λ (e : Element). IsId e.id) (map join_element (joins t)) (elements t)
    (joins_from_file t) resolved.ids)

run_named : (t : Topology) → IsResolved t → (e : ℕ) (r : Run) → IsRun t e r → IsId r.track
run_named t resolved e r (inl piece) =
    subst (λ (q : Run). IsId q.track) (get_or_from_slice_get (pieces_of_tracks t) e r r piece)
    (pieces_named t t.tracks resolved.ids e r (slice_get_within (pieces_of_tracks t) e r piece))
run_named t resolved e r (inr (j, there, number, run)) =
    subst (λ (q : Run). IsId q.track) (ap (λ (i : Join). i.run) there.2 ∙ run) (joins_named t resolved there.0 j there.1)

runs_named : (t : Topology) (runs : List Run) → IsResolved t → AreRunsOf t runs → All (λ (r : Run). IsId r.track) runs
runs_named t runs resolved in_order i d within = run_named t resolved i (get_or runs i d) (in_order.only i (get_or runs i d) (slice_get-get_or runs i d within))

edges_named : (t : Topology) (runs : List Run) (edges : List Edge) → IsResolved t → AreRunsOf t runs → edges ≡ map (edge_of t) runs →
    All (λ (e : Edge). IsId e.track) edges
edges_named t runs edges resolved in_order is =
    subst (All (λ (e : Edge). IsId e.track)) (sym is) (All-map (λ (e : Edge). IsId e.track) (edge_of t) runs (runs_named t runs resolved in_order))

-- Names and mileages of nodes.

-- what holds of each site's node
all_nodes : (P : Node → Type 0) (edges : List Edge) (ss : List Site) (nodes : List Node) → map Some nodes ≡ nodes_among edges ss →
    ((n : ℕ) (s : Site) (m : Node) → slice_get ss n ≡ Some s → Becomes edges n s m → P m) → All P nodes
all_nodes P edges ss nodes all each i d within =
    let there : i < length ss = let e = nodes_count edges ss nodes all in omega (arith, e) in
    let at = get_within ss i there in
    let found = node_of_site edges ss nodes i at.0 all at.1 in
    subst P (sym (get_or_from_slice_get nodes i found.0 d found.1)) (each i at.0 found.0 at.1 found.2)

site_ids : (t : Topology) → IsResolved t → All (λ (s : Site). IsId s.id) (sites t)
site_ids t resolved =
    all_mapped (λ (e : Element). IsId e.id) site_element (sites t) (sublist-All (λ (e : Element). IsId e.id) (map site_element (sites t)) (elements t)
    (sites_from_file t) resolved.ids)

site_miles : (t : Topology) → IsResolved t → All (λ (s : Site). IsMileage s.spot.mile.0) (sites t)
site_miles t resolved =
    all_mapped IsMileage site_mile (sites t) (sublist-All IsMileage (map site_mile (sites t)) (flat_map track_miles t.tracks) (miles_from_file t)
    resolved.miles)

names_differ_apart : (t : Topology) → IsResolved t → AllPairs (λ (r s : Site). r.id ≢ s.id) (sites t)
names_differ_apart t resolved =
    pairs_of_map (λ (d e : Element). d.id ≢ e.id) site_element (sites t)
    (sublist-AllPairs (λ (d e : Element). d.id ≢ e.id) (map site_element (sites t)) (elements t) (sites_from_file t) resolved.ids_differ)

-- two sites of one name are one
one_name : (t : Topology) → IsResolved t → (r s : Site) → Contains (sites t) r → Contains (sites t) s → r.id ≡ s.id → r ≡ s
one_name t resolved r s (i, within_i, is_r) (j, within_j, is_s) same =
    let apart = names_differ_apart t resolved in
    let id : Site → List ℕ = λ q. q.id in
    let at_r = get_or_default (sites t) i s r within_i ∙ is_r in
    let at_s = get_or_default (sites t) j r s within_j ∙ is_s in
    elim (cases_order i j) [
      | inl equal ↦ sym is_r ∙ ap (λ k. get_or (sites t) k r) equal ∙ at_s
      | inr (inl less) ↦ absurd (apart i j r less within_j (ap id is_r ∙ same ∙ sym (ap id at_s)))
      | inr (inr more) ↦ absurd (apart j i s more within_i (ap id is_s ∙ sym same ∙ sym (ap id at_r)))
    ]

names_differ : (t : Topology) (ss : List Site) (edges : List Edge) (nodes : List Node) → IsResolved t → AreInOrder t ss →
    map Some nodes ≡ nodes_among edges ss → AllPairs (λ (m n : Node). m.name ≢ n.name) nodes
names_differ t ss edges nodes resolved order all i j d less within same =
    let count = nodes_count edges ss nodes all in
    let at = get_within ss i (omega (arith, count)) in
    let bt = get_within ss j (omega (arith, count)) in
    let m = node_of_site edges ss nodes i at.0 all at.1 in
    let n = node_of_site edges ss nodes j bt.0 all bt.1 in
    let name : Node → List ℕ = λ x. x.name in
    let ids : at.0.id ≡ bt.0.id =
    sym m.2.name ∙ ap name (sym (get_or_from_slice_get nodes i m.0 d m.1)) ∙ same ∙ ap name (get_or_from_slice_get nodes j n.0 d n.1) ∙ n.2.name in
    let one = one_name t resolved at.0 bt.0 (site_there t ss order i at.0 at.1) (site_there t ss order j bt.0 bt.1) ids in
    let places : i ≡ j =
    sym (site_number t ss resolved order i at.0 at.1) ∙ ap (λ (s : Site). node_number t s.spot.at) one ∙ site_number t ss resolved order j bt.0 bt.1 in
    omega arith

-- a track graph that is made of a topology's runs and sites in order is that of a station
pub is_station : (t : Topology) (runs : List Run) (ss : List Site) (g : Graph) → IsResolved t → HasFewNodes t → HasFewEdges t → AreRunsOf t runs →
    AreInOrder t ss → g.edges ≡ map (edge_of t) runs → map Some g.nodes ≡ nodes_among g.edges ss → IsTrackGraph g → IsStationGraph g
is_station t runs ss g resolved nodes edges in_order order made all track_graph = record {
  track_graph = track_graph;
  few_nodes = omega (arith, nodes_count g.edges ss g.nodes all, length_permutation (sites t) ss order.same, nodes);
  few_edges = omega (arith, ap length made, length-map runs (edge_of t), in_order.count, edges);
  names = all_nodes (λ (n : Node). IsId n.name) g.edges ss g.nodes all
      (λ n s m at made. subst IsId (sym made.name) (All-contains (λ (r : Site). IsId r.id) (sites t) s (site_ids t resolved) (site_there t ss order n s at)));
  names_differ = names_differ t ss g.edges g.nodes resolved order all;
  track_names = edges_named t runs g.edges resolved in_order made;
  mileages = all_nodes (λ (n : Node). IsMileage n.mileage) g.edges ss g.nodes all
      (λ n s m at made. subst IsMileage (sym made.mileage) (All-contains (λ (r : Site). IsMileage r.spot.mile.0) (sites t) s (site_miles t resolved)
      (site_there t ss order n s at)));
}
