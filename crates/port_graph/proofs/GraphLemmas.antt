-- From the lists in order to the track graph of the topology, or its fault.
use Rattle.std.proofs.Common.{◌≡◌, ◌⊎◌, inl, inr, ℕ, zero, suc, ◌+◌, List, [], ◌∷◌, length, map, Some, None, refl, sym, ap, ◌∙◌, subst, arith, add-zero}
use Rattle.std.proofs.Common.{zero-add}
use Rattle.std.specs.Prelude.{Option, slice_get, All, Contains}
use Rattle.std.specs.Option.{option_map}
use Rattle.std.specs.List.{enumerate_from}
use Rattle.std.specs.List.Sorted.{IsPermutation, IsNonDecreasingBy}
use Rattle.std.proofs.lemmas.Option.{slice_get_within, get_or_from_slice_get}
use Rattle.std.proofs.lemmas.List.{length-map}
use Rattle.std.proofs.lemmas.List.FromFn.{length-enumerate_from}
use Rattle.std.proofs.lemmas.List.Sorted.{Contains-permutation, IsPermutation-sym, length_permutation}
use Rattle.plan_core.specs.declared.topology.Topology.{Topology}
use Rattle.plan_core.specs.Topology.{IsResolved}
use Rattle.plan_core.specs.Graph.{Graph, Node, Edge, Ports, node, no_node}
use Rattle.port_graph.specs.declared.runs.Run.{Run}
use Rattle.port_graph.specs.declared.sites.Site.{Site}
use Rattle.port_graph.specs.declared.fault.GraphFault.{GraphFault}
use Rattle.port_graph.specs.declared.fault.GraphFault.TheVariants.{TooManyNodes, TooManyEdges, NotForward, SideMismatch, Memory}
use Rattle.port_graph.specs.Sites.{sites, node_number}
use Rattle.port_graph.specs.PortRule.{ports_of}
use Rattle.port_graph.specs.TopologyGraph.{edge_of, IsForward, AllForward, AreEdgesOf, IsNodeOf, IsGraphOf, HasFewNodes, HasFewEdges, IsGraphFault, edge_among}
use Rattle.port_graph.specs.TopologyGraph.{side_at}
use Rattle.port_graph.specs.Ordered.{AreRunsOf, IsLevelFault, IsMismatchFault, node_among, nodes_among}
use Rattle.port_graph.proofs.FromFile.{site_places_differ}
use Rattle.port_graph.proofs.ListPlaces.{place_of, contained, place_map, place_map_from}
use Rattle.port_graph.proofs.RankLemmas.{place_in_order}

-- Edges.

-- the edges that runs in order become are those of the topology
pub are_edges : (t : Topology) (runs : List Run) (edges : List Edge) → AreRunsOf t runs → edges ≡ map (edge_of t) runs → AreEdgesOf t edges
are_edges t runs edges in_order is = record {
  count = ap length is ∙ length-map runs (edge_of t) ∙ in_order.count;
  each = λ e r run. ap (λ es. slice_get es e) is ∙ place_map (edge_of t) runs e r (in_order.each e r run);
}

pub all_forward : (t : Topology) (runs : List Run) → AreRunsOf t runs → All IsForward runs → AllForward t
all_forward t runs in_order forward e r run =
    let at = in_order.each e r run in
    subst IsForward (get_or_from_slice_get runs e r r at) (forward e r (slice_get_within runs e r at))

-- the fault of runs in order is that of the topology
pub level_fault : (t : Topology) (runs : List Run) (fault : GraphFault) → AreRunsOf t runs → HasFewNodes t → HasFewEdges t → IsLevelFault runs fault →
    (fault ≡ Memory) ⊎ IsGraphFault t fault
level_fault t runs (NotForward edge track mileage) in_order nodes edges (r, level, named, at) = inr (
  nodes,
  edges,
  record {
    run = r;
    numbered = in_order.only edge.0 r level.there;
    named = named;
    from = level.level ∙ ap (λ m. m.0) at;
    to = ap (λ m. m.0) at;
    before = λ f q less run. level.before f q less (in_order.each f q run);
  },
)
level_fault t runs Memory in_order nodes edges h = inl refl
level_fault t runs (TooManyNodes n) in_order nodes edges h = absurd h
level_fault t runs (TooManyEdges n) in_order nodes edges h = absurd h
level_fault t runs (SideMismatch n name) in_order nodes edges h = absurd h

-- Nodes.

-- the sites of a topology in the order of the file
pub record AreInOrder (t : Topology) (ss : List Site) : Type 0 where
  pub same : IsPermutation (sites t) ss
  pub rise : IsNonDecreasingBy (λ (s : Site). s.spot.at) ss

-- a site's place in order is its number
pub site_number : (t : Topology) (ss : List Site) → IsResolved t → AreInOrder t ss → (n : ℕ) (s : Site) → slice_get ss n ≡ Some s → node_number t s.spot.at ≡ n
site_number t ss resolved order n s there = place_in_order (λ (r : Site). r.spot.at) (sites t) ss order.same order.rise (site_places_differ t resolved) n s
    there

-- a site's number is its place in order
pub site_place : (t : Topology) (ss : List Site) → IsResolved t → AreInOrder t ss → (s : Site) → Contains (sites t) s →
    slice_get ss (node_number t s.spot.at) ≡ Some s
site_place t ss resolved order s there =
    let found = place_of ss s (Contains-permutation (sites t) ss s order.same there) in
    subst (λ n. slice_get ss n ≡ Some s) (sym (site_number t ss resolved order found.0 s found.1)) found.1

pub site_there : (t : Topology) (ss : List Site) → AreInOrder t ss → (n : ℕ) (s : Site) → slice_get ss n ≡ Some s → Contains (sites t) s
site_there t ss order n s is = Contains-permutation ss (sites t) s (IsPermutation-sym (sites t) ss order.same) (contained ss n s is)

-- the fault of sites in order is that of the topology
pub mismatch_fault : (t : Topology) (edges : List Edge) (ss : List Site) (fault : GraphFault) → IsResolved t → HasFewNodes t → HasFewEdges t → AllForward t →
    AreEdgesOf t edges → AreInOrder t ss → IsMismatchFault edges ss fault → (fault ≡ Memory) ⊎ IsGraphFault t fault
mismatch_fault t edges ss (SideMismatch n name) resolved nodes few forward built order (s, mismatch, named) = inr (
  nodes,
  few,
  forward,
  record {
    edges = edges;
    built = built;
    site = s;
    there = site_there t ss order n.0 s mismatch.there;
    numbered = site_number t ss resolved order n.0 s mismatch.there;
    named = named;
    mismatched = mismatch.mismatched;
    before = λ r there less. mismatch.before (node_number t r.spot.at) r less (site_place t ss resolved order r there);
  },
)
mismatch_fault t edges ss Memory resolved nodes few forward built order h = inl refl
mismatch_fault t edges ss (TooManyNodes n) resolved nodes few forward built order h = absurd h
mismatch_fault t edges ss (TooManyEdges n) resolved nodes few forward built order h = absurd h
mismatch_fault t edges ss (NotForward edge track mileage) resolved nodes few forward built order h = absurd h

-- a numbered element of a list
place_numbered : {A : Type 0} (n : ℕ) (xs : List A) (i : ℕ) (x : A) → slice_get xs i ≡ Some x → slice_get (enumerate_from n xs) i ≡ Some (n + i, x)
place_numbered {A} n [] i x is = absurd (let e : None ≡ Some x = is in cc)
place_numbered n (z ∷ xs) zero x is = let e : z ≡ x = cc in ap (λ y. Some (n, y)) e ∙ ap (λ k. Some (k, x)) (sym (add-zero n))
place_numbered n (z ∷ xs) (suc i) x is = place_numbered (n + 1) xs i x is ∙ ap (λ k. Some (k, x)) (let e : n + 1 + i ≡ n + suc i = omega arith in e)

-- what a numbered site becomes
pub record Becomes (edges : List Edge) (n : ℕ) (s : Site) (m : Node) : Type 0 where
  pub name : m.name ≡ s.id
  pub mileage : m.mileage ≡ s.spot.mile.0
  pub ports : ports_of (side_at edges n) s.meets ≡ Some m.ports

with_ports : (s : Site) (o : Option Ports) (m : Node) → option_map (λ (ports : Ports). (let x : Node = record {
  name = s.id;
  mileage = s.spot.mile.0;
  ports = ports;
} in x)) o ≡ Some m → (m.name ≡ s.id) × (m.mileage ≡ s.spot.mile.0) × (o ≡ Some m.ports)
with_ports s None m is = absurd (let e : None ≡ Some m = is in cc)
with_ports s (Some ports) m is =
    let same : (let x : Node = record { name = s.id; mileage = s.spot.mile.0; ports = ports } in x) ≡ m = cc in
    (sym (ap (λ (x : Node). x.name) same), sym (ap (λ (x : Node). x.mileage) same), ap (λ (x : Node). Some x.ports) same)

becomes : (edges : List Edge) (n : ℕ) (s : Site) (m : Node) → node_among edges (n, s) ≡ Some m → Becomes edges n s m
becomes edges n s m is = let h = with_ports s (ports_of (side_at edges n) s.meets) m is in record { name = h.0; mileage = h.1; ports = h.2 }

-- each site's node
pub node_of_site : (edges : List Edge) (ss : List Site) (nodes : List Node) (n : ℕ) (s : Site) → map Some nodes ≡ nodes_among edges ss →
    slice_get ss n ≡ Some s → (m : Node) × (slice_get nodes n ≡ Some m) × Becomes edges n s m
node_of_site edges ss nodes n s all there =
    let numbered = place_map (node_among edges) (enumerate_from 0 ss) n (n, s) (place_numbered 0 ss n s there ∙ ap (λ k. Some (k, s)) (zero-add n)) in
    let found = place_map_from Some nodes n (node_among edges (n, s)) (ap (λ l. slice_get l n) all ∙ numbered) in
    (found.0, found.1, becomes edges n s found.0 (sym found.2))

pub nodes_count : (edges : List Edge) (ss : List Site) (nodes : List Node) → map Some nodes ≡ nodes_among edges ss → length nodes ≡ length ss
nodes_count edges ss nodes all =
    sym (length-map nodes Some) ∙ ap length all ∙ length-map (enumerate_from 0 ss) (node_among edges) ∙ length-enumerate_from 0 ss

node_at : (g : Graph) (n : ℕ) (m : Node) → slice_get g.nodes n ≡ Some m → node g n ≡ m
node_at g n m is = get_or_from_slice_get g.nodes n m no_node is

is_node : (t : Topology) (g : Graph) (ss : List Site) → IsResolved t → AreInOrder t ss → map Some g.nodes ≡ nodes_among g.edges ss → (s : Site) →
    Contains (sites t) s → IsNodeOf t g s
is_node t g ss resolved order all s there =
    let found = node_of_site g.edges ss g.nodes (node_number t s.spot.at) s all (site_place t ss resolved order s there) in
    let m = found.0 in
    let same = node_at g (node_number t s.spot.at) m found.1 in
    record {
      name = ap (λ (x : Node). x.name) same ∙ found.2.name;
      mileage = ap (λ (x : Node). x.mileage) same ∙ found.2.mileage;
      ports = found.2.ports ∙ ap (λ (x : Node). Some x.ports) (sym same);
    }

-- the graph of the rows is that of the topology
pub is_graph : (t : Topology) (g : Graph) (ss : List Site) → IsResolved t → AreEdgesOf t g.edges → AreInOrder t ss → map Some g.nodes ≡ nodes_among g.edges ss →
    IsGraphOf t g
is_graph t g ss resolved built order all = record {
  edges = built;
  count = nodes_count g.edges ss g.nodes all ∙ length_permutation (sites t) ss order.same;
  each = is_node t g ss resolved order all;
}

-- What `build` has in hand.

pub edges_made : (t : Topology) (found : List Site) (runs read : List Run) (edges : List Edge) → found ≡ sites t → read ≡ runs →
    edges ≡ map (edge_among found) read → edges ≡ map (edge_of t) runs
edges_made t found runs read edges all same is =
    is ∙ ap (λ ss. map (edge_among ss) read) all ∙ ap (map (edge_of t)) same

pub sites_in_order : (t : Topology) (found ss : List Site) → found ≡ sites t → IsPermutation found ss → IsNonDecreasingBy (λ (s : Site). s.spot.at) ss →
    AreInOrder t ss
sites_in_order t found ss all moved rise = record { same = subst (λ (l : List Site). IsPermutation l ss) all moved; rise = rise }
