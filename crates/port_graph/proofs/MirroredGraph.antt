-- The graph of a topology with every hand exchanged has upper and lower exchanged, and its fault is the same.
use Rattle.std.proofs.Common.{◌≡◌, ◌≢◌, ℕ, ◌<◌, ◌≤◌, ◌^◌, ℤ, List, [], ◌∷◌, ◌++◌, length, map, Some, refl, sym, ap, ◌∙◌, subst, inl, inr, arith}
use Rattle.std.specs.Prelude.{◌<ℤ◌, All, AllPairs, Contains, IsSome, slice_get}
use Rattle.std.specs.Option.{option_map}
use Rattle.std.specs.List.Sorted.{IsPermutation}
use Rattle.std.proofs.Math.ListN.{get_or-map}
use Rattle.std.proofs.lemmas.List.{length-map}
use Rattle.std.proofs.lemmas.List.Elements.{All-map}
use Rattle.std.proofs.lemmas.List.Sorted.{IsPermutation-refl, All-permutation, Contains-permutation}
use Rattle.plan_core.specs.declared.limits.TheConstants.{MAX_NODES, MAX_EDGES}
use Rattle.plan_core.specs.declared.sides.Compass.{Compass}
use Rattle.plan_core.specs.declared.sides.Compass.TheVariants.{East, West}
use Rattle.plan_core.specs.declared.sides.Hand.{Hand}
use Rattle.plan_core.specs.declared.sides.Hand.TheVariants.{Left, Right}
use Rattle.plan_core.specs.declared.topology.Topology.{Topology}
use Rattle.plan_core.specs.declared.topology.Track.{Track}
use Rattle.plan_core.specs.declared.topology.Inner.{Inner}
use Rattle.plan_core.specs.Graph.{Graph, Node, Edge, Ports, End, Joint, Switch, Crossing, node, edge, no_node, mileage, edges_of, AreAt, IsPortOf, ArePortsOf}
use Rattle.plan_core.specs.Graph.{IsTrackGraph}
use Rattle.plan_core.specs.Topology.{Element, elements, track_element, end_elements, inner_element, inner_elements, track_elements, conn_element, track_miles}
use Rattle.plan_core.specs.Topology.{IsMileage, IsId, IsResolved}
use Rattle.plan_core.specs.declared.topology.Conn.{Conn}
use Rattle.plan_core.proofs.Listing.{Contains-map}
use Rattle.port_graph.specs.declared.fault.GraphFault.{GraphFault}
use Rattle.port_graph.specs.declared.fault.GraphFault.TheVariants.{TooManyNodes, TooManyEdges, NotForward, SideMismatch, Memory}
use Rattle.port_graph.specs.declared.runs.Run.{Run}
use Rattle.port_graph.specs.declared.runs.Join.{Join}
use Rattle.port_graph.specs.declared.sites.Site.{Site}
use Rattle.port_graph.specs.declared.sites.Meeting.{Meeting}
use Rattle.port_graph.specs.declared.sites.Meeting.TheVariants as meeting
use Rattle.port_graph.specs.PortRule.{ports_of, joint_ports, switch_ports, crossing_ports}
use Rattle.port_graph.specs.Sites.{sites, node_number}
use Rattle.port_graph.specs.StationGraph.{IsStationGraph}
use Rattle.port_graph.specs.TopologyGraph.{west_of, east_of, edge_of, IsRun, AreEdgesOf, side_at, IsNodeOf, IsGraphOf, IsStationGraphOf, AllForward}
use Rattle.port_graph.specs.TopologyGraph.{IsFirstLevel, IsFirstMismatch, IsGraphFault}
use Rattle.port_graph.specs.Mirrored.{other_hand, mirrored_inner, mirrored_track, mirrored_topology, mirrored_ports, mirrored_node, mirrored_graph}
use Rattle.port_graph.proofs.PortLemmas.{apart_moved}
use Rattle.port_graph.proofs.TurnedGraph.{contains_back}
use Rattle.port_graph.proofs.TurnedLists.{flat_alike, map_alike}
use Rattle.port_graph.proofs.TurnedFaults.{some_map}
use Rattle.port_graph.proofs.TurnedStation.{pairs_map}
use Rattle.port_graph.proofs.MirroredTopology.{mirrored_meeting, mirrored_site, connections-mirrored, connection-mirrored, pieces-mirrored, joins-mirrored}
use Rattle.port_graph.proofs.MirroredTopology.{join_number-mirrored, edge_count-mirrored, sites-mirrored, node_number-mirrored}

-- ---- the topology

elements-mirrored : (t : Topology) → elements (mirrored_topology t) ≡ elements t
elements-mirrored t =
    flat_alike mirrored_track track_elements track_elements
    (λ track. ap (λ (l : List Element). track_element track ∷ (end_elements track.begin ++ (l ++ end_elements track.end)))
    (flat_alike mirrored_inner inner_elements inner_elements (λ x. ap (λ (cs : List Conn). inner_element x ∷ map conn_element cs) (connections-mirrored x.what))
    track.inner))
    t.tracks

miles-mirrored : (track : Track) → track_miles (mirrored_track track) ≡ track_miles track
miles-mirrored track =
    ap (λ (l : List ℤ). track.begin.mile.0 ∷ (l ++ track.end.mile.0 ∷ [])) (map_alike mirrored_inner (λ (x : Inner). x.mile.0) (λ (x : Inner). x.mile.0)
    (λ x. refl) track.inner)

pub IsResolved-mirrored : (t : Topology) → IsResolved t → IsResolved (mirrored_topology t)
IsResolved-mirrored t resolved = record {
  few = subst (λ (l : List Element). length l < 2 ^ 32) (sym (elements-mirrored t)) resolved.few;
  ids = subst (λ (l : List Element). All (λ (e : Element). IsId e.id) l) (sym (elements-mirrored t)) resolved.ids;
  ids_differ = subst (λ (l : List Element). AllPairs (λ (d e : Element). d.id ≢ e.id) l) (sym (elements-mirrored t)) resolved.ids_differ;
  places_differ = subst (λ (l : List Element). AllPairs (λ (d e : Element). d.at ≢ e.at) l) (sym (elements-mirrored t)) resolved.places_differ;
  joins = record {
    back = λ p c is.
        let b = resolved.joins.back p c (sym (connection-mirrored t p) ∙ is) in
        (b.0, connection-mirrored t c.to ∙ b.1, b.2);
    elsewhere = λ p c is. resolved.joins.elsewhere p c (sym (connection-mirrored t p) ∙ is);
  };
  miles = subst (λ (l : List ℤ). All IsMileage l) (sym (flat_alike mirrored_track track_miles track_miles miles-mirrored t.tracks)) resolved.miles;
}

-- ---- exchanged twice, a thing is as it was

pub hand_twice : (hand : Hand) → other_hand (other_hand hand) ≡ hand
hand_twice Left = refl
hand_twice Right = refl

meeting_twice : (meets : Meeting) → mirrored_meeting (mirrored_meeting meets) ≡ meets
meeting_twice (meeting.End e) = refl
meeting_twice (meeting.Joint first other) = refl
meeting_twice (meeting.Switch outgoing hand track_diverges before after branch) = ap
    (λ (h : Hand). meeting.Switch outgoing h track_diverges before after branch) (hand_twice hand)
meeting_twice (meeting.Crossing hand before after incoming outgoing) = ap (λ (h : Hand). meeting.Crossing h before after incoming outgoing) (hand_twice hand)

site_twice : (s : Site) → mirrored_site (mirrored_site s) ≡ s
site_twice s = let F : Meeting → Site = λ m. record s { meets = m } in ap F (meeting_twice s.meets)

back_site : (t : Topology) (s : Site) → Contains (sites (mirrored_topology t)) s → Contains (sites t) (mirrored_site s)
back_site t s there = contains_back mirrored_site site_twice (sites t) s (subst (λ (l : List Site). Contains l s) (sites-mirrored t) there)

-- ---- ports

joint-mirrored : (first other : ℕ) (a b : Compass) → joint_ports first other a b ≡ option_map mirrored_ports (joint_ports first other a b)
joint-mirrored first other West East = refl
joint-mirrored first other East West = refl
joint-mirrored first other West West = refl
joint-mirrored first other East East = refl

switch-mirrored : (hand : Hand) (t s d : ℕ) (a b c : Compass) → switch_ports (other_hand hand) t s d a b c ≡ option_map mirrored_ports
    (switch_ports hand t s d a b c)
switch-mirrored Left t s d West East East = refl
switch-mirrored Right t s d West East East = refl
switch-mirrored Left t s d East West West = refl
switch-mirrored Right t s d East West West = refl
switch-mirrored hand t s d West West West = refl
switch-mirrored hand t s d West West East = refl
switch-mirrored hand t s d West East West = refl
switch-mirrored hand t s d East East East = refl
switch-mirrored hand t s d East East West = refl
switch-mirrored hand t s d East West East = refl

crossing-mirrored : (hand : Hand) (b a i o : ℕ) (p q r s : Compass) →
    crossing_ports (other_hand hand) b a i o p q r s ≡ option_map mirrored_ports (crossing_ports hand b a i o p q r s)
crossing-mirrored Left b a i o West East West East = refl
crossing-mirrored Right b a i o West East West East = refl
crossing-mirrored Left b a i o East West East West = refl
crossing-mirrored Right b a i o East West East West = refl
crossing-mirrored hand b a i o West West r s = refl
crossing-mirrored hand b a i o East East r s = refl
crossing-mirrored hand b a i o West East West West = refl
crossing-mirrored hand b a i o West East East s = refl
crossing-mirrored hand b a i o East West East East = refl
crossing-mirrored hand b a i o East West West s = refl

pub ports_of-mirrored : (side : ℕ → Compass) (meets : Meeting) → ports_of side (mirrored_meeting meets) ≡ option_map mirrored_ports (ports_of side meets)
ports_of-mirrored side (meeting.End e) = refl
ports_of-mirrored side (meeting.Joint first other) = joint-mirrored first.0 other.0 (side first.0) (side other.0)
ports_of-mirrored side (meeting.Switch outgoing hand track_diverges before after branch) = switch-mirrored hand _ _ _ _ _ _
ports_of-mirrored side (meeting.Crossing hand before after incoming outgoing) = crossing-mirrored hand before.0 after.0 incoming.0 outgoing.0 (side before.0)
    (side after.0) (side incoming.0) (side outgoing.0)

-- ---- edges and nodes

IsRun-back : (t : Topology) (e : ℕ) (r : Run) → IsRun (mirrored_topology t) e r → IsRun t e r
IsRun-back t e r (inl piece) = inl (ap (λ (l : List Run). slice_get l e) (sym (pieces-mirrored t)) ∙ piece)
IsRun-back t e r (inr join) = inr (
  join.0,
  subst (λ (l : List Join). Contains l join.0) (joins-mirrored t) join.1,
  sym (join_number-mirrored t join.0.at)
      ∙ join.2,
  join.3,
)

IsRun-forth : (t : Topology) (e : ℕ) (r : Run) → IsRun t e r → IsRun (mirrored_topology t) e r
IsRun-forth t e r (inl piece) = inl (ap (λ (l : List Run). slice_get l e) (pieces-mirrored t) ∙ piece)
IsRun-forth t e r (inr join) = inr (
  join.0,
  subst (λ (l : List Join). Contains l join.0) (sym (joins-mirrored t)) join.1,
  join_number-mirrored t join.0.at
      ∙ join.2,
  join.3,
)

edge_of-mirrored : (t : Topology) (r : Run) → edge_of (mirrored_topology t) r ≡ edge_of t r
edge_of-mirrored t r =
    ap (λ (n : ℕ). between n (node_number (mirrored_topology t) (east_of r).at)) (node_number-mirrored t (west_of r).at)
    ∙ ap (λ (n : ℕ). between (node_number t (west_of r).at) n) (node_number-mirrored t (east_of r).at)
  where
    between : ℕ → ℕ → Edge
    between west east = record { track = r.track; west = west; east = east }

AreEdgesOf-mirrored : (t : Topology) (edges : List Edge) → AreEdgesOf t edges → AreEdgesOf (mirrored_topology t) edges
AreEdgesOf-mirrored t edges are = record {
  count = are.count ∙ sym (edge_count-mirrored t);
  each = λ e r run. are.each e r (IsRun-back t e r run) ∙ ap (λ (x : Edge). Some x) (sym (edge_of-mirrored t r));
}

node-mirrored : (g : Graph) (n : ℕ) → node (mirrored_graph g) n ≡ mirrored_node (node g n)
node-mirrored g n = get_or-map mirrored_node g.nodes n no_node

IsNodeOf-mirrored : (t : Topology) (g : Graph) (s : Site) → IsNodeOf t g s → IsNodeOf (mirrored_topology t) (mirrored_graph g) (mirrored_site s)
IsNodeOf-mirrored t g s is =
    let n : ℕ = node_number t s.spot.at in
    let number : n ≡ node_number (mirrored_topology t) s.spot.at = sym (node_number-mirrored t s.spot.at) in
    let at_n = node-mirrored g n in
    record {
      name = subst (λ (k : ℕ). (node (mirrored_graph g) k).name ≡ s.id) number (ap (λ (x : Node). x.name) at_n ∙ is.name);
      mileage = subst (λ (k : ℕ). (node (mirrored_graph g) k).mileage ≡ s.spot.mile.0) number (ap (λ (x : Node). x.mileage) at_n ∙ is.mileage);
      ports =
          subst (λ (k : ℕ). ports_of (side_at g.edges k) (mirrored_meeting s.meets) ≡ Some (node (mirrored_graph g) k).ports) number
          (ports_of-mirrored (side_at g.edges n) s.meets ∙ ap (option_map mirrored_ports) is.ports ∙ sym (ap (λ (x : Node). Some x.ports) at_n));
    }

length-sites : (t : Topology) → length (sites (mirrored_topology t)) ≡ length (sites t)
length-sites t = ap (λ (l : List Site). length l) (sites-mirrored t) ∙ length-map (sites t) mirrored_site

IsGraphOf-mirrored : (t : Topology) (g : Graph) → IsGraphOf t g → IsGraphOf (mirrored_topology t) (mirrored_graph g)
IsGraphOf-mirrored t g is = record {
  edges = AreEdgesOf-mirrored t g.edges is.edges;
  count = length-map g.nodes mirrored_node ∙ is.count ∙ sym (length-sites t);
  each = λ s there.
      subst (λ (x : Site). IsNodeOf (mirrored_topology t) (mirrored_graph g) x) (site_twice s)
      (IsNodeOf-mirrored t g (mirrored_site s) (is.each (mirrored_site s) (back_site t s there)));
}

-- ---- what every track graph is

ports_moved : (p : Ports) → IsPermutation (edges_of p) (edges_of (mirrored_ports p))
ports_moved (End e side) = IsPermutation-refl (e ∷ [])
ports_moved (Joint west east) = IsPermutation-refl (west ∷ east ∷ [])
ports_moved (Switch legs branch trunk straight diverging) = IsPermutation-refl (trunk ∷ straight ∷ diverging ∷ [])
ports_moved (Crossing west_upper west_lower east_upper east_lower) = record {
  moves = (0, 1) ∷ (2, 3) ∷ [];
  below = (omega arith, omega arith, (omega arith, omega arith, tt));
  is = refl;
}

at-mirrored : (g : Graph) (n : ℕ) (p : Ports) → AreAt g n p → AreAt (mirrored_graph g) n (mirrored_ports p)
at-mirrored g n (End e East) is = is
at-mirrored g n (End e West) is = is
at-mirrored g n (Joint west east) is = is
at-mirrored g n (Switch East branch trunk straight diverging) is = is
at-mirrored g n (Switch West branch trunk straight diverging) is = is
at-mirrored g n (Crossing west_upper west_lower east_upper east_lower) is = (is.1, is.0, is.3, is.2)

ports-mirrored : (g : Graph) (n : ℕ) (p : Ports) → ArePortsOf g n p → ArePortsOf (mirrored_graph g) n (mirrored_ports p)
ports-mirrored g n p is = record {
  there = All-permutation (λ (e : ℕ). e < length g.edges) (edges_of p) (edges_of (mirrored_ports p)) (ports_moved p) is.there;
  apart = apart_moved (edges_of p) (edges_of (mirrored_ports p)) (ports_moved p) is.apart;
  placed = at-mirrored g n p is.placed;
}

port-mirrored : (g : Graph) (n e : ℕ) → IsPortOf g n e → IsPortOf (mirrored_graph g) n e
port-mirrored g n e is =
    subst (λ (x : Node). Contains (edges_of x.ports) e) (sym (node-mirrored g n))
    (Contains-permutation (edges_of (node g n).ports) (edges_of (mirrored_ports (node g n).ports)) e (ports_moved (node g n).ports) is)

mileage-mirrored : (g : Graph) (n : ℕ) → mileage g n ≡ mileage (mirrored_graph g) n
mileage-mirrored g n = sym (ap (λ (x : Node). x.mileage) (node-mirrored g n))

IsTrackGraph-mirrored : (g : Graph) → IsTrackGraph g → IsTrackGraph (mirrored_graph g)
IsTrackGraph-mirrored g is =
    let count : length g.nodes ≡ length (mirrored_graph g).nodes = sym (length-map g.nodes mirrored_node) in
    record {
      nodes = λ e within. let ends = is.nodes e within in (
        subst (λ (n : ℕ). (edge g e).west < n) count ends.0,
        subst (λ (n : ℕ). (edge g e).east < n) count
            ends.1,
      );
      forward = λ e within.
          subst (λ (z : ℤ). z <ℤ mileage (mirrored_graph g) (edge g e).east) (mileage-mirrored g (edge g e).west)
          (subst (λ (z : ℤ). mileage g (edge g e).west <ℤ z) (mileage-mirrored g (edge g e).east) (is.forward e within));
      met = λ e within. let ports = is.met e within in (port-mirrored g (edge g e).west e ports.0, port-mirrored g (edge g e).east e ports.1);
      ports = λ n within.
          subst (λ (x : Node). ArePortsOf (mirrored_graph g) n x.ports) (sym (node-mirrored g n))
          (ports-mirrored g n (node g n).ports (is.ports n (subst (λ (k : ℕ). n < k) (sym count) within)));
    }

IsStationGraph-mirrored : (g : Graph) → IsStationGraph g → IsStationGraph (mirrored_graph g)
IsStationGraph-mirrored g is = record {
  track_graph = IsTrackGraph-mirrored g is.track_graph;
  few_nodes = subst (λ (n : ℕ). n ≤ MAX_NODES) (sym (length-map g.nodes mirrored_node)) is.few_nodes;
  few_edges = is.few_edges;
  names = All-map (λ (n : Node). IsId n.name) mirrored_node g.nodes is.names;
  names_differ = pairs_map (λ (m n : Node). m.name ≢ n.name) mirrored_node g.nodes is.names_differ;
  track_names = is.track_names;
  mileages = All-map (λ (n : Node). IsMileage n.mileage) mirrored_node g.nodes is.mileages;
}

pub graph-mirrored : (t : Topology) (g : Graph) → IsStationGraphOf t g → IsStationGraphOf (mirrored_topology t) (mirrored_graph g)
graph-mirrored t g is = record { graph = IsGraphOf-mirrored t g is.graph; station = IsStationGraph-mirrored g is.station }

-- ---- faults

AllForward-mirrored : (t : Topology) → AllForward t → AllForward (mirrored_topology t)
AllForward-mirrored t forward e r run = forward e r (IsRun-back t e r run)

IsFirstLevel-mirrored : (t : Topology) (e : ℕ) (track : List ℕ) (mileage : ℤ) → IsFirstLevel t e track mileage →
    IsFirstLevel (mirrored_topology t) e track mileage
IsFirstLevel-mirrored t e track mileage is = record {
  run = is.run;
  numbered = IsRun-forth t e is.run is.numbered;
  named = is.named;
  from = is.from;
  to = is.to;
  before = λ f r less run. is.before f r less (IsRun-back t f r run);
}

IsFirstMismatch-mirrored : (t : Topology) (n : ℕ) (name : List ℕ) → IsFirstMismatch t n name → IsFirstMismatch (mirrored_topology t) n name
IsFirstMismatch-mirrored t n name is = record {
  edges = is.edges;
  built = AreEdgesOf-mirrored t is.edges is.built;
  site = mirrored_site is.site;
  there = subst (λ (l : List Site). Contains l (mirrored_site is.site)) (sym (sites-mirrored t)) (Contains-map mirrored_site (sites t) is.site is.there);
  numbered = node_number-mirrored t is.site.spot.at ∙ is.numbered;
  named = is.named;
  mismatched = ports_of-mirrored (side_at is.edges n) is.site.meets ∙ ap (option_map mirrored_ports) is.mismatched;
  before = λ s there less.
      let matches = is.before (mirrored_site s) (back_site t s there) (subst (λ (k : ℕ). k < n) (node_number-mirrored t s.spot.at) less) in
      subst (λ (k : ℕ). IsSome (ports_of (side_at is.edges k) s.meets)) (sym (node_number-mirrored t s.spot.at))
      (subst (λ (m : Meeting). IsSome (ports_of (side_at is.edges (node_number t s.spot.at)) m)) (meeting_twice s.meets)
      (subst IsSome (sym (ports_of-mirrored (side_at is.edges (node_number t s.spot.at)) (mirrored_meeting s.meets)))
      (some_map mirrored_ports (ports_of (side_at is.edges (node_number t s.spot.at)) (mirrored_meeting s.meets)) matches)));
}

pub fault-mirrored : (t : Topology) (fault : GraphFault) → IsGraphFault t fault → IsGraphFault (mirrored_topology t) fault
fault-mirrored t (TooManyNodes n) is = (is.0 ∙ sym (length-sites t), is.1)
fault-mirrored t (TooManyEdges n) is = (subst (λ (k : ℕ). k ≤ MAX_NODES) (sym (length-sites t)) is.0, is.1 ∙ sym (edge_count-mirrored t), is.2)
fault-mirrored t (NotForward e track mileage) is = (
  subst (λ (k : ℕ). k ≤ MAX_NODES) (sym (length-sites t)) is.0,
  subst (λ (k : ℕ). k ≤ MAX_EDGES) (sym (edge_count-mirrored t)) is.1,
  IsFirstLevel-mirrored t
      e.0 track mileage.0 is.2,
)
fault-mirrored t (SideMismatch n name) is = (
  subst (λ (k : ℕ). k ≤ MAX_NODES) (sym (length-sites t)) is.0,
  subst (λ (k : ℕ). k ≤ MAX_EDGES) (sym (edge_count-mirrored t)) is.1,
  AllForward-mirrored t
      is.2,
  IsFirstMismatch-mirrored t n.0 name is.3,
)
fault-mirrored t Memory is = is
