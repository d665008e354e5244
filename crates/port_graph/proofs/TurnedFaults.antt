-- A topology seen from its other end has the same fault.
use Rattle.std.proofs.Common.{◌≡◌, ℕ, ◌<◌, ◌≤◌, ℤ, List, length, map, Option, Some, None, refl, sym, ap, ◌∙◌, subst, inl, inr}
use Rattle.std.specs.Prelude.{neg_ℤ, slice_get, Contains, IsSome}
use Rattle.std.specs.Option.{option_map}
use Rattle.std.proofs.lemmas.List.{length-map}
use Rattle.std.proofs.lemmas.Option.{slice_get-map}
use Rattle.plan_core.specs.declared.limits.TheConstants.{MAX_NODES, MAX_EDGES}
use Rattle.plan_core.specs.declared.topology.Topology.{Topology}
use Rattle.plan_core.specs.Topology.{IsResolved}
use Rattle.plan_core.proofs.Listing.{Contains-map}
use Rattle.port_graph.specs.declared.fault.GraphFault.{GraphFault}
use Rattle.port_graph.specs.declared.fault.GraphFault.TheVariants.{TooManyNodes, TooManyEdges, NotForward, SideMismatch, Memory}
use Rattle.port_graph.specs.declared.runs.Run.{Run}
use Rattle.port_graph.specs.declared.runs.Join.{Join}
use Rattle.port_graph.specs.declared.sites.Site.{Site}
use Rattle.port_graph.specs.PortRule.{ports_of}
use Rattle.port_graph.specs.Runs.{pieces_of_tracks, joins}
use Rattle.port_graph.specs.Sites.{sites, node_number}
use Rattle.port_graph.specs.TopologyGraph.{IsRun, side_at, IsForward, AllForward, IsFirstLevel, IsFirstMismatch, IsGraphFault}
use Rattle.port_graph.specs.Turned.{turned_topology, turned_ports, turned_edge, turned_fault}
use Rattle.port_graph.proofs.Membership.{in_contains}
use Rattle.port_graph.proofs.TurnedGraph.{site_twice, contains_back, IsRun-turned, AreEdgesOf-turned}
use Rattle.port_graph.proofs.TurnedNodes.{site_ports-turned}
use Rattle.port_graph.proofs.TurnedTopology.{turned_run, turned_join, turned_site, pieces-turned, joins-turned, join_number-turned, edge_count-turned}
use Rattle.port_graph.proofs.TurnedTopology.{sites-turned, node_number-turned}

length-sites : (t : Topology) → length (sites (turned_topology t)) ≡ length (sites t)
length-sites t = ap (λ (l : List Site). length l) (sites-turned t) ∙ length-map (sites t) turned_site

-- each run of the topology is, turned, a run of the turned one, of the same number
IsRun-forth : (t : Topology) (e : ℕ) (r : Run) → IsRun t e r → IsRun (turned_topology t) e (turned_run r)
IsRun-forth t e r (inl piece) =
    inl (ap (λ (l : List Run). slice_get l e) (pieces-turned t) ∙ slice_get-map turned_run (pieces_of_tracks t) e ∙ ap (option_map turned_run) piece)
IsRun-forth t e r (inr join) =
    inr (
      turned_join join.0,
      subst (λ (l : List Join). Contains l (turned_join join.0)) (sym (joins-turned t))
          (Contains-map turned_join (joins t) join.0 join.1),
      join_number-turned t join.0.at ∙ join.2,
      ap turned_run join.3,
    )

forward-turned : (r : Run) → IsForward (turned_run r) → IsForward r
forward-turned r forward same = forward (ap neg_ℤ same)

pub AllForward-turned : (t : Topology) → AllForward t → AllForward (turned_topology t)
AllForward-turned t forward e r run = forward-turned r (forward e (turned_run r) (IsRun-turned t e r run))

IsFirstLevel-turned : (t : Topology) (e : ℕ) (track : List ℕ) (mileage : ℤ) → IsFirstLevel t e track mileage →
    IsFirstLevel (turned_topology t) e track (neg_ℤ mileage)
IsFirstLevel-turned t e track mileage is = record {
  run = turned_run is.run;
  numbered = IsRun-forth t e is.run is.numbered;
  named = is.named;
  from = ap neg_ℤ is.from;
  to = ap neg_ℤ is.to;
  before = λ f r less run. forward-turned r (is.before f (turned_run r) less (IsRun-turned t f r run));
}

pub some_map : {X Y : Type 0} (f : X → Y) (o : Option X) → IsSome o → IsSome (option_map f o)
some_map f None is = is
some_map f (Some x) is = refl

IsFirstMismatch-turned : (t : Topology) (n : ℕ) (name : List ℕ) → IsResolved t → AllForward t → IsFirstMismatch t n name →
    IsFirstMismatch (turned_topology t) n name
IsFirstMismatch-turned t n name resolved forward is =
    let number : n ≡ node_number t is.site.spot.at = sym is.numbered in
    record {
      edges = map turned_edge is.edges;
      built = AreEdgesOf-turned t is.edges forward is.built;
      site = turned_site is.site;
      there = subst (λ (l : List Site). Contains l (turned_site is.site)) (sym (sites-turned t)) (Contains-map turned_site (sites t) is.site is.there);
      numbered = node_number-turned t is.site.spot.at ∙ is.numbered;
      named = is.named;
      mismatched =
          subst (λ (k : ℕ). ports_of (side_at (map turned_edge is.edges) k) is.site.meets ≡ None) is.numbered
          (site_ports-turned t resolved forward is.edges is.site is.built (in_contains (sites t) is.site is.there)
          ∙ ap (option_map turned_ports) (subst (λ (k : ℕ). ports_of (side_at is.edges k) is.site.meets ≡ None) number is.mismatched));
      before = λ s there less.
          let there' = contains_back turned_site site_twice (sites t) s (subst (λ (l : List Site). Contains l s) (sites-turned t) there) in
          let matches = is.before (turned_site s) there' (subst (λ (k : ℕ). k < n) (node_number-turned t s.spot.at) less) in
          subst (λ (k : ℕ). IsSome (ports_of (side_at (map turned_edge is.edges) k) s.meets)) (sym (node_number-turned t s.spot.at))
          (subst IsSome (sym (site_ports-turned t resolved forward is.edges (turned_site s) is.built (in_contains (sites t) (turned_site s) there')))
          (some_map turned_ports (ports_of (side_at is.edges (node_number t s.spot.at)) s.meets) matches));
    }

pub IsGraphFault-turned : (t : Topology) (fault : GraphFault) → IsResolved t → IsGraphFault t fault → IsGraphFault (turned_topology t) (turned_fault fault)
IsGraphFault-turned t (TooManyNodes n) resolved is = (is.0 ∙ sym (length-sites t), is.1)
IsGraphFault-turned t (TooManyEdges n) resolved is =
    (subst (λ (k : ℕ). k ≤ MAX_NODES) (sym (length-sites t)) is.0, is.1 ∙ sym (edge_count-turned t), is.2)
IsGraphFault-turned t (NotForward e track mileage) resolved is = (
  subst (λ (k : ℕ). k ≤ MAX_NODES) (sym (length-sites t)) is.0,
  subst (λ (k : ℕ). k ≤ MAX_EDGES) (sym (edge_count-turned t)) is.1,
  IsFirstLevel-turned t e.0
      track mileage.0 is.2,
)
IsGraphFault-turned t (SideMismatch n name) resolved is = (
  subst (λ (k : ℕ). k ≤ MAX_NODES) (sym (length-sites t)) is.0,
  subst (λ (k : ℕ). k ≤ MAX_EDGES) (sym (edge_count-turned t)) is.1,
  AllForward-turned t is.2,
  IsFirstMismatch-turned t n.0 name resolved is.2 is.3,
)
IsGraphFault-turned t Memory resolved is = is
