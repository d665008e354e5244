-- The graph of a topology is a track graph, where each edge goes forward.
use Rattle.std.proofs.Common.{◌≡◌, ℕ, ◌-◌, ◌<◌, ℤ, Bool, true, false, cond, List, length, get_or, refl, sym, ap, ◌∙◌, subst, inl, inr, arith}
use Rattle.std.specs.Prelude.{◌⊎◌, ◌<ℤ◌, int_lt, sum_by, All, Contains}
use Rattle.std.specs.Cmp.{int_ranks}
use Rattle.std.specs.Ordering.{int_cmp, MatchOrdering}
use Rattle.std.specs.declared.cmp.Ordering.TheVariants.{Less, Equal, Greater}
use Rattle.std.proofs.lemmas.Bool.{cases_lt}
use Rattle.std.proofs.lemmas.List.Elements.{Contains-get_or}
use Rattle.std.proofs.lemmas.Option.{slice_get_within, get_or_from_slice_get}
use Rattle.plan_core.specs.declared.topology.Topology.{Topology}
use Rattle.plan_core.specs.Graph.{Graph, Edge, node, edge, no_edge, mileage, IsEndOf, IsPortOf, ArePortsOf, IsTrackGraph}
use Rattle.plan_core.specs.Topology.{IsResolved}
use Rattle.plan_core.proofs.ListFacts.{get_within}
use Rattle.port_graph.specs.declared.runs.Spot.{Spot}
use Rattle.port_graph.specs.declared.runs.Run.{Run}
use Rattle.port_graph.specs.declared.runs.Join.{Join}
use Rattle.port_graph.specs.declared.sites.Site.{Site}
use Rattle.port_graph.specs.Runs.{pieces_of_tracks, piece_count, joins, join_number, edge_count}
use Rattle.port_graph.specs.Sides.{edges_met}
use Rattle.port_graph.specs.Sites.{sites, node_number}
use Rattle.port_graph.specs.TopologyGraph.{west_of, east_of, edge_of, IsRun, AreEdgesOf, side_at, IsNodeOf, IsGraphOf, IsForward, AllForward}
use Rattle.port_graph.proofs.ApartLemmas.{met_apart}
use Rattle.port_graph.proofs.FromFile.{site_places_differ, join_places_differ}
use Rattle.port_graph.proofs.MeetingLemmas.{SiteWith, same_site_with}
use Rattle.port_graph.proofs.Membership.{In, contains_in, in_contains}
use Rattle.port_graph.proofs.PortLemmas.{are_ports, is_port}
use Rattle.port_graph.proofs.RankLemmas.{rank_below, ranked}
use Rattle.port_graph.proofs.RunEnds.{run_site_from, run_site_to, RunAt, met_run}
use Rattle.port_graph.proofs.RunLemmas.{length-pieces}
use Rattle.port_graph.proofs.MileLemmas.{less_true, less_false}

-- ---- numbers

-- each number below the count is that of a run
pub numbered_run : (t : Topology) → IsResolved t → (e : ℕ) → e < edge_count t → (r : Run) × IsRun t e r
numbered_run t resolved e within =
    let total = length-pieces t in
    elim (cases_lt e (sum_by piece_count t.tracks)) [
      | inl less ↦ let r = get_within (pieces_of_tracks t) e (omega (arith, total)) in (r.0, inl r.1)
      | inr more ↦
          let j = ranked (λ (j : Join). j.at) (joins t) (join_places_differ t resolved) (e - sum_by piece_count t.tracks) (omega arith) in
          let is = j.2 in
          let number : join_number t j.0.at ≡ e = omega (arith, is) in
          (j.0.run, inr (j.0, contains_in (joins t) j.0 j.1, number, refl))
    ]

-- each number below the count is that of a node
pub numbered_site : (t : Topology) → IsResolved t → (n : ℕ) → n < length (sites t) → (s : Site) × In s (sites t) × (node_number t s.spot.at ≡ n)
numbered_site t resolved n within = ranked (λ (s : Site). s.spot.at) (sites t) (site_places_differ t resolved) n within

pub number_within : (t : Topology) (s : Site) → In s (sites t) → node_number t s.spot.at < length (sites t)
number_within t s there = rank_below (λ (s : Site). s.spot.at) (sites t) s there

-- ---- edges

pub edge_within : (t : Topology) (edges : List Edge) (e : ℕ) (r : Run) → AreEdgesOf t edges → IsRun t e r → e < length edges
edge_within t edges e r are run = slice_get_within edges e (edge_of t r) (are.each e r run)

pub edge_is : (t : Topology) (edges : List Edge) (e : ℕ) (r : Run) → AreEdgesOf t edges → IsRun t e r → get_or edges e no_edge ≡ edge_of t r
edge_is t edges e r are run = get_or_from_slice_get edges e (edge_of t r) no_edge (are.each e r run)

pub west_cases : (r : Run) → ((west_of r ≡ r.from) × (east_of r ≡ r.to)) ⊎ ((west_of r ≡ r.to) × (east_of r ≡ r.from))
west_cases r =
    elim (int_lt r.from.mile.0 r.to.mile.0) as (λ b. ((cond b r.from r.to ≡ r.from) × (cond b r.to r.from ≡ r.to)) ⊎
    ((cond b r.from r.to ≡ r.to) × (cond b r.to r.from ≡ r.from))) [
      | true ↦ inl (refl, refl)
      | false ↦ inr (refl, refl)
    ]

pub west_with : (t : Topology) → IsResolved t → (e : ℕ) (r : Run) → IsRun t e r → SiteWith t (west_of r) e
west_with t resolved e r run =
    elim (west_cases r) [
      | inl c ↦ same_site_with t r.from (west_of r) e e (sym c.0) refl (run_site_from t resolved e r run)
      | inr c ↦ same_site_with t r.to (west_of r) e e (sym c.0) refl (run_site_to t resolved e r run)
    ]

pub east_with : (t : Topology) → IsResolved t → (e : ℕ) (r : Run) → IsRun t e r → SiteWith t (east_of r) e
east_with t resolved e r run =
    elim (west_cases r) [
      | inl c ↦ same_site_with t r.to (east_of r) e e (sym c.1) refl (run_site_to t resolved e r run)
      | inr c ↦ same_site_with t r.from (east_of r) e e (sym c.1) refl (run_site_from t resolved e r run)
    ]

pub goes_east : (r : Run) → IsForward r → (west_of r).mile.0 <ℤ (east_of r).mile.0
goes_east r forward =
    let a : ℤ = r.from.mile.0 in
    let b : ℤ = r.to.mile.0 in
    elim (int_cmp a b) as (λ o. MatchOrdering o (a <ℤ b) (a ≡ b) (b <ℤ a) → (cond (int_lt a b) r.from r.to).mile.0 <ℤ (cond (int_lt a b) r.to r.from).mile.0) [
      | Less ↦ λ less. subst (λ (t : Bool). (cond t r.from r.to).mile.0 <ℤ (cond t r.to r.from).mile.0) (sym (less_true a b less)) less
      | Equal ↦ λ same. absurd (forward same)
      | Greater ↦ λ more. subst (λ (t : Bool). (cond t r.from r.to).mile.0 <ℤ (cond t r.to r.from).mile.0) (sym (less_false b a more)) more
    ] (int_ranks a b)

-- the node at a spot is an end of an edge that has the spot at one of its ends
pub end_at : (t : Topology) (edges : List Edge) (e : ℕ) (spot : Spot) → AreEdgesOf t edges → RunAt t e spot →
    ((get_or edges e no_edge).west ≡ node_number t spot.at) ⊎ ((get_or edges e no_edge).east ≡ node_number t spot.at)
end_at t edges e spot are r =
    let is = edge_is t edges e r.run are r.numbered in
    let west : (get_or edges e no_edge).west ≡ node_number t (west_of r.run).at = ap (λ (x : Edge). x.west) is in
    let east : (get_or edges e no_edge).east ≡ node_number t (east_of r.run).at = ap (λ (x : Edge). x.east) is in
    elim (west_cases r.run) [
      | inl c ↦ elim r.ends [
        | inl from ↦ inl (west ∙ ap (λ (s : Spot). node_number t s.at) (c.0 ∙ from))
        | inr to ↦ inr (east ∙ ap (λ (s : Spot). node_number t s.at) (c.1 ∙ to))
      ]
      | inr c ↦ elim r.ends [
        | inl from ↦ inr (east ∙ ap (λ (s : Spot). node_number t s.at) (c.1 ∙ from))
        | inr to ↦ inl (west ∙ ap (λ (s : Spot). node_number t s.at) (c.0 ∙ to))
      ]
    ]

pub all_of : {X : Type 0} (P : X → Type 0) (xs : List X) → ((x : X) → In x xs → P x) → All P xs
all_of P xs each k d within = each (get_or xs k d) (in_contains xs (get_or xs k d) (Contains-get_or xs k d within))

module _ (t : Topology) (g : Graph) (resolved : IsResolved t) (forward : AllForward t) (is : IsGraphOf t g) where
  run_of : (e : ℕ) → e < length g.edges → (r : Run) × IsRun t e r
  run_of e within = numbered_run t resolved e (subst (λ (n : ℕ). e < n) is.edges.count within)

  site_within : (s : Site) → In s (sites t) → node_number t s.spot.at < length g.nodes
  site_within s there = subst (λ (n : ℕ). node_number t s.spot.at < n) (sym is.count) (number_within t s there)

  node_of : (s : Site) → In s (sites t) → IsNodeOf t g s
  node_of s there = is.each s (contains_in (sites t) s there)

  with_within : (spot : Spot) (e : ℕ) → SiteWith t spot e → node_number t spot.at < length g.nodes
  with_within spot e s = subst (λ (p : Spot). node_number t p.at < length g.nodes) s.at (site_within s.site s.there)

  with_mileage : (spot : Spot) (e : ℕ) → SiteWith t spot e → mileage g (node_number t spot.at) ≡ spot.mile.0
  with_mileage spot e s = subst (λ (p : Spot). mileage g (node_number t p.at) ≡ p.mile.0) s.at (node_of s.site s.there).mileage

  with_port : (spot : Spot) (e : ℕ) → SiteWith t spot e → IsPortOf g (node_number t spot.at) e
  with_port spot e s =
      subst (λ (p : Spot). IsPortOf g (node_number t p.at) e) s.at
      (is_port (side_at g.edges (node_number t s.site.spot.at)) s.site.meets (node g (node_number t s.site.spot.at)).ports e (node_of s.site s.there).ports
      (contains_in (edges_met s.site.meets) e s.met))

  ports_of_site : (s : Site) → In s (sites t) → ArePortsOf g (node_number t s.spot.at) (node g (node_number t s.spot.at)).ports
  ports_of_site s there =
      are_ports g (node_number t s.spot.at) s.meets (node g (node_number t s.spot.at)).ports
      (all_of (λ (e : ℕ). e < length g.edges) (edges_met s.meets) (λ e met. let r = met_run t resolved s e there met in edge_within t g.edges e r.run is.edges
      r.numbered))
      (met_apart t resolved forward s there)
      (all_of (λ (e : ℕ). IsEndOf g e (node_number t s.spot.at)) (edges_met s.meets)
      (λ e met. end_at t g.edges e s.spot is.edges (met_run t resolved s e there met)))
      (node_of s there).ports

  pub track_graph : IsTrackGraph g
  track_graph = record {
    nodes = λ e within.
        let r = run_of e within in
        let at_e = edge_is t g.edges e r.0 is.edges r.1 in (
          subst (λ (n : ℕ). n < length g.nodes) (sym (ap (λ (x : Edge). x.west) at_e)) (with_within (west_of r.0) e (west_with t resolved e r.0 r.1)),
          subst (λ (n : ℕ). n < length g.nodes) (sym (ap (λ (x : Edge). x.east) at_e)) (with_within (east_of r.0) e (east_with t resolved e r.0 r.1)),
        );
    forward = λ e within.
        let r = run_of e within in
        let at_e = edge_is t g.edges e r.0 is.edges r.1 in
        let west = ap (mileage g) (ap (λ (x : Edge). x.west) at_e) ∙ with_mileage (west_of r.0) e (west_with t resolved e r.0 r.1) in
        let east = ap (mileage g) (ap (λ (x : Edge). x.east) at_e) ∙ with_mileage (east_of r.0) e (east_with t resolved e r.0 r.1) in
        subst (λ (z : ℤ). z <ℤ mileage g (edge g e).east) (sym west) (subst (λ (z : ℤ). (west_of r.0).mile.0 <ℤ z) (sym east)
        (goes_east r.0 (forward e r.0 r.1)));
    met = λ e within.
        let r = run_of e within in
        let at_e = edge_is t g.edges e r.0 is.edges r.1 in (
          subst (λ (n : ℕ). IsPortOf g n e) (sym (ap (λ (x : Edge). x.west) at_e)) (with_port (west_of r.0) e (west_with t resolved e r.0 r.1)),
          subst (λ (n : ℕ). IsPortOf g n e) (sym (ap (λ (x : Edge). x.east) at_e)) (with_port (east_of r.0) e (east_with t resolved e r.0 r.1)),
        );
    ports = λ n within.
        let s = numbered_site t resolved n (subst (λ (m : ℕ). n < m) is.count within) in
        subst (λ (m : ℕ). ArePortsOf g m (node g m).ports) s.2 (ports_of_site s.0 s.1);
  }
