-- A test by which a graph is shown to be that of an example.
use Rattle.std.proofs.Common.{◌≡◌, ℕ, ◌<◌, ◌≤◌, inl, inr, Bool, true, false, not, ◌||◌, cond, int_eq, length, None, ap, zero-add, List, [], ◌∷◌, ◌++◌, map}
use Rattle.std.proofs.Common.{Some, refl, subst, arith, ltb-true, ltb-false, get_or}
use Rattle.std.specs.Prelude.{nat_lt, nat_le, All, AllPairs, IsSome, slice_get, is_some}
use Rattle.std.specs.List.{enumerate_from, list_all}
use Rattle.std.specs.List.Sorted.{IsPermutation, IsNonDecreasingBy}
use Rattle.std.proofs.lemmas.Bool.{both_ways, cases_order, leb-true, lt-ltb, not-true, or_cases}
use Rattle.std.proofs.lemmas.Bool.Decides.{Decides-int_eq}
use Rattle.std.proofs.lemmas.List.Sums.{AllPass-from_list_all}
use Rattle.std.proofs.lemmas.List.Elements.{All-nil, All-cons, All-contains, All-weaker}
use Rattle.std.proofs.lemmas.List.Kept.{AllPairs-cons}
use Rattle.std.proofs.lemmas.List.Sorted.{IsPermutation-refl, IsPermutation-cons, IsPermutation-trans, All-permutation}
use Rattle.plan_core.specs.declared.topology.Topology.{Topology}
use Rattle.plan_core.specs.Topology.{IsResolved}
use Rattle.plan_core.specs.Graph.{Graph, Edge}
use Rattle.plan_core.specs.declared.limits.TheConstants.{MAX_NODES, MAX_EDGES}
use Rattle.plan_core.specs.declared.numbers.Micro.{Micro}
use Rattle.plan_core.proofs.ListFacts.{pairs_head, pairs_tail}
use Rattle.port_graph.specs.declared.fault.GraphFault.TheVariants.{NotForward, SideMismatch}
use Rattle.port_graph.specs.declared.runs.Run.{Run}
use Rattle.port_graph.specs.declared.runs.Join.{Join}
use Rattle.port_graph.specs.declared.sites.Site.{Site}
use Rattle.port_graph.specs.Runs.{pieces_of_tracks, joins, edge_count}
use Rattle.port_graph.specs.Sites.{sites}
use Rattle.port_graph.specs.TopologyGraph.{edge_of, side_at, IsForward, IsGraphOf, IsGraphFault}
use Rattle.port_graph.specs.Ordered.{AreRunsOf, nodes_among}
use Rattle.port_graph.specs.PortRule.{ports_of}
use Rattle.port_graph.proofs.RunOrder.{runs_in_order}
use Rattle.port_graph.proofs.GraphLemmas.{are_edges, all_forward, is_graph, mismatch_fault}
use Rattle.port_graph.proofs.Membership.{In, contains_in}
use Rattle.port_graph.proofs.ResolvedTest.{in_numbers, resolved_test, resolved_by_test}

-- an element put where it belongs by a number, and a list put in order
abbrev pub put_by : {A : Type 0} → (A → ℕ) → A → List A → List A
put_by key x [] = x ∷ []
put_by key x (y ∷ ys) = cond (nat_lt (key y) (key x)) (y ∷ put_by key x ys) (x ∷ y ∷ ys)

abbrev pub in_order_by : {A : Type 0} → (A → ℕ) → List A → List A
in_order_by key [] = []
in_order_by key (x ∷ xs) = put_by key x (in_order_by key xs)

put_same : {A : Type 0} (key : A → ℕ) (x : A) (ys : List A) → IsPermutation (x ∷ ys) (put_by key x ys)
put_same key x [] = IsPermutation-refl (x ∷ [])
put_same key x (y ∷ ys) = elim (nat_lt (key y) (key x)) as (λ b. IsPermutation (x ∷ y ∷ ys) (cond b (y ∷ put_by key x ys) (x ∷ y ∷ ys))) [
  | true ↦ IsPermutation-trans (x ∷ y ∷ ys) (y ∷ x ∷ ys) (y ∷ put_by key x ys) (record {
    moves = (0, 1) ∷ [];
    below = (omega arith, omega arith, tt);
    is = refl;
  }) (IsPermutation-cons y (x ∷ ys) (put_by key x ys) (put_same key x ys))
  | false ↦ IsPermutation-refl (x ∷ y ∷ ys)
]

order_same : {A : Type 0} (key : A → ℕ) (xs : List A) → IsPermutation xs (in_order_by key xs)
order_same key [] = IsPermutation-refl []
order_same key (x ∷ xs) = IsPermutation-trans (x ∷ xs) (x ∷ in_order_by key xs) (put_by key x (in_order_by key xs))
    (IsPermutation-cons x xs (in_order_by key xs) (order_same key xs)) (put_same key x (in_order_by key xs))

put_rises : {A : Type 0} (key : A → ℕ) (x : A) (ys : List A) → AllPairs (λ a b. key a ≤ key b) ys → AllPairs (λ a b. key a ≤ key b) (put_by key x ys)
put_rises {A} key x [] pairs = AllPairs-cons (λ (a b : A). key a ≤ key b) x [] (All-nil (λ (b : A). key x ≤ key b)) pairs
put_rises {A} key x (y ∷ ys) pairs =
    let R : A → A → Type 0 = λ a b. key a ≤ key b in
    let over : All (R y) ys = pairs_head R y ys pairs in
    elim (nat_lt (key y) (key x)) as (λ b. nat_lt (key y) (key x) ≡ b → AllPairs R (cond b (y ∷ put_by key x ys) (x ∷ y ∷ ys))) [
      | true ↦ λ less.
          let le : key y ≤ key x = omega (arith, ltb-true (key y) (key x) less) in
          AllPairs-cons R y (put_by key x ys) (All-permutation (R y) (x ∷ ys) (put_by key x ys) (put_same key x ys) (All-cons (R y) x ys le over))
          (put_rises key x ys (pairs_tail R y ys pairs))
      | false ↦ λ more.
          let le : key x ≤ key y = ltb-false (key y) (key x) more in
          AllPairs-cons R x (y ∷ ys) (All-cons (R x) y ys le (All-weaker (R y) (R x) (λ z h. let g : key y ≤ key z = h in omega arith) ys over)) pairs
    ] refl

order_rises : {A : Type 0} (key : A → ℕ) (xs : List A) → AllPairs (λ a b. key a ≤ key b) (in_order_by key xs)
order_rises key [] = λ i j d less within. absurd (omega arith)
order_rises key (x ∷ xs) = put_rises key x (in_order_by key xs) (order_rises key xs)

order_up : {A : Type 0} (key : A → ℕ) (xs : List A) → IsNonDecreasingBy key (in_order_by key xs)
order_up {A} key xs i j d le within = elim (cases_order i j) [
  | inl equal ↦ subst (λ k. key (get_or (in_order_by key xs) i d) ≤ key (get_or (in_order_by key xs) k d)) equal (omega arith)
  | inr (inl less) ↦ order_rises key xs i j d less within
  | inr (inr more) ↦ absurd (omega arith)
]

-- runs and sites in order
abbrev pub runs_of : Topology → List Run
runs_of t = pieces_of_tracks t ++ map (λ (j : Join). j.run) (in_order_by (λ (j : Join). j.at) (joins t))

abbrev pub sites_of : Topology → List Site
sites_of t = in_order_by (λ (s : Site). s.spot.at) (sites t)

pub graph_by_test : (t : Topology) (g : Graph) → resolved_test t ≡ true → g.edges ≡ map (edge_of t) (runs_of t) →
    map Some g.nodes ≡ nodes_among g.edges (sites_of t) → IsResolved t × IsGraphOf t g
graph_by_test t g tested edges nodes =
    let resolved = resolved_by_test t tested in
    let by_at : Join → ℕ = λ j. j.at in
    let by_place : Site → ℕ = λ s. s.spot.at in (
      resolved,
      is_graph t g (sites_of t) resolved
          (are_edges t (runs_of t) g.edges (runs_in_order t (in_order_by by_at (joins t)) resolved (order_same by_at (joins t)) (order_up by_at (joins t)))
          edges)
          (record { same = order_same by_place (sites t); rise = order_up by_place (sites t) })
          nodes,
    )

-- Tests by which a fault is shown to be that of an example.

abbrev pub leads_forward : Run → Bool
leads_forward r = not (int_eq r.from.mile.0 r.to.mile.0)

forward_by_test : (runs : List Run) → list_all leads_forward runs ≡ true → All IsForward runs
forward_by_test runs tested =
    All-weaker (λ (r : Run). leads_forward r ≡ true) IsForward
    (λ r passes same. both_ways (int_eq r.from.mile.0 r.to.mile.0) (not-true (int_eq r.from.mile.0 r.to.mile.0) passes)
    ((Decides-int_eq r.from.mile.0 r.to.mile.0).1 same))
    runs (AllPass-from_list_all leads_forward runs tested)

pub in_order_of : (t : Topology) → IsResolved t → AreRunsOf t (runs_of t)
in_order_of t resolved = let by_at : Join → ℕ = λ j. j.at in runs_in_order t (in_order_by by_at (joins t)) resolved (order_same by_at (joins t))
    (order_up by_at (joins t))

-- the first run is level
pub level_by_test : (t : Topology) (r : Run) → resolved_test t ≡ true → nat_le (length (sites t)) MAX_NODES ≡ true → nat_le (edge_count t) MAX_EDGES ≡ true →
    slice_get (runs_of t) 0 ≡ Some r → r.from.mile ≡ r.to.mile → IsResolved t × IsGraphFault t (NotForward (record { 0 = 0 }) r.track r.to.mile)
level_by_test t r tested nodes edges first level =
    let resolved = resolved_by_test t tested in
    let runs = in_order_of t resolved in (
      resolved,
      (
        leb-true (length (sites t)) MAX_NODES nodes,
        leb-true (edge_count t) MAX_EDGES edges,
        record {
          run = r;
          numbered = runs.only 0 r first;
          named = refl;
          from = ap (λ (m : Micro). m.0) level;
          to = refl;
          before = λ f q less run. absurd (omega arith);
        },
      ),
    )

-- at every site before number n the edges lie as they must
abbrev pub lie_before : List Edge → List Site → ℕ → Bool
lie_before edges ss n = list_all (λ (ns : ℕ × Site). not (nat_lt ns.0 n) || is_some (ports_of (side_at edges ns.0) ns.1.meets)) (enumerate_from 0 ss)

before_by_test : (edges : List Edge) (ss : List Site) (n m : ℕ) (r : Site) → lie_before edges ss n ≡ true → m < n → slice_get ss m ≡ Some r →
    IsSome (ports_of (side_at edges m) r.meets)
before_by_test edges ss n m r tested less there =
    let lies : ℕ × Site → Bool = λ ns. not (nat_lt ns.0 n) || is_some (ports_of (side_at edges ns.0) ns.1.meets) in
    let listed = contains_in {X = ℕ × Site} (enumerate_from 0 ss) (m, r) (subst (λ (k : ℕ). In {X = ℕ × Site} (k, r) (enumerate_from 0 ss)) (zero-add m)
    (in_numbers 0 ss m r there)) in
    elim (or_cases (not (nat_lt m n)) (is_some (ports_of (side_at edges m) r.meets))
    (All-contains (λ (ns : ℕ × Site). lies ns ≡ true) (enumerate_from 0 ss) (m, r) (AllPass-from_list_all lies (enumerate_from 0 ss) tested) listed)) [
      | inl past ↦ absurd (both_ways (nat_lt m n) (not-true (nat_lt m n) past) (lt-ltb m n less))
      | inr lie ↦ lie
    ]

pub mismatch_by_test : (t : Topology) (n : ℕ) (s : Site) → resolved_test t ≡ true → nat_le (length (sites t)) MAX_NODES ≡ true →
    nat_le (edge_count t) MAX_EDGES ≡ true → list_all leads_forward (runs_of t) ≡ true → slice_get (sites_of t) n ≡ Some s →
    ports_of (side_at (map (edge_of t) (runs_of t)) n) s.meets ≡ None → lie_before (map (edge_of t) (runs_of t)) (sites_of t) n ≡ true →
    IsResolved t × IsGraphFault t (SideMismatch (record { 0 = n }) s.id)
mismatch_by_test t n s tested nodes edges forward there none before =
    let resolved = resolved_by_test t tested in
    let runs = in_order_of t resolved in
    let made : List Edge = map (edge_of t) (runs_of t) in
    let by_place : Site → ℕ = λ s. s.spot.at in
    let fault = mismatch_fault t made (sites_of t) (SideMismatch (record {
      0 = n;
    }) s.id) resolved (leb-true (length (sites t)) MAX_NODES nodes) (leb-true (edge_count t) MAX_EDGES edges)
    (all_forward t (runs_of t) runs (forward_by_test (runs_of t) forward)) (are_edges t (runs_of t) made runs refl) (record {
      same = order_same by_place (sites t);
      rise = order_up by_place (sites t);
    })
    (s, record { there = there; mismatched = none; before = λ m r less at. before_by_test made (sites_of t) n m r before less at }, refl) in
    (resolved, elim fault [ inl memory ↦ absurd cc | inr shown ↦ shown ])
