-- A topology has one track graph or one fault.
use Rattle.std.proofs.Common.{◌≡◌, ◌≢◌, ℕ, suc, ◌<◌, ◌≤◌, ℤ, List, [], ◌∷◌, length, Option, Some, None, Result, ◌⊎◌, refl, sym, ap, ◌∙◌, subst, inl, inr, arith}
use Rattle.std.specs.Prelude.{slice_get, IsSome, IfOk, IfErr}
use Rattle.std.proofs.lemmas.Bool.{cases_order, cases_eq, false≢true}
use Rattle.std.proofs.lemmas.Option.{slice_get-get_or, slice_get_within, same_Some, none-some}
use Rattle.plan_core.specs.declared.topology.Topology.{Topology}
use Rattle.plan_core.specs.Graph.{Graph, Node, Edge, Ports, node, no_node}
use Rattle.plan_core.specs.Topology.{IsResolved}
use Rattle.port_graph.specs.declared.fault.GraphFault.{GraphFault}
use Rattle.port_graph.specs.declared.fault.GraphFault.TheVariants.{TooManyNodes, TooManyEdges, NotForward, SideMismatch, Memory}
use Rattle.port_graph.specs.declared.runs.Run.{Run}
use Rattle.port_graph.specs.declared.runs.Join.{Join}
use Rattle.port_graph.specs.declared.sites.Site.{Site}
use Rattle.port_graph.specs.PortRule.{ports_of}
use Rattle.port_graph.specs.Runs.{pieces_of_tracks, joins, join_number}
use Rattle.port_graph.specs.Sites.{sites, node_number}
use Rattle.port_graph.specs.TopologyGraph.{IsRun, AreEdgesOf, side_at, IsNodeOf, IsGraphOf, IsStationGraphOf, IsFirstLevel, IsFirstMismatch, IsGraphFault}
use Rattle.plan_core.specs.Exactly.{AnswersExactly}
use Rattle.plan_core.proofs.ExactlyLemmas.{answers_exactly}
use Rattle.port_graph.proofs.Membership.{In, contains_in, in_contains, at_in, pairs_at}
use Rattle.port_graph.proofs.RankLemmas.{one_rank}
use Rattle.port_graph.proofs.TrackGraphLemmas.{numbered_run, numbered_site}
use Rattle.port_graph.proofs.TurnedNodes.{one_site, all_forward_of}
use Rattle.port_graph.proofs.FromFile.{join_places_differ}
use Rattle.port_graph.proofs.RunLemmas.{length-pieces}

-- lists of one length with the same elements are one
same_lists : {X : Type 0} (xs ys : List X) → length xs ≡ length ys → ((i : ℕ) → i < length xs → slice_get xs i ≡ slice_get ys i) → xs ≡ ys
same_lists [] [] long same = refl
same_lists [] (y ∷ ys) long same = absurd (omega (arith, long))
same_lists (x ∷ xs) [] long same = absurd (omega (arith, long))
same_lists {X} (x ∷ xs) (y ∷ ys) long same =
    let rest : xs ≡ ys = same_lists xs ys (omega (arith, long)) (λ i within. same (suc i) (omega arith)) in
    ap (λ (z : X). z ∷ xs) (same_Some x y (same 0 (omega arith))) ∙ ap (λ (l : List X). y ∷ l) rest

-- ---- the graph

pub one_list : (t : Topology) → IsResolved t → (edges edges' : List Edge) → AreEdgesOf t edges → AreEdgesOf t edges' → edges ≡ edges'
one_list t resolved edges edges' are are' =
    same_lists edges edges' (are.count ∙ sym are'.count)
    (λ e within.
    let r = numbered_run t resolved e (subst (λ (n : ℕ). e < n) are.count within) in
    are.each e r.0 r.1 ∙ sym (are'.each e r.0 r.1))

same_node : (m n : Node) → m.name ≡ n.name → m.mileage ≡ n.mileage → m.ports ≡ n.ports → m ≡ n
same_node m n p q r =
    let F : List ℕ → ℤ → Ports → Node = λ name mileage ports. record { name = name; mileage = mileage; ports = ports } in
    ap (λ (x : List ℕ). F x m.mileage m.ports) p ∙ ap (λ (x : ℤ). F n.name x m.ports) q ∙ ap (F n.name n.mileage) r

node_at : (t : Topology) (g h : Graph) (s : Site) → g.edges ≡ h.edges → IsNodeOf t g s → IsNodeOf t h s →
    node g (node_number t s.spot.at) ≡ node h (node_number t s.spot.at)
node_at t g h s edges is is' =
    let n : ℕ = node_number t s.spot.at in
    same_node (node g n) (node h n) (is.name ∙ sym is'.name) (is.mileage ∙ sym is'.mileage)
    (same_Some (node g n).ports (node h n).ports (sym is.ports ∙ ap (λ (l : List Edge). ports_of (side_at l n) s.meets) edges ∙ is'.ports))

pub one_graph : (t : Topology) (g h : Graph) → IsResolved t → IsGraphOf t g → IsGraphOf t h → g ≡ h
one_graph t g h resolved is is' =
    let edges : g.edges ≡ h.edges = one_list t resolved g.edges h.edges is.edges is'.edges in
    let count : length g.nodes ≡ length h.nodes = is.count ∙ sym is'.count in
    let nodes : g.nodes ≡ h.nodes = same_lists g.nodes h.nodes count
    (λ n within.
    let s = numbered_site t resolved n (subst (λ (k : ℕ). n < k) is.count within) in
    let there = contains_in (sites t) s.0 s.1 in
    let same : node g n ≡ node h n = subst (λ (k : ℕ). node g k ≡ node h k) s.2 (node_at t g h s.0 edges (is.each s.0 there) (is'.each s.0 there)) in
    slice_get-get_or g.nodes n no_node within ∙ ap (λ (x : Node). Some x) same ∙ sym (slice_get-get_or h.nodes n no_node (omega arith))) in
    let F : List Node → List Edge → Graph = λ nodes edges. record { nodes = nodes; edges = edges } in
    ap (λ (l : List Node). F l g.edges) nodes ∙ ap (F h.nodes) edges

-- ---- no fault beside a graph

none_some : {X : Type 0} (o : Option X) (x : X) → o ≡ None → o ≡ Some x → ⊥
none_some o x is is' = none-some x (sym is ∙ is')

mismatch_beside : (t : Topology) (g : Graph) (n : ℕ) (name : List ℕ) → IsResolved t → IsGraphOf t g → IsFirstMismatch t n name → ⊥
mismatch_beside t g n name resolved is fault =
    let edges : fault.edges ≡ g.edges = one_list t resolved fault.edges g.edges fault.built is.edges in
    let ports = (is.each fault.site fault.there).ports in
    none_some (ports_of (side_at fault.edges n) fault.site.meets) (node g (node_number t fault.site.spot.at)).ports fault.mismatched
    (ap (λ (l : List Edge). ports_of (side_at l n) fault.site.meets) edges
    ∙ ap (λ (k : ℕ). ports_of (side_at g.edges k) fault.site.meets) (sym fault.numbered) ∙ ports)

pub graph_or_fault : (t : Topology) (g : Graph) (fault : GraphFault) → IsResolved t → IsStationGraphOf t g → IsGraphFault t fault → ⊥
graph_or_fault t g (TooManyNodes n) resolved is fault =
    let many = fault.0 in let count = is.graph.count in let few = is.station.few_nodes in
    omega (arith, many, fault.1, count, few)
graph_or_fault t g (TooManyEdges n) resolved is fault =
    let many = fault.1 in let count = is.graph.edges.count in let few = is.station.few_edges in
    omega (arith, many, fault.2, count, few)
graph_or_fault t g (NotForward e track mileage) resolved is fault =
    all_forward_of t g resolved is.graph is.station.track_graph e.0 fault.2.run fault.2.numbered (fault.2.from ∙ sym fault.2.to)
graph_or_fault t g (SideMismatch n name) resolved is fault = mismatch_beside t g n.0 name resolved is.graph fault.3
graph_or_fault t g Memory resolved is fault = fault

-- ---- one fault

one_join : (t : Topology) → IsResolved t → (j j' : Join) → In j (joins t) → In j' (joins t) → j.at ≡ j'.at → j ≡ j'
one_join t resolved j j' there there' same =
    let i = at_in (joins t) j there in
    let i' = at_in (joins t) j' there' in
    elim (cases_eq i.0 i'.0) [
      | inl one ↦ same_Some j j' (sym i.1 ∙ ap (slice_get (joins t)) one ∙ i'.1)
      | inr differ ↦ absurd (pairs_at (λ (a b : Join). a.at ≢ b.at) (λ a b apart e. apart (sym e)) (joins t) i.0 i'.0 j j' (join_places_differ t resolved) i.1
          i'.1 differ same)
    ]

pub one_run : (t : Topology) → IsResolved t → (e : ℕ) (r r' : Run) → IsRun t e r → IsRun t e r' → r ≡ r'
one_run t resolved e r r' (inl piece) (inl piece') = same_Some r r' (sym piece ∙ piece')
one_run t resolved e r r' (inl piece) (inr join) =
    let within = slice_get_within (pieces_of_tracks t) e r piece in
    let total = length-pieces t in
    let number : join_number t join.0.at ≡ e = join.2 in
    absurd (omega (arith, within, total, number))
one_run t resolved e r r' (inr join) (inl piece) =
    let within = slice_get_within (pieces_of_tracks t) e r' piece in
    let total = length-pieces t in
    let number : join_number t join.0.at ≡ e = join.2 in
    absurd (omega (arith, within, total, number))
one_run t resolved e r r' (inr join) (inr join') =
    let numbers : join_number t join.0.at ≡ join_number t join'.0.at = join.2 ∙ sym join'.2 in
    let there = in_contains (joins t) join.0 join.1 in
    let there' = in_contains (joins t) join'.0 join'.1 in
    let place : join.0.at ≡ join'.0.at = one_rank (λ (j : Join). j.at) (joins t) join.0 join'.0 there there' (omega (arith, numbers)) in
    sym join.3 ∙ ap (λ (j : Join). j.run) (one_join t resolved join.0 join'.0 there there' place) ∙ join'.3

one_level : (t : Topology) (e e' : ℕ) (track track' : List ℕ) (m m' : ℤ) → IsResolved t → IsFirstLevel t e track m → IsFirstLevel t e' track' m' →
    (e ≡ e') × (track ≡ track') × (m ≡ m')
one_level t e e' track track' m m' resolved is is' =
    elim (cases_order e e') [
      | inl same ↦
          let run : is.run ≡ is'.run = one_run t resolved e' is.run is'.run (subst (λ (n : ℕ). IsRun t n is.run) same is.numbered) is'.numbered in
          (same, is.named ∙ ap (λ (r : Run). r.track) run ∙ sym is'.named, sym is.from ∙ ap (λ (r : Run). r.from.mile.0) run ∙ is'.from)
      | inr (inl less) ↦ absurd (is'.before e is.run less is.numbered (is.from ∙ sym is.to))
      | inr (inr more) ↦ absurd (is.before e' is'.run more is'.numbered (is'.from ∙ sym is'.to))
    ]

none_isnt_some : {X : Type 0} (o : Option X) → o ≡ None → IsSome o → ⊥
none_isnt_some None is there = false≢true there
none_isnt_some (Some x) is there = none-some x (sym is)

earlier_mismatch : (t : Topology) (n n' : ℕ) (name name' : List ℕ) → IsResolved t → IsFirstMismatch t n name → IsFirstMismatch t n' name' → n' ≤ n
earlier_mismatch t n n' name name' resolved is is' =
    elim (cases_order n n') [
      | inl same ↦ omega (arith, same)
      | inr (inr more) ↦ omega arith
      | inr (inl less) ↦
          let edges : is.edges ≡ is'.edges = one_list t resolved is.edges is'.edges is.built is'.built in
          let number : node_number t is.site.spot.at ≡ n = is.numbered in
          let matches = is'.before is.site is.there (omega (arith, number, less)) in
          absurd (none_isnt_some (ports_of (side_at is.edges n) is.site.meets) is.mismatched
          (subst (λ (k : ℕ). IsSome (ports_of (side_at is.edges k) is.site.meets)) number
          (subst (λ (l : List Edge). IsSome (ports_of (side_at l (node_number t is.site.spot.at)) is.site.meets)) (sym edges) matches)))
    ]

one_mismatch : (t : Topology) (n n' : ℕ) (name name' : List ℕ) → IsResolved t → IsFirstMismatch t n name → IsFirstMismatch t n' name' →
    (n ≡ n') × (name ≡ name')
one_mismatch t n n' name name' resolved is is' =
    let low = earlier_mismatch t n n' name name' resolved is is' in
    let high = earlier_mismatch t n' n name' name resolved is' is in
    let same : n ≡ n' = omega (arith, low, high) in
    let there = in_contains (sites t) is.site is.there in
    let there' = in_contains (sites t) is'.site is'.there in
    let place : is.site.spot.at ≡ is'.site.spot.at = one_rank (λ (s : Site). s.spot.at) (sites t) is.site is'.site there there'
    (is.numbered ∙ same ∙ sym is'.numbered) in
    (same, is.named ∙ ap (λ (s : Site). s.id) (one_site t resolved is.site is'.site there there' place) ∙ sym is'.named)

pub one_fault : (t : Topology) (f f' : GraphFault) → IsResolved t → IsGraphFault t f → IsGraphFault t f' → f ≡ f'
one_fault t (TooManyNodes n) (TooManyNodes n') resolved is is' = ap TooManyNodes (is.0 ∙ sym is'.0)
one_fault t (TooManyNodes n) (TooManyEdges n') resolved is is' = let p = is.0 in absurd (omega (arith, p, is.1, is'.0))
one_fault t (TooManyNodes n) (NotForward e track m) resolved is is' = let p = is.0 in absurd (omega (arith, p, is.1, is'.0))
one_fault t (TooManyNodes n) (SideMismatch k name) resolved is is' = let p = is.0 in absurd (omega (arith, p, is.1, is'.0))
one_fault t (TooManyEdges n) (TooManyNodes n') resolved is is' = let p = is'.0 in absurd (omega (arith, p, is'.1, is.0))
one_fault t (TooManyEdges n) (TooManyEdges n') resolved is is' = ap TooManyEdges (is.1 ∙ sym is'.1)
one_fault t (TooManyEdges n) (NotForward e track m) resolved is is' = let p = is.1 in absurd (omega (arith, p, is.2, is'.1))
one_fault t (TooManyEdges n) (SideMismatch k name) resolved is is' = let p = is.1 in absurd (omega (arith, p, is.2, is'.1))
one_fault t (NotForward e track m) (TooManyNodes n') resolved is is' = let p = is'.0 in absurd (omega (arith, p, is'.1, is.0))
one_fault t (NotForward e track m) (TooManyEdges n') resolved is is' = let p = is'.1 in absurd (omega (arith, p, is'.2, is.1))
one_fault t (NotForward e track m) (NotForward e' track' m') resolved is is' =
    let one = one_level t e.0 e'.0 track track' m.0 m'.0 resolved is.2 is'.2 in
    let F : ℕ → List ℕ → ℤ → GraphFault = λ e track m. NotForward (record { 0 = e }) track (record { 0 = m }) in
    ap (λ (x : ℕ). F x track m.0) one.0 ∙ ap (λ (x : List ℕ). F e'.0 x m.0) one.1 ∙ ap (F e'.0 track') one.2
one_fault t (NotForward e track m) (SideMismatch k name) resolved is is' =
    absurd (is'.2 e.0 is.2.run is.2.numbered (is.2.from ∙ sym is.2.to))
one_fault t (SideMismatch k name) (TooManyNodes n') resolved is is' = let p = is'.0 in absurd (omega (arith, p, is'.1, is.0))
one_fault t (SideMismatch k name) (TooManyEdges n') resolved is is' = let p = is'.1 in absurd (omega (arith, p, is'.2, is.1))
one_fault t (SideMismatch k name) (NotForward e track m) resolved is is' =
    absurd (is.2 e.0 is'.2.run is'.2.numbered (is'.2.from ∙ sym is'.2.to))
one_fault t (SideMismatch k name) (SideMismatch k' name') resolved is is' =
    let one = one_mismatch t k.0 k'.0 name name' resolved is.3 is'.3 in
    let F : ℕ → List ℕ → GraphFault = λ n name. SideMismatch (record { 0 = n }) name in
    ap (λ (x : ℕ). F x name) one.0 ∙ ap (F k'.0) one.1
one_fault t Memory f' resolved is is' = absurd is
one_fault t f Memory resolved is is' = absurd is'

-- ---- what is answered

-- of a result that is the graph, a fault or want of memory
pub graph_exactly : (t : Topology) (result : Result Graph GraphFault) → IsResolved t → IfOk result (IsStationGraphOf t) →
    IfErr result (λ fault. (fault ≡ Memory) ⊎ IsGraphFault t fault) → AnswersExactly result Memory (IsStationGraphOf t) (IsGraphFault t)
graph_exactly t result resolved value fault =
    answers_exactly result Memory (IsStationGraphOf t) (IsGraphFault t) value fault
    (λ g h is is'. one_graph t g h resolved is.graph is'.graph) (λ f f' is is'. one_fault t f f' resolved is is')
    (λ g f is is'. graph_or_fault t g f resolved is is')
