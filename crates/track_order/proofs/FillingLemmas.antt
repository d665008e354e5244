-- Filling a row: how it begins, each step, and how it ends.
use Rattle.std.specs.Prelude.{◌≡◌, ◌⊎◌, ℕ, ◌<◌, ◌≤◌, Bool, true, false, List, [], ◌∷◌, ◌++◌, length, take, slice_index_or, slice_set, replicate}
use Rattle.std.proofs.Common.{inl, inr, rules, add-one, ◌+◌, sym, ◌∙◌, ap, subst, arith, get_or-set_other, get_or-set_same, length-set}
use Rattle.std.proofs.lemmas.List.Elements.{Contains-append_cases}
use Rattle.std.proofs.lemmas.Grind.{get_or-set_at}
use Rattle.std.proofs.lemmas.List.{get_or_default, get_or-replicate, length-replicate, take_all}
use Rattle.std.proofs.Math.ListN.{get_or-eq_default}
use Rattle.std.proofs.Math.Seq.{take-suc}
use Rattle.plan_core.specs.Graph.{Graph}
use Rattle.plan_core.specs.declared.sides.Compass.{Compass}
use Rattle.track_order.specs.Reach.{EdgeFollows, IsWalk, Reaches, begin_of_edge, end_of_edge}
use Rattle.track_order.specs.Tables.{is_marked, IsMarked}
use Rattle.track_order.specs.Filling.{IsBehind, IsReachRow, IsWalkOrder, IsFilling}
use Rattle.track_order.proofs.ReachLemmas.{reaches_self, reaches_on}

-- how a walk comes to its last edge
pub data Arrives (g : Graph) (way : Compass) (e f : ℕ) : Type 0 where
  At : e ≡ f → Arrives g way e f
  From : (h : ℕ) → h < length g.edges → Reaches g way e h → EdgeFollows g way h f → Arrives g way e f

arrives_by : (g : Graph) (way : Compass) (e f : ℕ) (edges : List ℕ) → e < length g.edges → IsWalk g way e edges f → Arrives g way e f
arrives_by g way e f [] lt w = At w
arrives_by g way e f (next ∷ rest) lt w =
    elim (arrives_by g way next f rest w.0 w.2) [
      | At same ↦ From e lt (reaches_self g way e) (subst (λ (x : ℕ). EdgeFollows g way e x) same w.1)
      | From h there r follows ↦ From h there (record { edges = next ∷ r.edges; walk = (w.0, w.1, r.walk) }) follows
    ]

pub arrives : (g : Graph) (way : Compass) (e f : ℕ) → e < length g.edges → Reaches g way e f → Arrives g way e f
arrives g way e f lt r = arrives_by g way e f r.edges lt r.walk

-- a mark at one place more
pub marked_here : (marks : List Bool) (i : ℕ) → i < length marks → IsMarked (slice_set marks i true) i
marked_here marks i lt = get_or-set_same marks i true false lt

pub marked_still : (marks : List Bool) (i j : ℕ) → i < length marks → IsMarked marks j → IsMarked (slice_set marks i true) j
marked_still marks i j lt marked = grind (arith, get_or-set_other, get_or-set_at)

pub marked_before : (marks : List Bool) (i j : ℕ) → i < length marks → IsMarked (slice_set marks i true) j → (i ≡ j) ⊎ IsMarked marks j
marked_before marks i j lt marked = grind (arith, get_or-set_other)

-- the row as it is before the first edge is done
pub filling_begins : (g : Graph) (way : Compass) (start : ℕ) (edges nodes : List Bool) → start < length g.edges → end_of_edge g way start < length g.nodes →
    length edges ≡ length g.edges → length nodes ≡ length g.nodes → ((i : ℕ) → is_marked edges i ≡ false) → ((i : ℕ) → is_marked nodes i ≡ false) →
    IsFilling g way start [] (slice_set edges start true) (slice_set nodes (end_of_edge g way start) true)
filling_begins g way start edges nodes lt node_lt edge_size node_size no_edge no_node =
    let edge_there : start < length edges = omega arith in
    let node_there : end_of_edge g way start < length nodes = omega arith in
    let only : (f : ℕ) → IsMarked (slice_set edges start true) f → start ≡ f =
    (λ f marked. elim (marked_before edges start f edge_there marked) [ inl same ↦ same | inr was ↦ absurd (grind (arith, no_edge f)) ]) in
    record {
      edge_size = grind (arith, length-set);
      node_size = grind (arith, length-set);
      begun = marked_here edges start edge_there;
      sound = λ f _ marked. subst (λ (x : ℕ). Reaches g way start x) (only f marked) (reaches_self g way start);
      full = λ f among r. absurd (search rules);
      ends = λ f _ marked. subst (λ (x : ℕ). IsMarked (slice_set nodes (end_of_edge g way start) true) (end_of_edge g way x)) (only f marked)
          (marked_here nodes (end_of_edge g way start) node_there);
      cause = λ n marked. elim (marked_before nodes (end_of_edge g way start) n node_there marked) [
        | inl same ↦ (start, lt, marked_here edges start edge_there, same)
        | inr was ↦ absurd (grind (arith, no_node n))
      ];
    }

-- an edge that begins where a marked one ends is marked too
pub filling_goes_on : (g : Graph) (way : Compass) (start : ℕ) (done : List ℕ) (edges nodes : List Bool) (e : ℕ) →
    e < length g.edges → end_of_edge g way e < length g.nodes → IsFilling g way start done edges nodes → IsMarked nodes (begin_of_edge g way e) →
    IsFilling g way start (done ++ e ∷ []) (slice_set edges e true) (slice_set nodes (end_of_edge g way e) true)
filling_goes_on g way start done edges nodes e lt node_lt so_far marked =
    let edge_there : e < length edges = omega (arith, so_far.edge_size) in
    let node_there : end_of_edge g way e < length nodes = omega (arith, so_far.node_size) in
    let before = so_far.cause (begin_of_edge g way e) marked in
    let reached : Reaches g way start e = reaches_on g way start before.0 e (so_far.sound before.0 before.1 before.2) lt (sym before.3) in
    record {
      edge_size = grind (arith, length-set, so_far.edge_size);
      node_size = grind (arith, length-set, so_far.node_size);
      begun = marked_still edges e start edge_there so_far.begun;
      sound = λ f there now. elim (marked_before edges e f edge_there now) [
        | inl same ↦ subst (λ (x : ℕ). Reaches g way start x) same reached
        | inr was ↦ so_far.sound f there was
      ];
      full = λ f among r. elim (Contains-append_cases done (e ∷ []) f among) [
        | inl old ↦ marked_still edges e f edge_there (so_far.full f old r)
        | inr new ↦ (let same : e ≡ f = search rules in subst (λ (x : ℕ). IsMarked (slice_set edges e true) x) same (marked_here edges e edge_there))
      ];
      ends = λ f there now. elim (marked_before edges e f edge_there now) [
        | inl same ↦ subst (λ (x : ℕ). IsMarked (slice_set nodes (end_of_edge g way e) true) (end_of_edge g way x)) same
            (marked_here nodes (end_of_edge g way e) node_there)
        | inr was ↦ marked_still nodes (end_of_edge g way e) (end_of_edge g way f) node_there (so_far.ends f there was)
      ];
      cause = λ n now. elim (marked_before nodes (end_of_edge g way e) n node_there now) [
        | inl same ↦ (e, lt, marked_here edges e edge_there, same)
        | inr was ↦ (let old = so_far.cause n was in (old.0, old.1, marked_still edges e old.0 edge_there old.2, old.3))
      ];
    }

-- one that doesn't isn't reached, unless the row began with it
pub filling_passes_over : (g : Graph) (way : Compass) (start : ℕ) (done : List ℕ) (edges nodes : List Bool) (e : ℕ) →
    start < length g.edges → IsBehind g way done e →
    IsFilling g way start done edges nodes → (IsMarked nodes (begin_of_edge g way e) → ⊥) →
    IsFilling g way start (done ++ e ∷ []) edges nodes
filling_passes_over g way start done edges nodes e lt behind so_far unmarked =
    let at_e : Reaches g way start e → IsMarked edges e =
    (λ r. elim (arrives g way start e lt r) [
      | At same ↦ subst (λ (x : ℕ). IsMarked edges x) same so_far.begun
      | From h there r_h follows ↦ absurd (unmarked (subst (λ (x : ℕ). IsMarked nodes x) (sym follows)
          (so_far.ends h there (so_far.full h (behind h there follows) r_h))))
    ]) in
    record {
      edge_size = so_far.edge_size;
      node_size = so_far.node_size;
      begun = so_far.begun;
      sound = so_far.sound;
      full = λ f among r. elim (Contains-append_cases done (e ∷ []) f among) [
        | inl old ↦ so_far.full f old r
        | inr new ↦ (let same : e ≡ f = search rules in subst (λ (x : ℕ). Reaches g way start x → IsMarked edges x) same at_e r)
      ];
      ends = so_far.ends;
      cause = so_far.cause;
    }

-- after all edges the row is whole
pub filling_ends : (g : Graph) (way : Compass) (start : ℕ) (order : List ℕ) (edges nodes : List Bool) →
    IsWalkOrder g way order → IsFilling g way start order edges nodes → IsReachRow g way start edges
filling_ends g way start order edges nodes walk filled = record {
  size = filled.edge_size;
  exact = λ f there. ((λ marked. filled.sound f there marked), (λ r. filled.full f (walk.all f there) r));
}

-- what is read of a row
pub read_marked : (marks : List Bool) (i : ℕ) (x : Bool) → i < length marks → x ≡ slice_index_or marks i x → x ≡ true → IsMarked marks i
read_marked marks i x less is marked = get_or_default marks i false x less ∙ sym is ∙ marked

pub read_unmarked : (marks : List Bool) (i : ℕ) (x : Bool) → i < length marks → x ≡ slice_index_or marks i x → x ≡ false → IsMarked marks i → ⊥
read_unmarked marks i x less is unmarked marked =
    let both : true ≡ false = sym marked ∙ get_or_default marks i false x less ∙ sym is ∙ unmarked in
    search rules

pub none_marked : (n i : ℕ) → is_marked (replicate n false) i ≡ false
none_marked n i = elim (within_or_past n i) [
  | inl less ↦ get_or-replicate n i false false less
  | inr past ↦ get_or-eq_default (replicate n false) false (omega (arith, past, length-replicate n false))
]
  where
    within_or_past : (n i : ℕ) → (i < n) ⊎ (n ≤ i)
    within_or_past n i = search (rules, arith)

-- the same, with the node at which the edge ends by another name
pub filling_steps : (g : Graph) (way : Compass) (start : ℕ) (done : List ℕ) (edges nodes : List Bool) (e end : ℕ) → end ≡ end_of_edge g way e →
    e < length g.edges → end < length g.nodes → IsFilling g way start done edges nodes → IsMarked nodes (begin_of_edge g way e) →
    IsFilling g way start (done ++ e ∷ []) (slice_set edges e true) (slice_set nodes end true)
filling_steps g way start done edges nodes e end is lt node_lt so_far marked =
    subst (λ (n : ℕ). IsFilling g way start (done ++ e ∷ []) (slice_set edges e true) (slice_set nodes n true)) (sym is)
    (filling_goes_on g way start done edges nodes e lt (subst (λ (n : ℕ). n < length g.nodes) is node_lt) so_far marked)

pub filling_starts : (g : Graph) (way : Compass) (start end : ℕ) (edges nodes : List Bool) → end ≡ end_of_edge g way start → start < length g.edges →
    end < length g.nodes →
    edges ≡ replicate (length g.edges) false → nodes ≡ replicate (length g.nodes) false →
    IsFilling g way start [] (slice_set edges start true) (slice_set nodes end true)
filling_starts g way start end edges nodes is lt node_lt edges_are nodes_are =
    subst (λ (n : ℕ). IsFilling g way start [] (slice_set edges start true) (slice_set nodes n true)) (sym is)
    (subst (λ (xs : List Bool). IsFilling g way start [] (slice_set xs start true) (slice_set nodes (end_of_edge g way start) true)) (sym edges_are)
    (subst (λ (xs : List Bool). IsFilling g way start [] (slice_set (replicate (length g.edges) false) start true)
    (slice_set xs (end_of_edge g way start) true)) (sym nodes_are)
    (filling_begins g way start (replicate (length g.edges) false) (replicate (length g.nodes) false) lt (subst (λ (n : ℕ). n < length g.nodes) is node_lt)
    (length-replicate (length g.edges) false) (length-replicate (length g.nodes) false) (none_marked (length g.edges)) (none_marked (length g.nodes)))))

-- an entry of an order of walks
pub entry_there : (g : Graph) (way : Compass) (order : List ℕ) (k : ℕ) → IsWalkOrder g way order → k < length order → slice_index_or order k 0 < length g.edges
entry_there g way order k walk less = walk.there (slice_index_or order k 0) (k, less, get_or_default order k (slice_index_or order k 0) 0 less)

-- one more entry of the order is done
pub filling_on : (g : Graph) (way : Compass) (start : ℕ) (order : List ℕ) (k : ℕ) (edges nodes : List Bool) → IsWalkOrder g way order → k < length order →
    IsFilling g way start (take k order ++ slice_index_or order k 0 ∷ []) edges nodes → IsFilling g way start (take (k + 1) order) edges nodes
filling_on g way start order k edges nodes walk less filling =
    subst (λ (done : List ℕ). IsFilling g way start done edges nodes) (sym (ap (λ (i : ℕ). take i order) (add-one k) ∙ take-suc order k 0 less)) filling

pub filling_whole : (g : Graph) (way : Compass) (start : ℕ) (order : List ℕ) (k : ℕ) (edges nodes : List Bool) → IsWalkOrder g way order → length order ≤ k →
    IsFilling g way start (take k order) edges nodes → IsReachRow g way start edges
filling_whole g way start order k edges nodes walk past filling =
    filling_ends g way start order edges nodes walk (subst (λ (done : List ℕ). IsFilling g way start done edges nodes) (take_all k order past) filling)

-- one more edge, whether it is marked or not
pub ruleset filling_one_more = (filling_goes_on, filling_passes_over)
