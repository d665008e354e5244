-- A drawing's nodes and edges, put one after another.
use Rattle.std.proofs.Common.{◌≡◌, ◌⊎◌, ℕ, ◌+◌, ◌-◌, ◌*◌, ◌≤◌, ◌<◌, List, inl, inr, sym, ap, subst, length, arith}
use Rattle.std.specs.Prelude.{All}
use Rattle.std.proofs.lemmas.Bool.Decides.{leb_tells, eqb_tells}
use Rattle.plan_core.specs.declared.point.Point.{Point}
use Rattle.plan_core.specs.Grid.{GridSize, IsGrid, grid_size}
use Rattle.plan_core.specs.Laws.{IsOnGrid}
use Rattle.plan_core.specs.Line.{east_end}
use Rattle.plan_core.specs.Graph.{Graph, edge, IsTrackGraph}
use Rattle.plan_core.specs.Drawing.{Drawing, place, line}
use Rattle.cnf_core.specs.declared.limits.TheConstants.{VARS}
use Rattle.cnf_core.specs.Assignment.{Assignment, SatisfiesAll, SameOutside}
use Rattle.cnf_core.specs.Formula.{each}
use Rattle.cnf_core.proofs.ClauseLemmas.{satisfies_append, satisfies_each, satisfies_all_same}
use Rattle.order_int.specs.OrderInt.{int_clauses, Reads}
use Rattle.order_int.proofs.IntLemmas.{int_holds, reads_same}
use Rattle.edge_shape.specs.Joins.{JoinsPoints}
use Rattle.edge_shape.proofs.GridLemmas.{heights_on_grid}
use Rattle.edge_shape.specs.EdgeVars.{NodeInts, EdgeSpot, edge_spot, lits_of, edge_size, LieBefore}
use Rattle.edge_shape.specs.Edge.{edge_clauses}
use Rattle.edge_shape.specs.ReadsLine.{ReadsLine}
use Rattle.edge_shape.proofs.PlaceLemmas.{blocks}
use Rattle.edge_shape.proofs.SizeLemmas.{edge_there}
use Rattle.cnf_laws.specs.Rank.{west_rank}
use Rattle.cnf_laws.specs.Stands.{ReadsPoint, ReadsShape, ReadsDrawing, IsJoinedOnGrid}
use Rattle.cnf_laws.specs.Expected.{ints_at_place, drawing_vars, edge_first, laws_first, node_clauses, edge_part, base_clauses}
use Rattle.cnf_laws.proofs.RankLemmas.{rank_once}
use Rattle.cnf_laws.proofs.InstanceLemmas.{shape_stays}
use Rattle.cnf_laws.proofs.BaseLemmas.{NodesAreRead, EdgeHolds, shape_of, node_spot, edge_spot_in, edge_literals}

-- NODES
-- those of number below n are read
abbrev pub NodesReadTo : Graph → GridSize → Drawing → Assignment → ℕ → Type 0
NodesReadTo g grid d v n = (k : ℕ) → k < n → ReadsPoint v ((drawing_vars g grid).node k) (place d k)

other_block : (grid : GridSize) (j k : ℕ) (v w : Assignment) (p : Point) → (j < k) ⊎ (k < j) →
    SameOutside (1 + k * (grid.height + grid.width)) (grid.height + grid.width) v w → ReadsPoint v (ints_at_place grid j) p →
    ReadsPoint w (ints_at_place grid j) p
other_block grid j k v w p (inl before) same r =
    let all = blocks (grid.height + grid.width) k j before in
    record {
      x = reads_same v w (ints_at_place grid j).x p.x (λ y from to. same.below y (omega arith)) r.x;
      y = reads_same v w (ints_at_place grid j).y p.y (λ y from to. same.below y (omega arith)) r.y;
    }
other_block grid j k v w p (inr behind) same r =
    let all = blocks (grid.height + grid.width) j k behind in
    record {
      x = reads_same v w (ints_at_place grid j).x p.x (λ y from to. same.above y (omega arith)) r.x;
      y = reads_same v w (ints_at_place grid j).y p.y (λ y from to. same.above y (omega arith)) r.y;
    }

differ : (j k : ℕ) → (j ≡ k → ⊥) → (j < k) ⊎ (k < j)
differ j k ne = elim (leb_tells (j + 1) k) [
  | inl le ↦ let less = le.1 in inl (omega arith)
  | inr more ↦ let gt = more.1 in inr (omega arith)
]

pub node_put : (g : Graph) (grid : GridSize) (d : Drawing) (v w : Assignment) (n : ℕ) → n < length g.nodes → NodesReadTo g grid d v n →
    SameOutside (1 + west_rank g n * (grid.height + grid.width)) (grid.height + grid.width) v w → ReadsPoint w ((drawing_vars g grid).node n) (place d n) →
    NodesReadTo g grid d w (n + 1)
node_put g grid d v w n lt so_far same here k le = elim (eqb_tells k n) [
  | inl e ↦ subst (λ i. ReadsPoint w ((drawing_vars g grid).node i) (place d i)) (sym e.1) here
  | inr other ↦
      let ne = other.1 in
      let less : k < n = omega arith in
      other_block grid (west_rank g k) (west_rank g n) v w (place d k) (differ (west_rank g k) (west_rank g n) (λ e. ne (rank_once g k n (omega arith) lt e)))
      same (so_far k less)
]

-- EDGES
-- all nodes are read, and the edges of number below k, whose clauses hold
pub record EdgesPutTo (g : Graph) (grid : GridSize) (d : Drawing) (v : Assignment) (k : ℕ) : Type 0 where
  pub nodes : NodesAreRead g grid d v
  pub edges : (e : ℕ) → e < k → EdgeHolds v g grid d e

pub no_edge_put : (g : Graph) (grid : GridSize) (d : Drawing) (v : Assignment) → NodesAreRead g grid d v → EdgesPutTo g grid d v 0
no_edge_put g grid d v nodes = record { nodes = nodes; edges = λ e lt. absurd (omega arith) }

edge_kept : (g : Graph) (grid : GridSize) (d : Drawing) (e : ℕ) (u w : Assignment) → IsTrackGraph g → IsGrid grid → laws_first g grid ≤ VARS + 1 →
    e < length g.edges → ((y : ℕ) → y < edge_first g grid (e + 1) → w y ≡ u y) → EdgeHolds u g grid d e → EdgeHolds w g grid d e
edge_kept g grid d e u w is size few lt same h =
    let x = drawing_vars g grid in
    let s = edge_spot_in g grid e size few lt in
    let last = edge_first g grid (e + 1) - 1 in
    let more : (e + 1) * edge_size grid.height grid.width ≡ e * edge_size grid.height grid.width + edge_size grid.height grid.width = omega arith in
    let to : edge_first g grid e + edge_size grid.height grid.width ≤ last + 1 = omega arith in
    let below : (y : ℕ) → y ≤ last → w y ≡ u y = λ y le. same y (omega arith) in
    let ends = is.nodes e lt in
    let a = node_spot g grid (edge g e).west ends.0 in
    let b = node_spot g grid (edge g e).east ends.1 in
    record {
      reads = shape_stays u w last (x.edge e) grid.width (line d e) (edge_literals (edge_first g grid e) grid.height grid.width last s.0 to) below h.reads;
      satisfies = satisfies_all_same u w last (edge_part g x grid e)
          (edge_there (edge_first g grid e) grid.height grid.width last grid.least (x.node (edge g e).west) (x.node (edge g e).east) s.0.spot to
          (record {
            from = omega arith;
            to = omega arith;
          }) (record {
            from = omega arith;
            to = omega arith;
          }) (record { from = omega arith; to = omega arith }) (record { from = omega arith; to = omega arith }))
          below h.satisfies;
    }

pub edge_put : (g : Graph) (grid : GridSize) (d : Drawing) (v w : Assignment) (e : ℕ) → IsTrackGraph g → IsGrid grid → laws_first g grid ≤ VARS + 1 →
    e < length g.edges → EdgesPutTo g grid d v e → SameOutside (edge_first g grid e) (edge_size grid.height grid.width) v w →
    ReadsShape w ((drawing_vars g grid).edge e) grid.width (line d e) → SatisfiesAll w (edge_part g (drawing_vars g grid) grid e) →
    EdgesPutTo g grid d w (e + 1)
edge_put g grid d v w e is size few lt so_far same reads satisfies = record {
  nodes = λ n in_n.
      let s = node_spot g grid n in_n in
      let r = so_far.nodes n in_n in
      record {
        x = reads_same v w (ints_at_place grid (west_rank g n)).x (place d n).x (λ y from to. same.below y (omega arith)) r.x;
        y = reads_same v w (ints_at_place grid (west_rank g n)).y (place d n).y (λ y from to. same.below y (omega arith)) r.y;
      };
  edges = λ k le. elim (eqb_tells k e) [
    | inl is_e ↦ subst (λ i. EdgeHolds w g grid d i) (sym is_e.1) (record { reads = reads; satisfies = satisfies })
    | inr other ↦
        let ne = other.1 in
        let less : k < e = omega arith in
        let all = blocks (edge_size grid.height grid.width) e k less in
        let more : (k + 1) * edge_size grid.height grid.width ≡ k * edge_size grid.height grid.width + edge_size grid.height grid.width = omega arith in
        edge_kept g grid d k v w is size few (omega arith) (λ y low. same.below y (omega arith)) (so_far.edges k less)
  ];
}

pub edges_read : (g : Graph) (grid : GridSize) (d : Drawing) (v : Assignment) (k : ℕ) → length g.edges ≤ k → EdgesPutTo g grid d v k →
    ReadsDrawing v g (drawing_vars g grid) grid.width d
edges_read g grid d v k le h = record { points = h.nodes; lines = λ e lt. (h.edges e (omega arith)).reads }

pub edges_hold : (g : Graph) (grid : GridSize) (d : Drawing) (v : Assignment) (k : ℕ) → length g.edges ≤ k → EdgesPutTo g grid d v k →
    SatisfiesAll v (base_clauses g (drawing_vars g grid) grid)
edges_hold g grid d v k le h =
    let x = drawing_vars g grid in
    let n = length g.nodes in
    let m = length g.edges in
    satisfies_append v (each (λ j. node_clauses (x.node j)) 0 n) (each (edge_part g x grid) 0 m)
    (satisfies_each v (λ j. node_clauses (x.node j)) 0 n (λ j from to. let r = h.nodes j (omega arith) in satisfies_append v (int_clauses (x.node j).y)
    (int_clauses (x.node j).x) (int_holds v (x.node j).y (place d j).y r.y) (int_holds v (x.node j).x (place d j).x r.x)))
    (satisfies_each v (edge_part g x grid) 0 m (λ e from to. (h.edges e (omega arith)).satisfies))

pub nodes_before : (g : Graph) (grid : GridSize) (k e : ℕ) → k < length g.nodes → LieBefore (edge_first g grid e) ((drawing_vars g grid).node k)
nodes_before g grid k e lt = let s = node_spot g grid k lt in record { x = omega arith; y = omega arith }

-- an edge that was put
pub line_on_grid : (g : Graph) (grid : GridSize) (d : Drawing) (e : ℕ) (s : EdgeSpot) (l : List Point) →
    s ≡ edge_spot (edge_first g grid e) grid.height grid.width → l ≡ line d e → e < length g.edges → IsJoinedOnGrid g grid d →
    All (IsOnGrid (grid_size s.width s.high)) l
line_on_grid g grid d e s l es el lt loose =
    let j = loose.joins e lt in
    let wide = j.in_width in
    let z : (east_end (line d e)).x ≡ (place d (edge g e).east).x = ap (λ (p : Point). p.x) j.ends in
    subst (λ (t : EdgeSpot). All (IsOnGrid (grid_size t.width t.high)) l) (sym es)
    (subst (λ (k : List Point). All (IsOnGrid (grid_size grid.width grid.height)) k) (sym el)
    (heights_on_grid (grid_size grid.width grid.height) (line d e) j.shape j.in_height (omega arith)))

-- what the call that puts a line says of the edge's clauses
abbrev pub SatisfiesEdge : EdgeSpot → List Point → Assignment → Assignment → Type 0
SatisfiesEdge s l old new =
    (west east : NodeInts) (least : ℕ) (p q : Point) → LieBefore s.first west → LieBefore s.first east → Reads old west.x p.x → Reads old west.y p.y →
    Reads old east.x q.x → Reads old east.y q.y
    → JoinsPoints s.width s.high least p q l → SatisfiesAll new (edge_clauses (lits_of s) west east least s.high s.width)

pub edge_is_put : (g : Graph) (grid : GridSize) (d : Drawing) (e : ℕ) (old new : Assignment) (s : EdgeSpot) (l : List Point) →
    s ≡ edge_spot (edge_first g grid e) grid.height grid.width → l ≡ line d e → e < length g.edges → IsTrackGraph g → IsJoinedOnGrid g grid d →
    NodesAreRead g grid d old → ReadsLine new (lits_of s) s.width l → SatisfiesEdge s l old new → EdgeHolds new g grid d e
edge_is_put g grid d e old new s l es el lt is loose nodes reads satisfies =
    let x = drawing_vars g grid in
    let ends = is.nodes e lt in
    let west = nodes (edge g e).west ends.0 in
    let east = nodes (edge g e).east ends.1 in
    record {
      reads = shape_of new (x.edge e) grid.width (line d e) (subst (λ (t : EdgeSpot). ReadsLine new (lits_of t) t.width (line d e)) es
          (subst (λ (k : List Point). ReadsLine new (lits_of s) s.width k) el reads));
      satisfies = subst (λ (t : EdgeSpot). SatisfiesAll new (edge_clauses (lits_of t) (x.node (edge g e).west) (x.node (edge g e).east) grid.least t.high
          t.width)) es
          (satisfies (x.node (edge g e).west) (x.node (edge g e).east) grid.least (place d (edge g e).west) (place d (edge g e).east)
          (subst (λ (t : EdgeSpot). LieBefore t.first (x.node (edge g e).west)) (sym es) (nodes_before g grid (edge g e).west e ends.0))
          (subst (λ (t : EdgeSpot). LieBefore t.first (x.node (edge g e).east)) (sym es) (nodes_before g grid (edge g e).east e ends.1))
          west.x west.y east.x east.y
          (subst (λ (t : EdgeSpot). JoinsPoints t.width t.high grid.least (place d (edge g e).west) (place d (edge g e).east) l) (sym es)
          (subst (λ (k : List Point). JoinsPoints grid.width grid.height grid.least (place d (edge g e).west) (place d (edge g e).east) k) (sym el)
          (loose.joins e lt))));
    }
