-- What is read: each node's point, each edge's line, and then the whole drawing.
use Rattle.std.proofs.Common.{◌≡◌, ℕ, suc, ◌+◌, ◌-◌, ◌≤◌, ◌<◌, List, [], ◌∷◌, ◌++◌, length, length-append, get_or, take, inl, inr, refl, sym, ◌∙◌, ap, subst}
use Rattle.std.proofs.Common.{arith}
use Rattle.std.proofs.Math.Seq.{take-suc}
use Rattle.std.proofs.lemmas.List.{take_all, get_or_append_left, get_or_push}
use Rattle.std.proofs.lemmas.Bool.Decides.{eqb_tells}
use Rattle.plan_core.specs.declared.point.Point.{Point}
use Rattle.plan_core.specs.Grid.{GridSize, IsGrid}
use Rattle.plan_core.specs.Graph.{Graph, edge, IsTrackGraph}
use Rattle.plan_core.specs.Line.{west_end, east_end, height}
use Rattle.plan_core.specs.Drawing.{Drawing, drawing, place, line}
use Rattle.plan_core.specs.Lawful.{Lawful}
use Rattle.plan_core.specs.Values.{values_of}
use Rattle.cnf_core.specs.declared.limits.TheConstants.{VARS}
use Rattle.cnf_core.specs.Clause.{Clauses}
use Rattle.cnf_core.specs.Assignment.{Assignment, SatisfiesAll}
use Rattle.cnf_core.proofs.ClauseLemmas.{satisfies_left}
use Rattle.order_int.specs.IntVars.{IntVars, IntIsThere, IntIsIn}
use Rattle.order_int.specs.OrderInt.{Reads, int_clauses}
use Rattle.order_int.proofs.IntLemmas.{int_holds, reads_once}
use Rattle.edge_shape.specs.Columns.{listed_height}
use Rattle.edge_shape.proofs.LineHeights.{point_is}
use Rattle.track_order.specs.Order.{is_above, is_overlap}
use Rattle.edge_shape.specs.EdgeVars.{EdgeSpot, edge_spot, lits_of}
use Rattle.drawing_cnf.specs.Stands.{StandsFor, ReadsDrawing, IsJoinedOnGrid}
use Rattle.drawing_cnf.specs.LawClauses.{laws_clauses}
use Rattle.drawing_cnf.specs.Expected.{drawing_vars, edge_first, laws_first, base_clauses, instances}
use Rattle.drawing_cnf.specs.Encoding.{Encoding, encoded_vars}
use Rattle.drawing_cnf.specs.Bounded.{Tells, bounds_clauses}
use Rattle.drawing_cnf.specs.Whole.{drawing_clauses, drawing_last, IsWhole}
use Rattle.drawing_cnf.proofs.BaseLemmas.{node_spot, base_last, base_vars, base_means}
use Rattle.drawing_cnf.proofs.ThereLemmas.{vars_more}
use Rattle.drawing_cnf.proofs.MainLemmas.{reads_stand}
use Rattle.drawing_cnf.proofs.WholeLemmas.{last_rises, one_joined, one_drawing, whole_reads, whole_tells}
use Rattle.model_decode.specs.Decoded.{IsRead, IsReadAs}
use Rattle.model_decode.proofs.TracedLemmas.{AreHeights}

-- NODES
pub int_in : (vars : ℕ) (i j : IntVars) → i ≡ j → IntIsThere vars j → IntIsIn vars i
int_in vars i j e there some = let to : i.first + (i.high - i.low) ≤ vars + 1 = (subst (λ (k : IntVars). IntIsThere vars k) (sym e) there).to in to

pub node_x_in : (g : Graph) (grid : GridSize) (n vars : ℕ) (i : IntVars) → n < length g.nodes → laws_first g grid ≤ vars + 1 →
    i ≡ ((drawing_vars g grid).node n).x → IntIsIn vars i
node_x_in g grid n vars i lt le is = let s = node_spot g grid n lt in int_in vars i ((drawing_vars g grid).node n).x is (record {
  from = omega arith;
  to = omega arith;
})

pub node_y_in : (g : Graph) (grid : GridSize) (n vars : ℕ) (i : IntVars) → n < length g.nodes → laws_first g grid ≤ vars + 1 →
    i ≡ ((drawing_vars g grid).node n).y → IntIsIn vars i
node_y_in g grid n vars i lt le is = let s = node_spot g grid n lt in int_in vars i ((drawing_vars g grid).node n).y is (record {
  from = omega arith;
  to = omega arith;
})

pub int_model : (v : Assignment) (i j : IntVars) (n : ℕ) → i ≡ j → Reads v j n → SatisfiesAll v (int_clauses i)
int_model v i j n e r = subst (λ (k : IntVars). SatisfiesAll v (int_clauses k)) (sym e) (int_holds v j n r)

pub small_x : (g : Graph) (grid : GridSize) (n : ℕ) (i : IntVars) → IsGrid grid → i ≡ ((drawing_vars g grid).node n).x → i.high ≤ 65535
small_x g grid n i size is = let top = size.width_limit in let same : i.high ≡ grid.width = ap (λ (k : IntVars). k.high) is in omega arith

pub small_y : (g : Graph) (grid : GridSize) (n : ℕ) (i : IntVars) → IsGrid grid → i ≡ ((drawing_vars g grid).node n).y → i.high ≤ 65535
small_y g grid n i size is = let top = size.height_limit in let same : i.high ≡ grid.height = ap (λ (k : IntVars). k.high) is in omega arith

pub place_read : (g : Graph) (grid : GridSize) (v : Assignment) (n : ℕ) (i j : IntVars) (p : Point) (d : Drawing) → n < length g.nodes →
    i ≡ ((drawing_vars g grid).node n).x → j ≡ ((drawing_vars g grid).node n).y → Reads v i p.x → Reads v j p.y → IsReadAs g grid v d → p ≡ place d n
place_read g grid v n i j p d lt ei ej rx ry is =
    let r = is.reads.points n lt in
    point_is (λ c. p.y) p.x (place d n) (reads_once v ((drawing_vars g grid).node n).x p.x (place d n).x (subst (λ (k : IntVars). Reads v k p.x) ei rx) r.x)
    (reads_once v ((drawing_vars g grid).node n).y p.y (place d n).y (subst (λ (k : IntVars). Reads v k p.y) ej ry) r.y)

-- LINES
pub heights_are : (g : Graph) (grid : GridSize) (v : Assignment) (k w z : ℕ) (s : EdgeSpot) (y : ℕ → ℕ) (d : Drawing) → k < length g.edges →
    s ≡ edge_spot (edge_first g grid k) grid.height grid.width → IsReadAs g grid v d → w ≡ (place d (edge g k).west).x → z ≡ (place d (edge g k).east).x →
    ((c : ℕ) → c ≤ grid.width → Reads v ((lits_of s).height c) (y c)) → AreHeights y grid.width (line d k) w z
heights_are g grid v k w z s y d lt es is ew ez read =
    let j = is.loose.joins k lt in
    let a : (west_end (line d k)).x ≡ (place d (edge g k).west).x = ap (λ (p : Point). p.x) j.begins in
    let b : (east_end (line d k)).x ≡ (place d (edge g k).east).x = ap (λ (p : Point). p.x) j.ends in
    let wide = j.in_width in
    record {
      shape = j.shape;
      west = omega arith;
      east = omega arith;
      within = omega arith;
      same = λ c le.
          reads_once v (((drawing_vars g grid).edge k).height c) (y c) (height (line d k) c)
          (subst (λ (t : EdgeSpot). Reads v ((lits_of t).height c) (y c)) es (read c le)) ((is.reads.lines k lt).height c le);
    }

pub height_model : (g : Graph) (grid : GridSize) (v : Assignment) (k c : ℕ) (s : EdgeSpot) (d : Drawing) → k < length g.edges → c ≤ grid.width →
    s ≡ edge_spot (edge_first g grid k) grid.height grid.width → IsReadAs g grid v d → SatisfiesAll v (int_clauses ((lits_of s).height c))
height_model g grid v k c s d lt le es is =
    subst (λ (t : EdgeSpot). SatisfiesAll v (int_clauses ((lits_of t).height c))) (sym es)
    (int_holds v (((drawing_vars g grid).edge k).height c) (height (line d k) c) ((is.reads.lines k lt).height c le))

pub spot_width : (g : Graph) (grid : GridSize) (k : ℕ) (s : EdgeSpot) → s ≡ edge_spot (edge_first g grid k) grid.height grid.width → s.width ≡ grid.width
spot_width g grid k s is = ap (λ (t : EdgeSpot). t.width) is

pub spot_high : (g : Graph) (grid : GridSize) (k : ℕ) (s : EdgeSpot) → s ≡ edge_spot (edge_first g grid k) grid.height grid.width → s.high ≡ grid.height
spot_high g grid k s is = ap (λ (t : EdgeSpot). t.high) is

pub height_in : (g : Graph) (grid : GridSize) (k c vars : ℕ) (s : EdgeSpot) → IsGrid grid → laws_first g grid ≤ VARS + 1 → k < length g.edges → c ≤ grid.width →
    laws_first g grid ≤ vars + 1 → s ≡ edge_spot (edge_first g grid k) grid.height grid.width → IntIsIn vars ((lits_of s).height c)
height_in g grid k c vars s size few lt le to es =
    int_in vars ((lits_of s).height c) (((drawing_vars g grid).edge k).height c) (ap (λ (t : EdgeSpot). (lits_of t).height c) es)
    (((vars_more (base_last g grid) vars g (drawing_vars g grid) grid.width (omega arith) (base_vars g grid size few)).edge k lt).height c le)

-- one height more
pub record HeightsTo (v : Assignment) (at : ℕ → IntVars) (heights : List ℕ) (c : ℕ) : Type 0 where
  pub count : length heights ≡ c
  pub each : (k : ℕ) → k < c → Reads v (at k) (listed_height heights k)

pub no_heights : (v : Assignment) (at : ℕ → IntVars) → HeightsTo v at [] 0
no_heights v at = record { count = refl; each = λ k lt. absurd (omega arith) }

pub one_height : (v : Assignment) (at : ℕ → IntVars) (heights more : List ℕ) (h c : ℕ) → HeightsTo v at heights c → more ≡ heights ++ h ∷ [] →
    Reads v (at c) h → HeightsTo v at more (c + 1)
one_height v at heights more h c so_far is here =
    let n = so_far.count in
    let size : length more ≡ length heights + 1 = ap (λ (l : List ℕ). length l) is ∙ length-append heights (h ∷ []) in
    record {
      count = omega arith;
      each = λ k lt. elim (eqb_tells k c) [
        | inl same ↦
            let value : listed_height more k ≡ h = ap (λ (l : List ℕ). get_or l k 0) is ∙ get_or_push heights h 0 k (n ∙ sym same.1) in
            subst (λ j. Reads v (at j) (listed_height more k)) (sym same.1) (subst (λ j. Reads v (at c) j) (sym value) here)
        | inr other ↦
            let ne = other.1 in
            let value : listed_height more k ≡ listed_height heights k = ap (λ (l : List ℕ). get_or l k 0) is
            ∙ get_or_append_left heights (h ∷ []) 0 k (omega arith) in
            subst (λ j. Reads v (at k) j) (sym value) (so_far.each k (omega arith))
      ];
    }

-- A MODEL
-- the model has all variables of nodes and edges
pub laws_within : (e : Encoding) (vars : ℕ) → IsWhole e → e.formula.vars ≤ vars → laws_first e.graph e.grid ≤ vars + 1
laws_within e vars w le =
    let rise = last_rises e.graph (encoded_vars e) e.grid (drawing_last e) e.bounds w.behind in
    let all = w.vars in
    omega arith

-- a whole formula begins with the clauses of nodes and edges
pub base_holds : (e : Encoding) (v : Assignment) → IsWhole e → SatisfiesAll v e.formula.clauses → SatisfiesAll v (base_clauses e.graph (encoded_vars e) e.grid)
base_holds e v w h =
    let x = encoded_vars e in
    let laws = laws_clauses e.graph x e.grid.width (laws_first e.graph e.grid) (instances e.graph (is_above e.order) (is_overlap e.order)) in
    satisfies_left v (base_clauses e.graph x e.grid) laws
    (satisfies_left v (drawing_clauses e) (bounds_clauses e.graph x e.grid e.bounds) (subst (λ (cs : Clauses). SatisfiesAll v cs) w.clauses h))

pub model_read : (g : Graph) (grid : GridSize) (v : Assignment) → IsTrackGraph g → IsGrid grid → laws_first g grid ≤ VARS + 1 →
    SatisfiesAll v (base_clauses g (drawing_vars g grid) grid) → IsRead g grid v
model_read g grid v is size few h =
    let r = base_means v g grid is size h in
    record { graph = is; size = size; few = few; drawing = r.drawing; is = record { reads = r.reads; loose = r.loose } }

-- LISTS THAT GROW
pub one_taken : {X : Type 0} (xs ys zs : List X) (i : ℕ) (x d : X) → i < length xs → ys ≡ take i xs → zs ≡ ys ++ x ∷ [] → x ≡ get_or xs i d →
    zs ≡ take (i + 1) xs
one_taken xs ys zs i x d lt front grown is =
    let next : suc i ≡ i + 1 = omega arith in
    grown ∙ ap (λ (l : List _). l ++ x ∷ []) front ∙ ap (λ k. take i xs ++ k ∷ []) is ∙ sym (take-suc xs i d lt) ∙ ap (λ n. take n xs) next

pub all_taken : {X : Type 0} (xs ys : List X) (i : ℕ) → length xs ≤ i → ys ≡ take i xs → ys ≡ xs
all_taken xs ys i le is = is ∙ take_all i xs le

-- THE DRAWING
pub same_drawing : (ps : List Point) (ls : List (List Point)) (d : Drawing) → ps ≡ d.places → ls ≡ d.lines → drawing ps ls ≡ d
same_drawing ps ls d ep el = ap (λ (k : List Point). drawing k ls) ep ∙ ap (λ (k : List (List Point)). drawing d.places k) el

-- what holds of a drawing that is read
pub record LooseDecoded (g : Graph) (grid : GridSize) (v : Assignment) (b : Drawing) : Type 0 where
  pub joined : IsJoinedOnGrid g grid b
  pub reads : ReadsDrawing v g (drawing_vars g grid) grid.width b
  pub stands : StandsFor v g (drawing_vars g grid) b
  pub alone : (other : Drawing) → IsJoinedOnGrid g grid other → StandsFor v g (drawing_vars g grid) other → other ≡ b

pub loose_decoded : (g : Graph) (grid : GridSize) (v : Assignment) → IsTrackGraph g → IsGrid grid → SatisfiesAll v (base_clauses g (drawing_vars g grid) grid) →
    (b : Drawing) → ((d : Drawing) → IsReadAs g grid v d → b ≡ d) → LooseDecoded g grid v b
loose_decoded g grid v is size h b same =
    let r = base_means v g grid is size h in
    let stands = reads_stand v g (drawing_vars g grid) grid r.drawing r.reads r.loose in
    subst (λ (d : Drawing). LooseDecoded g grid v d) (sym (same r.drawing (record { reads = r.reads; loose = r.loose }))) (record {
      joined = r.loose;
      reads = r.reads;
      stands = stands;
      alone = λ other joined also. one_joined v g grid (drawing_vars g grid) other r.drawing is joined r.loose also stands;
    })

-- of a drawing with laws 1 and 3 for which a model of a whole formula stands
pub record Decoded (e : Encoding) (v : Assignment) (b : Drawing) : Type 0 where
  pub stands : StandsFor v e.graph (encoded_vars e) b
  pub lawful : Lawful e.graph (is_above e.order) e.grid b
  pub tells : Tells v (values_of b) e.bounds
  pub alone : (other : Drawing) → Lawful e.graph (is_above e.order) e.grid other → StandsFor v e.graph (encoded_vars e) other → other ≡ b

pub decoded : (e : Encoding) (v : Assignment) → IsTrackGraph e.graph → IsGrid e.grid → IsWhole e → SatisfiesAll v e.formula.clauses → (b : Drawing) →
    ((other : Drawing) → IsJoinedOnGrid e.graph e.grid other → StandsFor v e.graph (encoded_vars e) other → other ≡ b) → Decoded e v b
decoded e v is size w h b same =
    let r = whole_reads e is size w v h in
    let stands = reads_stand v e.graph (encoded_vars e) e.grid r.drawing r.read.reads r.read.loose in
    subst (λ (d : Drawing). Decoded e v d) (same r.drawing r.read.loose stands) (record {
      stands = stands;
      lawful = r.lawful;
      tells = whole_tells e v r.drawing is size w h r.lawful stands;
      alone = λ other lawful also. one_drawing v e.graph (is_above e.order) e.grid (encoded_vars e) other r.drawing is lawful r.lawful also stands;
    })

-- the graph and the grid of a formula, as they are lent
pub lent_alone : (e : Encoding) (v : Assignment) (g : Graph) (grid : GridSize) (b : Drawing) → g ≡ e.graph → grid ≡ e.grid →
    ((other : Drawing) → IsJoinedOnGrid g grid other → StandsFor v g (drawing_vars g grid) other → other ≡ b) → (other : Drawing) →
    IsJoinedOnGrid e.graph e.grid other → StandsFor v e.graph (encoded_vars e) other → other ≡ b
lent_alone e v g grid b eg ed h =
    subst (λ (d : GridSize). (other : Drawing) → IsJoinedOnGrid e.graph d other → StandsFor v e.graph (drawing_vars e.graph d) other → other ≡ b) ed
    (subst (λ (k : Graph). (other : Drawing) → IsJoinedOnGrid k grid other → StandsFor v k (drawing_vars k grid) other → other ≡ b) eg h)

pub lent_holds : (e : Encoding) (v : Assignment) (g : Graph) (grid : GridSize) → g ≡ e.graph → grid ≡ e.grid → IsWhole e → SatisfiesAll v e.formula.clauses →
    SatisfiesAll v (base_clauses g (drawing_vars g grid) grid)
lent_holds e v g grid eg ed w h =
    subst (λ (k : Graph). SatisfiesAll v (base_clauses k (drawing_vars k grid) grid)) (sym eg)
    (subst (λ (d : GridSize). SatisfiesAll v (base_clauses e.graph (drawing_vars e.graph d) d)) (sym ed) (base_holds e v w h))

pub lent_within : (e : Encoding) (g : Graph) (grid : GridSize) (vars : ℕ) → g ≡ e.graph → grid ≡ e.grid → laws_first e.graph e.grid ≤ vars →
    laws_first g grid ≤ vars
lent_within e g grid vars eg ed h =
    subst (λ (k : Graph). laws_first k grid ≤ vars) (sym eg) (subst (λ (d : GridSize). laws_first e.graph d ≤ vars) (sym ed) h)
