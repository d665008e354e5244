-- Nodes and edges: a model of their clauses reads a drawing with laws 1 and 3, and each such drawing is read.
use Rattle.std.proofs.Common.{◌≡◌, ◌⊎◌, ℕ, suc, ◌+◌, ◌-◌, ◌*◌, ◌≤◌, ◌<◌, Bool, true, List, [], map, length, get_or, inl, inr, refl, sym, ◌∙◌, ap, subst, arith}
use Rattle.std.specs.Prelude.{⊤}
use Rattle.std.specs.List.{range_with_len}
use Rattle.std.proofs.lemmas.Bool.Decides.{leb_tells}
use Rattle.std.proofs.lemmas.List.FromFn.{length-map-range_with_len, get_or-map-range_with_len}
use Rattle.plan_core.specs.declared.point.Point.{Point}
use Rattle.plan_core.specs.Grid.{GridSize, IsGrid}
use Rattle.plan_core.specs.Graph.{Graph, edge, IsTrackGraph}
use Rattle.plan_core.specs.Line.{is_line, west_end, east_end}
use Rattle.plan_core.specs.Drawing.{Drawing, drawing, place, line}
use Rattle.plan_core.specs.Laws.{IsOnGrid}
use Rattle.plan_core.specs.Lawful.{NodeOnGrid, LineOnGrid, Joined, Lawful}
use Rattle.plan_core.proofs.LineLemmas.{ends_rise}
use Rattle.cnf_core.specs.declared.limits.TheConstants.{VARS}
use Rattle.cnf_core.specs.Clause.{AllThere}
use Rattle.cnf_core.specs.Assignment.{Assignment, SatisfiesAll, Extends}
use Rattle.cnf_core.specs.Formula.{each}
use Rattle.cnf_core.proofs.ClauseLemmas.{satisfies_append, satisfies_left, satisfies_right, satisfies_each, satisfies_at, satisfies_all_same, all_there_append}
use Rattle.cnf_core.proofs.ClauseLemmas.{all_there_each}
use Rattle.cnf_core.proofs.SettingLemmas.{same_none, extends_both, extends_weaker, each_extends}
use Rattle.order_int.specs.IntVars.{IntVars, size, IntIsThere}
use Rattle.order_int.specs.OrderInt.{Reads, number, int_clauses}
use Rattle.order_int.proofs.IntLemmas.{int_means, int_holds, int_extends, int_there, reads_same}
use Rattle.edge_shape.specs.EdgeVars.{NodeInts, EdgeLits, EdgeSpot, lits_of, edge_lits, edge_size, EdgeIsPlaced, LieBefore}
use Rattle.edge_shape.specs.ReadsLine.{ReadsLine, LineIsRead}
use Rattle.edge_shape.specs.Joins.{JoinsPoints}
use Rattle.edge_shape.proofs.GridLemmas.{on_grid_heights}
use Rattle.edge_shape.proofs.LineMeans.{models_are_lines}
use Rattle.edge_shape.proofs.LineExtends.{rows_of, line_extends}
use Rattle.edge_shape.proofs.PlaceLemmas.{blocks, column_there, inside_there, height_there, whole_literals}
use Rattle.edge_shape.proofs.SizeLemmas.{edge_there}
use Rattle.cnf_laws.specs.Stands.{DrawingVars, ReadsPoint, ReadsShape, ReadsDrawing, IsJoinedOnGrid}
use Rattle.cnf_laws.specs.Rank.{west_rank}
use Rattle.cnf_laws.proofs.RankLemmas.{IsAtPlace, rank_below, rank_once, at_place}
use Rattle.cnf_laws.specs.Expected.{ints_at_place, edges_first, edge_first, drawing_vars, laws_first, node_clauses, edge_part, base_clauses}
use Rattle.cnf_laws.proofs.ThereLemmas.{AreVars, EdgeThere, WholeThere}
use Rattle.cnf_laws.proofs.InstanceLemmas.{shape_stays}

-- what laws read is less than the line
pub shape_of : (v : Assignment) (e : EdgeLits) (width : ℕ) (l : List Point) → ReadsLine v e width l → ReadsShape v e width l
shape_of v e width l r = record {
  inside = r.inside;
  up = r.up;
  down = r.down;
  height = r.height;
  west = record { rises = r.west_up; falls = r.west_down };
  east = record { rises = r.east_up; falls = r.east_down };
  first_bend = r.first_bend;
  second_bend = r.second_bend;
}

-- FROM A MODEL
abbrev pub point_of : Assignment → NodeInts → Point
point_of v n = record { x = number v n.x; y = number v n.y }

node_means : (v : Assignment) (grid : GridSize) (n : ℕ) → SatisfiesAll v (node_clauses (ints_at_place grid n)) →
    ReadsPoint v (ints_at_place grid n) (point_of v (ints_at_place grid n))
node_means v grid n h =
    let i = ints_at_place grid n in
    record {
      x = int_means v i.x (omega arith) (satisfies_right v (int_clauses i.y) (int_clauses i.x) h);
      y = int_means v i.y (omega arith) (satisfies_left v (int_clauses i.y) (int_clauses i.x) h);
    }

pub record LineFacts (v : Assignment) (e : EdgeLits) (grid : GridSize) (p q : Point) (l : List Point) : Type 0 where
  pub joins : JoinsPoints grid.width grid.height grid.least p q l
  pub reads : ReadsShape v e grid.width l

abbrev pub chosen : {A B : Type 0} → (A → List Point) → A ⊎ B → List Point
chosen f (inl a) = f a
chosen f (inr b) = []

chosen_is : {A B : Type 0} (f : A → List Point) (P : List Point → Type 0) (s : A ⊎ B) → ((a : A) → P (f a)) → (B → ⊥) → P (chosen f s)
chosen_is f P (inl a) h none = h a
chosen_is f P (inr b) h none = absurd (none b)

pub record BaseIsRead (v : Assignment) (g : Graph) (grid : GridSize) : Type 0 where
  pub drawing : Drawing
  pub reads : ReadsDrawing v g (drawing_vars g grid) grid.width drawing
  pub loose : IsJoinedOnGrid g grid drawing

pub base_means : (v : Assignment) (g : Graph) (grid : GridSize) → IsTrackGraph g → IsGrid grid → SatisfiesAll v (base_clauses g (drawing_vars g grid) grid) →
    BaseIsRead v g grid
base_means v g grid is size h = record {
  drawing = d;
  reads = record {
    points = λ k lt. subst (λ p. ReadsPoint v (x.node k) p) (sym (place_is k lt)) (node_reads k lt);
    lines = λ e lt. subst (λ (l : List Point). ReadsShape v (x.edge e) grid.width l) (sym (line_is e lt)) (facts e lt).reads;
  };
  loose = record {
    fits = record {
      size = record { places = length-map-range_with_len (λ k. point_of v (x.node k)) 0 n; lines = length-map-range_with_len line_at 0 m };
      are_lines = λ e o lt.
          let few : e < m = let z = length-map-range_with_len line_at 0 m in omega arith in
          let same : get_or d.lines e o ≡ line_at e = get_or-map-range_with_len line_at 0 m e e o few (omega arith) in
          ap is_line same ∙ (facts e few).joins.shape;
    };
    on_grid = λ k lt.
        let r = node_reads k lt in
        let a = r.x.high in
        let b = r.y.high in
        subst (λ p. IsOnGrid grid p) (sym (place_is k lt)) (record { in_width = a; in_height = b });
    joins = λ e lt.
        let ends = is.nodes e lt in
        subst (λ (l : List Point). JoinsPoints grid.width grid.height grid.least (place d (edge g e).west) (place d (edge g e).east) l) (sym (line_is e lt))
        (subst (λ p. JoinsPoints grid.width grid.height grid.least p (place d (edge g e).east) (line_at e)) (sym (place_is (edge g e).west ends.0))
        (subst (λ p. JoinsPoints grid.width grid.height grid.least (point_of v (x.node (edge g e).west)) p (line_at e)) (sym (place_is (edge g e).east ends.1))
        (facts e lt).joins));
  };
}
  where
    x : DrawingVars
    x = drawing_vars g grid

    n : ℕ
    n = length g.nodes

    m : ℕ
    m = length g.edges

    node_reads : (k : ℕ) → k < n → ReadsPoint v (x.node k) (point_of v (x.node k))
    node_reads k lt = node_means v grid (west_rank g k) (satisfies_at v (λ j. node_clauses (x.node j)) 0 n
        (satisfies_left v (each (λ j. node_clauses (x.node j)) 0 n) (each (edge_part g x grid) 0 m) h) k (omega arith) (omega arith))

    edge_reads : (e : ℕ) → e < m → LineIsRead v (x.edge e) grid.width grid.height grid.least (point_of v (x.node (edge g e).west))
        (point_of v (x.node (edge g e).east))
    edge_reads e lt =
        let ends = is.nodes e lt in
        let west = node_reads (edge g e).west ends.0 in
        let east = node_reads (edge g e).east ends.1 in
        models_are_lines v (x.edge e) (x.node (edge g e).west) (x.node (edge g e).east) grid.least grid.height grid.width (point_of v (x.node (edge g e).west))
        (point_of v (x.node (edge g e).east))
        (rows_of (edge_first g grid e) grid.height grid.width) size.some_least east.x.high west.x west.y east.x east.y
        (satisfies_at v (edge_part g x grid) 0 m (satisfies_right v (each (λ j. node_clauses (x.node j)) 0 n) (each (edge_part g x grid) 0 m) h) e (omega arith)
        (omega arith))

    line_at : ℕ → List Point
    line_at e = chosen (λ a. (edge_reads e a.1).line) (leb_tells (suc e) m)

    facts : (e : ℕ) → e < m → LineFacts v (x.edge e) grid (point_of v (x.node (edge g e).west)) (point_of v (x.node (edge g e).east)) (line_at e)
    facts e lt = chosen_is (λ a. (edge_reads e a.1).line) (LineFacts v (x.edge e) grid (point_of v (x.node (edge g e).west))
        (point_of v (x.node (edge g e).east))) (leb_tells (suc e) m)
        (λ a. record { joins = (edge_reads e a.1).joins; reads = shape_of v (x.edge e) grid.width (edge_reads e a.1).line (edge_reads e a.1).reads })
        (λ b. let far = b.1 in omega arith)

    d : Drawing
    d = drawing (map (λ k. point_of v (x.node k)) (range_with_len 0 n)) (map line_at (range_with_len 0 m))

    place_is : (k : ℕ) → k < n → place d k ≡ point_of v (x.node k)
    place_is k lt = get_or-map-range_with_len (λ k. point_of v (x.node k)) 0 n k k _ lt (omega arith)

    line_is : (e : ℕ) → e < m → line d e ≡ line_at e
    line_is e lt = get_or-map-range_with_len line_at 0 m e e [] lt (omega arith)

-- a lawful drawing has laws 1 and 3
pub lawful_loose : (g : Graph) (above : ℕ → ℕ → Bool) (grid : GridSize) (d : Drawing) → IsTrackGraph g → Lawful g above grid d → IsJoinedOnGrid g grid d
lawful_loose g above grid d is h = record {
  fits = h.fits;
  on_grid = λ n lt. h.laws (NodeOnGrid n) lt;
  joins = λ e lt.
      let shape : is_line (line d e) ≡ true = h.fits.are_lines e [] (let z = h.fits.size.lines in omega arith) in
      let ends = h.laws (Joined e) lt in
      let rise = ends_rise (line d e) shape in
      let w : (west_end (line d e)).x ≡ (place d (edge g e).west).x = ap (λ (p : Point). p.x) ends.begins in
      let z : (east_end (line d e)).x ≡ (place d (edge g e).east).x = ap (λ (p : Point). p.x) ends.ends in
      record {
        shape = shape;
        begins = ends.begins;
        ends = ends.ends;
        long = ends.is_long;
        in_width = (h.laws (NodeOnGrid (edge g e).east) (is.nodes e lt).1).in_width;
        in_height = λ c. on_grid_heights grid (line d e) c shape (h.laws (LineOnGrid e) lt);
      };
}

-- WHERE NODES AND EDGES LIE
abbrev pub base_last : Graph → GridSize → ℕ
base_last g grid = laws_first g grid - 1

pub edge_spot_in : (g : Graph) (grid : GridSize) (e : ℕ) → IsGrid grid → laws_first g grid ≤ VARS + 1 → e < length g.edges →
    EdgeIsPlaced (edge_first g grid e) grid.height grid.width × (edge_first g grid e + edge_size grid.height grid.width ≤ laws_first g grid)
edge_spot_in g grid e is few lt =
    let all = blocks (edge_size grid.height grid.width) (length g.edges) e lt in (
      record {
        spot = record { from = omega arith; rows = is.height_limit; some_columns = is.some_width; columns = is.width_limit };
        to = omega arith;
      },
      omega arith,
    )

pub node_spot : (g : Graph) (grid : GridSize) (n : ℕ) → n < length g.nodes →
    1 + west_rank g n * (grid.height + grid.width) + grid.height + grid.width ≤ edges_first g grid
node_spot g grid n lt = let all = blocks (grid.height + grid.width) (length g.nodes) (west_rank g n) (rank_below g n lt) in omega arith

pub edge_literals : (first high width vars : ℕ) → EdgeIsPlaced first high width → first + edge_size high width ≤ vars + 1 →
    EdgeThere vars (edge_lits first high width) width
edge_literals first high width vars p to =
    let w = whole_literals first high width vars p.spot to in
    record {
      inside = λ c le. inside_there first high width vars c p.spot to le;
      up = λ c lt. column_there first high width vars c 1 p.spot to lt (omega arith);
      down = λ c lt. column_there first high width vars c 2 p.spot to lt (omega arith);
      height = λ c le. height_there first high width vars c p.spot to le;
      whole = record {
        west_up = w.west_up;
        west_down = w.west_down;
        east_up = w.east_up;
        east_down = w.east_down;
        first_bend = w.first_bend;
        second_bend = w.second_bend;
      };
    }

pub base_vars : (g : Graph) (grid : GridSize) → IsGrid grid → laws_first g grid ≤ VARS + 1 → AreVars (base_last g grid) g (drawing_vars g grid) grid.width
base_vars g grid is few = record {
  node_x = λ n lt. let s = node_spot g grid n lt in record { from = omega arith; to = omega arith };
  node_y = λ n lt. let s = node_spot g grid n lt in record { from = omega arith; to = omega arith };
  edge = λ e lt. let s = edge_spot_in g grid e is few lt in let top = s.1 in edge_literals (edge_first g grid e) grid.height grid.width (base_last g grid) s.0
      (omega arith);
}

pub base_there : (g : Graph) (grid : GridSize) → IsTrackGraph g → IsGrid grid → laws_first g grid ≤ VARS + 1 →
    AllThere (base_last g grid) (base_clauses g (drawing_vars g grid) grid)
base_there g grid is size few =
    let x = drawing_vars g grid in
    let last = base_last g grid in
    let a = base_vars g grid size few in
    all_there_append last (each (λ n. node_clauses (x.node n)) 0 (length g.nodes)) (each (edge_part g x grid) 0 (length g.edges))
    (all_there_each last (λ n. node_clauses (x.node n)) 0 (length g.nodes) (λ k from to. all_there_append last (int_clauses (x.node k).y)
    (int_clauses (x.node k).x)
    (int_there last (x.node k).y (a.node_y k (omega arith))) (int_there last (x.node k).x (a.node_x k (omega arith)))))
    (all_there_each last (edge_part g x grid) 0 (length g.edges) (λ e from to.
    let lt : e < length g.edges = omega arith in
    let s = edge_spot_in g grid e size few lt in
    let top = s.1 in
    let ends = is.nodes e lt in
    edge_there (edge_first g grid e) grid.height grid.width last grid.least (x.node (edge g e).west) (x.node (edge g e).east) s.0.spot (omega arith)
    (a.node_x (edge g e).west ends.0) (a.node_y (edge g e).west ends.0) (a.node_x (edge g e).east ends.1) (a.node_y (edge g e).east ends.1)))

-- FROM A DRAWING
abbrev pub node_place : GridSize → ℕ → ℕ
node_place grid k = 1 + k * (grid.height + grid.width)

point_kept : (grid : GridSize) (k : ℕ) (p : Point) (v w : Assignment) → ((y : ℕ) → y < node_place grid (k + 1) → w y ≡ v y) →
    ReadsPoint v (ints_at_place grid k) p → ReadsPoint w (ints_at_place grid k) p
point_kept grid k p v w same r =
    let one : (k + 1) * (grid.height + grid.width) ≡ k * (grid.height + grid.width) + (grid.height + grid.width) = omega arith in
    record {
      x = reads_same v w (ints_at_place grid k).x p.x (λ y from to. same y (omega arith)) r.x;
      y = reads_same v w (ints_at_place grid k).y p.y (λ y from to. same y (omega arith)) r.y;
    }

point_extends : (grid : GridSize) (k : ℕ) (p : Point) (v : Assignment) → p.x ≤ grid.width → p.y ≤ grid.height →
    Extends (node_place grid k) (grid.height + grid.width) v (λ w. ReadsPoint w (ints_at_place grid k) p)
point_extends grid k p v wide high =
    let i = ints_at_place grid k in
    let rows : size i.y ≡ grid.height = omega arith in
    let columns : size i.x ≡ grid.width = omega arith in
    extends_both (node_place grid k) grid.height grid.width v (λ w. Reads w i.y p.y) (λ w. ReadsPoint w i p)
    (subst (λ count. Extends (node_place grid k) count v (λ w. Reads w i.y p.y)) rows (int_extends v i.y p.y (omega arith) high))
    (λ w same ry. extends_weaker (node_place grid k + grid.height) grid.width w (λ u. Reads u i.x p.x) (λ u. ReadsPoint u i p)
    (λ u later rx. record { x = rx; y = reads_same w u i.y p.y (λ y from to. later.below y (omega arith)) ry })
    (subst (λ count. Extends (node_place grid k + grid.height) count w (λ u. Reads u i.x p.x)) columns (int_extends w i.x p.x (omega arith) wide)))

abbrev pub NodesAreRead : Graph → GridSize → Drawing → Assignment → Type 0
NodesAreRead g grid d w = (n : ℕ) → n < length g.nodes → ReadsPoint w (ints_at_place grid (west_rank g n)) (place d n)

nodes_extend : (g : Graph) (grid : GridSize) (d : Drawing) (v : Assignment) → IsJoinedOnGrid g grid d →
    Extends 1 (length g.nodes * (grid.height + grid.width)) v (NodesAreRead g grid d)
nodes_extend g grid d v loose =
    let zero_first : node_place grid 0 ≡ 1 = omega arith in
    subst (λ first. Extends first (n * step) v (NodesAreRead g grid d)) zero_first
    (extends_weaker (node_place grid 0) (n * step) v (λ w. (k : ℕ) → k < n → Q k w) (NodesAreRead g grid d)
    (λ w same h j lt. h (west_rank g j) (rank_below g j lt) j lt refl)
    (each_extends (node_place grid) (λ k. step) next (λ w. ⊤) (λ u w same h. tt) Q keeps n (n * step) (omega arith) one v tt))
  where
    step : ℕ
    step = grid.height + grid.width

    n : ℕ
    n = length g.nodes

    -- the node at the place, if there is one, is read
    Q : ℕ → Assignment → Type 0
    Q k w = (j : ℕ) → j < n → west_rank g j ≡ k → ReadsPoint w (ints_at_place grid (west_rank g j)) (place d j)

    next : (k : ℕ) → node_place grid (k + 1) ≡ node_place grid k + step
    next k = let more : (k + 1) * (grid.height + grid.width) ≡ k * (grid.height + grid.width) + (grid.height + grid.width) = omega arith in omega arith

    keeps : (k : ℕ) (u w : Assignment) → ((y : ℕ) → y < node_place grid (k + 1) → w y ≡ u y) → Q k u → Q k w
    keeps k u w same h j lt e = point_kept grid (west_rank g j) (place d j) u w (subst (λ i. (y : ℕ) → y < node_place grid (i + 1) → w y ≡ u y) (sym e) same)
        (h j lt e)

    here : (k i j : ℕ) (w : Assignment) → IsAtPlace g k i → j < n → west_rank g j ≡ k → ReadsPoint w (ints_at_place grid k) (place d i) →
        ReadsPoint w (ints_at_place grid (west_rank g j)) (place d j)
    here k i j w at lt e r =
        subst (λ o. ReadsPoint w (ints_at_place grid o) (place d j)) (sym e)
        (subst (λ o. ReadsPoint w (ints_at_place grid k) (place d o)) (rank_once g i j at.within lt (at.place ∙ sym e)) r)

    one : (k : ℕ) (u : Assignment) → k < n → ⊤ → Extends (node_place grid k) step u (Q k)
    one k u lt h = elim (at_place g k) [
      | inl found ↦
          let i = found.0 in
          let at = found.1 in
          let on = loose.on_grid i at.within in
          extends_weaker (node_place grid k) step u (λ w. ReadsPoint w (ints_at_place grid k) (place d i)) (Q k) (λ w same r j in_j e. here k i j w at in_j e r)
          (point_extends grid k (place d i) u on.in_width on.in_height)
      | inr none ↦ record { to = u; same = same_none (node_place grid k) step u; holds = λ j in_j e. absurd (none j in_j e) }
    ]

-- the line is read, and satisfies the edge's clauses
pub record EdgeHolds (w : Assignment) (g : Graph) (grid : GridSize) (d : Drawing) (e : ℕ) : Type 0 where
  pub reads : ReadsShape w ((drawing_vars g grid).edge e) grid.width (line d e)
  pub satisfies : SatisfiesAll w (edge_part g (drawing_vars g grid) grid e)

pub record BaseHolds (w : Assignment) (g : Graph) (grid : GridSize) (d : Drawing) : Type 0 where
  pub reads : ReadsDrawing w g (drawing_vars g grid) grid.width d
  pub satisfies : SatisfiesAll w (base_clauses g (drawing_vars g grid) grid)

before_edges : (g : Graph) (grid : GridSize) (k e : ℕ) → k < length g.nodes → LieBefore (edge_first g grid e) (ints_at_place grid (west_rank g k))
before_edges g grid k e lt = let s = node_spot g grid k lt in record { x = omega arith; y = omega arith }

edges_extend : (g : Graph) (grid : GridSize) (d : Drawing) (v : Assignment) → IsTrackGraph g → IsGrid grid → laws_first g grid ≤ VARS + 1 →
    IsJoinedOnGrid g grid d → NodesAreRead g grid d v → Extends (edges_first g grid) (length g.edges * edge_size grid.height grid.width) v
    (λ w. (e : ℕ) → e < length g.edges → EdgeHolds w g grid d e)
edges_extend g grid d v is size few loose nodes =
    let zero_first : edge_first g grid 0 ≡ edges_first g grid = omega arith in
    subst (λ first. Extends first (m * step) v (λ w. (e : ℕ) → e < m → EdgeHolds w g grid d e)) zero_first
    (extends_weaker (edge_first g grid 0) (m * step) v (λ w. (k : ℕ) → k < m → Q k w) (λ w. (e : ℕ) → e < m → EdgeHolds w g grid d e)
    (λ w same h k lt. h k lt lt)
    (each_extends (edge_first g grid) (λ k. step) next (NodesAreRead g grid d) stays Q keeps m (m * step) (omega arith) one v nodes))
  where
    step : ℕ
    step = edge_size grid.height grid.width

    m : ℕ
    m = length g.edges

    x : DrawingVars
    x = drawing_vars g grid

    Q : ℕ → Assignment → Type 0
    Q e w = e < m → EdgeHolds w g grid d e

    next : (k : ℕ) → edge_first g grid (k + 1) ≡ edge_first g grid k + step
    next k = let more : (k + 1) * step ≡ k * step + step = omega arith in omega arith

    stays : (u w : Assignment) → ((y : ℕ) → y < edge_first g grid 0 → w y ≡ u y) → NodesAreRead g grid d u → NodesAreRead g grid d w
    stays u w same h k lt = point_kept grid (west_rank g k) (place d k) u w (λ y below. same y
        (let s = node_spot g grid k lt in let more : (west_rank g k + 1) * (grid.height + grid.width) ≡ west_rank g k * (grid.height + grid.width) +
        (grid.height + grid.width) = omega arith in omega arith)) (h k lt)

    keeps : (e : ℕ) (u w : Assignment) → ((y : ℕ) → y < edge_first g grid (e + 1) → w y ≡ u y) → Q e u → Q e w
    keeps e u w same h lt =
        let s = edge_spot_in g grid e size few lt in
        let last = edge_first g grid (e + 1) - 1 in
        let more = next e in
        let to : edge_first g grid e + edge_size grid.height grid.width ≤ last + 1 = omega arith in
        let below : (y : ℕ) → y ≤ last → w y ≡ u y = λ y le. same y (omega arith) in
        let ends = is.nodes e lt in
        let a = node_spot g grid (edge g e).west ends.0 in
        let b = node_spot g grid (edge g e).east ends.1 in
        let k = h lt in
        record {
          reads = shape_stays u w last (x.edge e) grid.width (line d e) (edge_literals (edge_first g grid e) grid.height grid.width last s.0 to) below k.reads;
          satisfies = satisfies_all_same u w last (edge_part g x grid e)
              (edge_there (edge_first g grid e) grid.height grid.width last grid.least (x.node (edge g e).west) (x.node (edge g e).east) s.0.spot to
              (record {
                from = omega arith;
                to = omega arith;
              }) (record {
                from = omega arith;
                to = omega arith;
              }) (record { from = omega arith; to = omega arith }) (record { from = omega arith; to = omega arith }))
              below k.satisfies;
        }

    one : (e : ℕ) (u : Assignment) → e < m → NodesAreRead g grid d u → Extends (edge_first g grid e) step u (Q e)
    one e u lt h =
        let ends = is.nodes e lt in
        let west = h (edge g e).west ends.0 in
        let east = h (edge g e).east ends.1 in
        let first = edge_first g grid e in
        extends_weaker first step u (λ w. ReadsLine w (x.edge e) grid.width (line d e) × SatisfiesAll w (edge_part g x grid e)) (Q e)
        (λ w same r few. record { reads = shape_of w (x.edge e) grid.width (line d e) r.0; satisfies = r.1 })
        (line_extends u first grid.height grid.width grid.least (x.node (edge g e).west) (x.node (edge g e).east) (place d (edge g e).west)
        (place d (edge g e).east) (line d e)
        (before_edges g grid (edge g e).west e ends.0) (before_edges g grid (edge g e).east e ends.1) west.x west.y east.x east.y (loose.joins e lt))

pub base_extends : (g : Graph) (grid : GridSize) (d : Drawing) (v : Assignment) → IsTrackGraph g → IsGrid grid → laws_first g grid ≤ VARS + 1 →
    IsJoinedOnGrid g grid d → Extends 1 (base_last g grid) v (λ w. BaseHolds w g grid d)
base_extends g grid d v is size few loose =
    let total : n * (grid.height + grid.width) + m * edge_size grid.height grid.width ≡ base_last g grid = omega arith in
    subst (λ t. Extends 1 t v (λ w. BaseHolds w g grid d)) total
    (extends_both 1 (n * (grid.height + grid.width)) (m * edge_size grid.height grid.width) v (NodesAreRead g grid d) (λ w. BaseHolds w g grid d)
    (nodes_extend g grid d v loose)
    (λ w same nodes. extends_weaker (edges_first g grid) (m * edge_size grid.height grid.width) w (λ u. (e : ℕ) → e < m → EdgeHolds u g grid d e)
    (λ u. BaseHolds u g grid d)
    (λ u later edges. both u (λ k lt. point_kept grid (west_rank g k) (place d k) w u
    (λ y below. later.below y (let s = node_spot g grid k lt in let more : (west_rank g k + 1) * (grid.height + grid.width) ≡ west_rank g k *
    (grid.height + grid.width) + (grid.height + grid.width) = omega arith in omega arith)) (nodes k lt)) edges)
    (edges_extend g grid d w is size few loose nodes)))
  where
    n : ℕ
    n = length g.nodes

    m : ℕ
    m = length g.edges

    x : DrawingVars
    x = drawing_vars g grid

    both : (u : Assignment) → NodesAreRead g grid d u → ((e : ℕ) → e < m → EdgeHolds u g grid d e) → BaseHolds u g grid d
    both u nodes edges = record {
      reads = record { points = nodes; lines = λ e lt. (edges e lt).reads };
      satisfies = satisfies_append u (each (λ k. node_clauses (x.node k)) 0 n) (each (edge_part g x grid) 0 m)
          (satisfies_each u (λ k. node_clauses (x.node k)) 0 n (λ k from to. let r = nodes k (omega arith) in satisfies_append u (int_clauses (x.node k).y)
          (int_clauses (x.node k).x) (int_holds u (x.node k).y (place d k).y r.y) (int_holds u (x.node k).x (place d k).x r.x)))
          (satisfies_each u (edge_part g x grid) 0 m (λ e from to. (edges e (omega arith)).satisfies));
    }

-- the six variables of the whole line are there
pub edge_whole : (e : EdgeSpot) (vars : ℕ) → EdgeIsPlaced e.first e.high e.width → e.first + edge_size e.high e.width ≤ vars + 1 → WholeThere vars (lits_of e)
edge_whole e vars p to = (edge_literals e.first e.high e.width vars p to).whole

pub spot_within : (g : Graph) (grid : GridSize) (e : ℕ) → e < length g.edges → edge_first g grid e + edge_size grid.height grid.width ≤ laws_first g grid
spot_within g grid e lt = let all = blocks (edge_size grid.height grid.width) (length g.edges) e lt in omega arith

pub node_x_there : (g : Graph) (grid : GridSize) (n vars : ℕ) (i : IntVars) → n < length g.nodes → laws_first g grid ≤ vars + 1 →
    i ≡ (ints_at_place grid (west_rank g n)).x → IntIsThere vars i
node_x_there g grid n vars i lt few e =
    let s = node_spot g grid n lt in
    subst (λ (k : IntVars). IntIsThere vars k) (sym e) (record { from = omega arith; to = omega arith })
