-- A whole formula: when it is one, and what its models say.
use Rattle.std.proofs.Common.{◌≡◌, ℕ, ◌≤◌, ◌<◌, List, [], ◌∷◌, ◌+◌, ◌++◌, length, sym, ◌∙◌, ap, subst, append-nil, arith, Ok, Err}
use Rattle.std.specs.Prelude.{Result, IfOk, Bool}
use Rattle.std.proofs.lemmas.List.{same_lists, get_or_default}
use Rattle.plan_core.specs.declared.point.Point.{Point}
use Rattle.plan_core.specs.Grid.{GridSize, IsGrid}
use Rattle.plan_core.specs.Graph.{Graph, edge, IsTrackGraph}
use Rattle.plan_core.specs.Line.{west_end, east_end, origin, height}
use Rattle.plan_core.specs.Drawing.{Drawing, drawing, place, line}
use Rattle.plan_core.specs.Lawful.{Lawful}
use Rattle.plan_core.specs.Values.{values_of}
use Rattle.cnf_core.specs.declared.fault.CnfFault.{CnfFault}
use Rattle.cnf_core.specs.Clause.{Clauses}
use Rattle.cnf_core.specs.Assignment.{Assignment, SatisfiesAll}
use Rattle.cnf_core.proofs.ClauseLemmas.{satisfies_left}
use Rattle.order_int.proofs.IntLemmas.{reads_once}
use Rattle.edge_shape.proofs.LineHeights.{point_is}
use Rattle.edge_shape.proofs.UniqueLemmas.{same_heights_same_line}
use Rattle.track_order.specs.Order.{EdgeOrder, is_above, is_overlap, IsOrderOf}
use Rattle.cnf_laws.specs.Stands.{DrawingVars, StandsFor, IsJoinedOnGrid}
use Rattle.cnf_laws.specs.Expected.{instances, formula_clauses, formula_size}
use Rattle.drawing_cnf.specs.Bounded.{Bound, size_of_bound, bounds_clauses, AreBehind, Tells, SoundWith}
use Rattle.drawing_cnf.specs.Encoding.{Encoding, encoded_vars}
use Rattle.drawing_cnf.specs.Whole.{drawing_clauses, drawing_last, bounds_last, IsWhole}
use Rattle.cnf_laws.proofs.BaseLemmas.{lawful_loose}
use Rattle.drawing_cnf.proofs.BoundedLemmas.{ReadsLawful, models_read, sound_with}
use Rattle.cnf_laws.proofs.MainLemmas.{all_listed, order_tables}

-- A FORMULA WITHOUT BOUNDS
pub whole_of : (e : Encoding) (g : Graph) (o : EdgeOrder) (grid : GridSize) → e.graph ≡ g → e.order ≡ o → e.grid ≡ grid → IsOrderOf g o →
    e.formula.clauses ≡ formula_clauses g (is_above o) (is_overlap o) grid → e.formula.vars ≡ formula_size g (is_above o) (is_overlap o) grid → e.bounds ≡ [] →
    IsWhole e
whole_of e g o grid eg eo ed h clauses vars none =
    let size : e.formula.vars ≡ drawing_last e =
    vars ∙ ap (λ (k : Graph). formula_size k (is_above o) (is_overlap o) grid) (sym eg)
    ∙ ap (λ (k : EdgeOrder). formula_size e.graph (is_above k) (is_overlap k) grid) (sym eo)
    ∙ ap (λ (k : GridSize). formula_size e.graph (is_above e.order) (is_overlap e.order) k) (sym ed) in
    record {
      order = subst (λ (k : Graph). IsOrderOf k e.order) (sym eg) (subst (λ (k : EdgeOrder). IsOrderOf g k) (sym eo) h);
      clauses =
          clauses ∙ ap (λ (k : Graph). formula_clauses k (is_above o) (is_overlap o) grid) (sym eg)
          ∙ ap (λ (k : EdgeOrder). formula_clauses e.graph (is_above k) (is_overlap k) grid) (sym eo)
          ∙ ap (λ (k : GridSize). formula_clauses e.graph (is_above e.order) (is_overlap e.order) k) (sym ed) ∙ sym (append-nil (drawing_clauses e))
          ∙ ap (λ (bs : List Bound). drawing_clauses e ++ bounds_clauses e.graph (encoded_vars e) e.grid bs) (sym none);
      behind = subst (λ (bs : List Bound). AreBehind e.graph (encoded_vars e) e.grid (drawing_last e) bs) (sym none) tt;
      vars = size ∙ ap (λ (bs : List Bound). bounds_last e.graph (encoded_vars e) e.grid (drawing_last e) bs) (sym none);
    }

pub whole_made : (r : Result Encoding CnfFault) (g : Graph) (o : EdgeOrder) (grid : GridSize) → IsOrderOf g o → IfOk r (λ e. e.graph ≡ g) →
    IfOk r (λ e. e.order ≡ o) → IfOk r (λ e. e.grid ≡ grid) → IfOk r (λ e. e.formula.clauses ≡ formula_clauses g (is_above o) (is_overlap o) grid) →
    IfOk r (λ e. e.formula.vars ≡ formula_size g (is_above o) (is_overlap o) grid) → IfOk r (λ e. e.bounds ≡ []) → IfOk r (λ e. IsWhole e)
whole_made (Ok e) g o grid h eg eo ed clauses vars none = whole_of e g o grid eg eo ed h clauses vars none
whole_made (Err x) g o grid h eg eo ed clauses vars none = tt

-- bounds lie behind the variable behind which the first one does
pub last_rises : (g : Graph) (x : DrawingVars) (grid : GridSize) (vars : ℕ) (bounds : List Bound) → AreBehind g x grid vars bounds →
    vars ≤ bounds_last g x grid vars bounds
last_rises g x grid vars [] h = omega arith
last_rises g x grid vars (b ∷ rest) h = let low = h.0 in omega (arith, last_rises g x grid (b.last + size_of_bound g x grid b) rest h.1)

-- ONE DRAWING
-- drawings with laws 1 and 3 for which an assignment stands are one
pub one_joined : (v : Assignment) (g : Graph) (grid : GridSize) (x : DrawingVars) (a b : Drawing) → IsTrackGraph g → IsJoinedOnGrid g grid a →
    IsJoinedOnGrid g grid b → StandsFor v g x a → StandsFor v g x b → a ≡ b
one_joined v g grid x a b is la lb sa sb =
    ap (λ (ps : List Point). drawing ps a.lines) places ∙ ap (λ (ls : List (List Point)). drawing b.places ls) lines
  where
    point : (n : ℕ) → n < length g.nodes → place a n ≡ place b n
    point n lt =
        point_is (λ c. (place a n).y) (place a n).x (place b n) (reads_once v (x.node n).x (place a n).x (place b n).x (sa.columns n lt) (sb.columns n lt))
        (reads_once v (x.node n).y (place a n).y (place b n).y (sa.rows n lt) (sb.rows n lt))

    places : a.places ≡ b.places
    places =
        let na = la.fits.size.places in
        let nb = lb.fits.size.places in
        same_lists a.places b.places (omega arith) (λ k p lt.
        get_or_default a.places k p origin lt ∙ point k (omega arith) ∙ get_or_default b.places k origin p (omega arith))

    one_line : (e : ℕ) → e < length g.edges → line a e ≡ line b e
    one_line e lt =
        let ja = la.joins e lt in
        let jb = lb.joins e lt in
        let ends = is.nodes e lt in
        let wa : (west_end (line a e)).x ≡ (place a (edge g e).west).x = ap (λ (p : Point). p.x) ja.begins in
        let wb : (west_end (line b e)).x ≡ (place b (edge g e).west).x = ap (λ (p : Point). p.x) jb.begins in
        let za : (east_end (line a e)).x ≡ (place a (edge g e).east).x = ap (λ (p : Point). p.x) ja.ends in
        let zb : (east_end (line b e)).x ≡ (place b (edge g e).east).x = ap (λ (p : Point). p.x) jb.ends in
        let w : (place a (edge g e).west).x ≡ (place b (edge g e).west).x = ap (λ (p : Point). p.x) (point (edge g e).west ends.0) in
        let z : (place a (edge g e).east).x ≡ (place b (edge g e).east).x = ap (λ (p : Point). p.x) (point (edge g e).east ends.1) in
        same_heights_same_line (line a e) (line b e) ja.shape jb.shape (omega arith) (omega arith)
        (λ c from to. reads_once v ((x.edge e).height c) (height (line a e) c) (height (line b e) c)
        (sa.heights e lt c (record { from_west = from; to_east = to })) (sb.heights e lt c (record { from_west = omega arith; to_east = omega arith })))

    lines : a.lines ≡ b.lines
    lines =
        let ma = la.fits.size.lines in
        let mb = lb.fits.size.lines in
        same_lists a.lines b.lines (omega arith) (λ k l lt.
        get_or_default a.lines k l [] lt ∙ one_line k (omega arith) ∙ get_or_default b.lines k [] l (omega arith))

-- so are lawful ones
pub one_drawing : (v : Assignment) (g : Graph) (above : ℕ → ℕ → Bool) (grid : GridSize) (x : DrawingVars) (a b : Drawing) → IsTrackGraph g →
    Lawful g above grid a → Lawful g above grid b → StandsFor v g x a → StandsFor v g x b → a ≡ b
one_drawing v g above grid x a b is la lb sa sb = one_joined v g grid x a b is (lawful_loose g above grid a is la) (lawful_loose g above grid b is lb) sa sb

-- A WHOLE FORMULA
pub whole_reads : (e : Encoding) → IsTrackGraph e.graph → IsGrid e.grid → IsWhole e → (v : Assignment) → SatisfiesAll v e.formula.clauses →
    ReadsLawful v e.graph (is_above e.order) e.grid
whole_reads e is size w v h =
    models_read v e.graph (is_above e.order) e.grid (instances e.graph (is_above e.order) (is_overlap e.order)) is size
    (all_listed e.graph (is_above e.order) (is_overlap e.order) (order_tables e.graph e.order w.order))
    (satisfies_left v (drawing_clauses e) (bounds_clauses e.graph (encoded_vars e) e.grid e.bounds) (subst (λ (cs : Clauses). SatisfiesAll v cs) w.clauses h))

pub whole_sound : (e : Encoding) → IsTrackGraph e.graph → IsGrid e.grid → IsWhole e →
    SoundWith e.graph (is_above e.order) e.grid (encoded_vars e) e.formula.clauses e.bounds
whole_sound e is size w v h =
    sound_with e.graph (is_above e.order) e.grid (instances e.graph (is_above e.order) (is_overlap e.order)) e.bounds is size
    (all_listed e.graph (is_above e.order) (is_overlap e.order) (order_tables e.graph e.order w.order)) v
    (subst (λ (cs : Clauses). SatisfiesAll v cs) w.clauses h)

-- a model that stands for a lawful drawing tells its values
pub whole_tells : (e : Encoding) (v : Assignment) (d : Drawing) → IsTrackGraph e.graph → IsGrid e.grid → IsWhole e → SatisfiesAll v e.formula.clauses →
    Lawful e.graph (is_above e.order) e.grid d → StandsFor v e.graph (encoded_vars e) d → Tells v (values_of d) e.bounds
whole_tells e v d is size w h lawful stands =
    let s = whole_sound e is size w v h in
    subst (λ (b : Drawing). Tells v (values_of b) e.bounds) (one_drawing v e.graph (is_above e.order) e.grid (encoded_vars e) s.drawing d is s.lawful lawful
    s.stands stands) s.tells
