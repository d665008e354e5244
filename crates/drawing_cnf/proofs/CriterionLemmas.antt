-- One bound more behind a whole formula.
use Rattle.std.proofs.Common.{◌≡◌, ℕ, ◌+◌, ◌≤◌, List, [], ◌∷◌, ◌++◌, refl, sym, ◌∙◌, ap, subst, arith, append_assoc, append-nil, Ok, Err}
use Rattle.std.specs.Prelude.{Result, OnOk}
use Rattle.plan_core.specs.declared.criterion.Criterion.{Criterion}
use Rattle.plan_core.specs.declared.criterion.Criterion.TheVariants.{Height, Bends, Diagonal, Width}
use Rattle.plan_core.specs.Grid.{GridSize, IsGrid}
use Rattle.plan_core.specs.Graph.{Graph, IsTrackGraph}
use Rattle.plan_core.specs.Values.{limit_of}
use Rattle.port_graph.specs.StationGraph.{IsStationGraph}
use Rattle.cnf_core.specs.declared.fault.CnfFault.{CnfFault}
use Rattle.cnf_core.specs.declared.limits.TheConstants.{VARS}
use Rattle.cnf_core.specs.Added.{AddsBlock}
use Rattle.cnf_core.specs.Clause.{Clauses}
use Rattle.cnf_core.specs.Formula.{IsFormula}
use Rattle.cnf_core.specs.Assignment.{SatisfiesAll}
use Rattle.track_order.specs.Order.{is_above, is_overlap}
use Rattle.cnf_laws.specs.Stands.{DrawingVars}
use Rattle.cnf_laws.specs.Expected.{laws_first, instances}
use Rattle.drawing_cnf.specs.Bounds.{bound_size}
use Rattle.drawing_cnf.specs.Bounded.{Bound, clauses_of_bound, size_of_bound, bounds_clauses, AreBehind, CoversWith}
use Rattle.drawing_cnf.specs.Encoding.{Encoding, encoding, encoded_vars}
use Rattle.drawing_cnf.specs.declared.kept_bound.KeptBound.{KeptBound}
use Rattle.drawing_cnf.specs.Kept.{AreKept, HasSums}
use Rattle.drawing_cnf.specs.Layout.{Layout, layout_of}
use Rattle.drawing_cnf.specs.Whole.{drawing_clauses, drawing_last, bounds_last, IsWhole}
use Rattle.drawing_cnf.specs.Behind.{bound_behind, clauses_behind, size_behind, HasGrown}
use Rattle.cnf_laws.proofs.MainLemmas.{few_variables, all_listed, order_tables}
use Rattle.drawing_cnf.proofs.WholeLemmas.{last_rises, whole_sound, whole_tells}
use Rattle.drawing_cnf.proofs.BoundedLemmas.{covers_with}
use Rattle.drawing_cnf.proofs.BoundNames.{bound_named}

behind_more : (g : Graph) (x : DrawingVars) (grid : GridSize) (vars : ℕ) (bounds : List Bound) (b : Bound) → AreBehind g x grid vars bounds →
    bounds_last g x grid vars bounds ≤ b.last → AreBehind g x grid vars (bounds ++ b ∷ [])
behind_more g x grid vars [] b h le = (le, tt)
behind_more g x grid vars (a ∷ rest) b h le = (h.0, behind_more g x grid (a.last + size_of_bound g x grid a) rest b h.1 le)

last_more : (g : Graph) (x : DrawingVars) (grid : GridSize) (vars : ℕ) (bounds : List Bound) (b : Bound) →
    bounds_last g x grid vars (bounds ++ b ∷ []) ≡ b.last + size_of_bound g x grid b
last_more g x grid vars [] b = refl
last_more g x grid vars (a ∷ rest) b = last_more g x grid (a.last + size_of_bound g x grid a) rest b

clauses_more : (g : Graph) (x : DrawingVars) (grid : GridSize) (bounds : List Bound) (b : Bound) →
    bounds_clauses g x grid (bounds ++ b ∷ []) ≡ bounds_clauses g x grid bounds ++ clauses_of_bound g x grid b
clauses_more g x grid [] b = append-nil (clauses_of_bound g x grid b)
clauses_more g x grid (a ∷ rest) b = ap (λ (cs : Clauses). clauses_of_bound g x grid a ++ cs) (clauses_more g x grid rest b)
    ∙ sym (append_assoc (clauses_of_bound g x grid a) (bounds_clauses g x grid rest) (clauses_of_bound g x grid b))

-- the variables of nodes and edges lie before the last one
pub whole_there : (e : Encoding) → IsWhole e → laws_first e.graph e.grid ≤ e.formula.vars + 1
whole_there e w =
    let at = w.vars in
    let rises = last_rises e.graph (encoded_vars e) e.grid (drawing_last e) e.bounds w.behind in
    omega arith

-- with its clauses and variables behind them, and with it among the bounds
whole_more : (e f : Encoding) (c : Criterion) (cap : ℕ) → layout_of f ≡ layout_of e → f.bounds ≡ e.bounds ++ bound_behind e c cap ∷ [] →
    f.formula.vars ≡ e.formula.vars + size_behind e (bound_behind e c cap) →
    f.formula.clauses ≡ e.formula.clauses ++ clauses_behind e (bound_behind e c cap) → IsWhole e → IsWhole f
whole_more e f c cap same eb vars clauses w =
    subst (λ (y : Layout). IsWhole (encoding y.graph y.order y.grid f.formula f.bounds)) (sym same)
    (subst (λ (bs : List Bound). IsWhole (encoding e.graph e.order e.grid f.formula bs)) (sym eb) made)
  where
    x : DrawingVars
    x = encoded_vars e

    b : Bound
    b = bound_behind e c cap

    made : IsWhole (encoding e.graph e.order e.grid f.formula (e.bounds ++ b ∷ []))
    made =
        let at = w.vars in
        record {
          order = w.order;
          clauses = clauses ∙ ap (λ (cs : Clauses). cs ++ clauses_behind e b) w.clauses
              ∙ append_assoc (drawing_clauses e) (bounds_clauses e.graph x e.grid e.bounds) (clauses_behind e b)
              ∙ ap (λ (cs : Clauses). drawing_clauses e ++ cs) (sym (clauses_more e.graph x e.grid e.bounds b));
          behind = behind_more e.graph x e.grid (drawing_last e) e.bounds b w.behind (omega arith);
          vars = vars ∙ sym (last_more e.graph x e.grid (drawing_last e) e.bounds b);
        }

-- a bound that has its sums, behind those that have theirs
pub kept_more : (g : Graph) (grid : GridSize) (ks : List KeptBound) (k : KeptBound) → AreKept g grid ks → HasSums g grid k → AreKept g grid (ks ++ k ∷ [])
kept_more g grid [] k h own = (own, tt)
kept_more g grid (a ∷ ks) k h own = (h.0, kept_more g grid ks k h.1 own)

-- a bound has its variables
pub cap_fits : (g : Graph) (x : DrawingVars) (grid : GridSize) (last cap : ℕ) (c : Criterion) → cap ≤ bound_size g x grid last cap c
cap_fits g x grid last cap Height = omega arith
cap_fits g x grid last cap Bends = omega arith
cap_fits g x grid last cap Diagonal = omega arith
cap_fits g x grid last cap Width = omega arith

-- each lawful drawing has a model that tells its values
pub whole_covers : (e : Encoding) → IsTrackGraph e.graph → IsGrid e.grid → laws_first e.graph e.grid ≤ VARS + 1 → IsWhole e →
    CoversWith e.graph (is_above e.order) e.grid (encoded_vars e) e.formula.clauses e.bounds
whole_covers e is size few w d lawful =
    let laws = instances e.graph (is_above e.order) (is_overlap e.order) in
    let m = covers_with e.graph (is_above e.order) e.grid laws e.bounds is size few
    (all_listed e.graph (is_above e.order) (is_overlap e.order) (order_tables e.graph e.order w.order)).are w.behind d lawful in
    let all : SatisfiesAll m.to e.formula.clauses = subst (λ (cs : Clauses). SatisfiesAll m.to cs) (sym w.clauses) m.satisfies in
    record { to = m.to; satisfies = all; stands = m.stands; tells = whole_tells e m.to d is size w all lawful m.stands }

-- where the call answered Ok
pub grown_after : {T : Type 0} (r : Result T CnfFault) (e f : Encoding) (c : Criterion) (cap longest : ℕ) → IsStationGraph e.graph → IsGrid e.grid →
    IsFormula e.formula → IsFormula f.formula → IsWhole e → cap ≤ limit_of e.graph e.grid c → layout_of f ≡ layout_of e →
    OnOk r (f.bounds ≡ e.bounds ++ bound_behind e c cap ∷ []) →
    AddsBlock r e.formula f.formula (size_behind e (bound_behind e c cap)) (clauses_behind e (bound_behind e c cap)) longest →
    OnOk r (HasGrown e f (bound_behind e c cap))
grown_after (Ok y) e f c cap longest station size before after w limit same bounds adds =
    let s = subst (λ (y : Layout). IsStationGraph y.graph) (sym same) station in
    let d = subst (λ (y : Layout). IsGrid y.grid) (sym same) size in
    let whole = whole_more e f c cap same bounds adds.made adds.added w in
    record {
      layout = same;
      room = adds.room;
      bounds = bounds;
      clauses = adds.added;
      vars = adds.made;
      fits = after.within_room;
      few = after.vars_limit;
      there = (let made = adds.made in let fits = cap_fits e.graph (encoded_vars e) e.grid e.formula.vars cap c in omega (arith, made, fits));
      named = λ k from to. bound_named e.graph e.grid e.formula.vars cap c k size (whole_there e w) before.vars_limit limit from to;
      whole = whole;
      sound = whole_sound f s.track_graph d whole;
      covers = whole_covers f s.track_graph d (few_variables f.graph f.grid d s.few_nodes s.few_edges) whole;
    }
grown_after (Err y) e f c cap longest station size before after w limit same bounds adds = tt
