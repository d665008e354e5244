-- Which variables the expected lines name.
use Rattle.std.proofs.Common.{◌≡◌, ◌≤◌, ◌<◌, ℕ, zero, suc, ◌+◌, Bool, cond, List, [], ◌∷◌, ◌++◌, refl, sym, ◌∙◌, ap, subst, inl, inr, arith}
use Rattle.std.specs.Prelude.{Contains, Some, slice_get, flat_map, nat_eq}
use Rattle.std.proofs.lemmas.List.Elements.{Contains-append_cases}
use Rattle.plan_core.specs.declared.criterion.Criterion.{Criterion}
use Rattle.plan_core.specs.Grid.{GridSize, IsGrid}
use Rattle.plan_core.specs.Graph.{Graph, IsTrackGraph}
use Rattle.port_graph.specs.StationGraph.{IsStationGraph}
use Rattle.cnf_core.specs.declared.literal.Var.{Var}
use Rattle.cnf_core.specs.Lit.{positive_of}
use Rattle.cnf_core.specs.Clause.{IsThere, AllThere}
use Rattle.cnf_core.proofs.ClauseLemmas.{all_there_append, all_there_more}
use Rattle.track_order.specs.Order.{EdgeOrder, is_above, is_overlap, IsOrderOf}
use Rattle.refute_log.specs.declared.line.LogLine.TheVariants.{Bound as BoundLine}
use Rattle.refute_log.specs.Told.{Lines}
use Rattle.refute_log.specs.Log.{given}
use Rattle.refute_log.specs.Expected.{sum_vars_of, vars_after, expected_lines, expected_vars}
use Rattle.cnf_laws.specs.Stands.{DrawingVars}
use Rattle.cnf_laws.specs.Expected.{drawing_vars, instances, formula_clauses, formula_size}
use Rattle.drawing_cnf.specs.Bounds.{bound_size}
use Rattle.drawing_cnf.specs.Bounded.{Bound, bound, clauses_of_bound, size_of_bound, bounds_clauses, bounds_from, expected_bounds, AreBehind}
use Rattle.drawing_cnf.specs.Whole.{bounds_last}
use Rattle.cnf_laws.proofs.ThereLemmas.{AreVars}
use Rattle.cnf_laws.proofs.BaseLemmas.{base_last, base_vars}
use Rattle.cnf_laws.proofs.MainLemmas.{all_listed, order_tables, few_variables}
use Rattle.drawing_cnf.proofs.BoundedLemmas.{from_behind, bound_there, expected_there}
use Rattle.drawing_cnf.proofs.WholeLemmas.{last_rises}
use Rattle.drawing_cnf.proofs.CriterionLemmas.{cap_fits}
use Rattle.drawing_cnf.specs.Lists.{variables_behind, drawing_problem}
use Rattle.drawing_cnf.specs.Layout.{layout, problem_of}
use Rattle.drawing_cnf.proofs.ListLemmas.{positive_is_not_zero, first_line, given_with, IsBoundLine, in_lines, expected_with}

-- ---- the variables of one bound

pub variable_at : (last n k : ℕ) → k < n → slice_get (variables_behind last n) k ≡ Some (record { 0 = last + 1 + k })
variable_at last zero k lt = absurd (omega arith)
variable_at last (suc n) zero lt = ap (λ m. Some (record { 0 = m })) (let e : last + 1 ≡ last + 1 + 0 = omega arith in e)
variable_at last (suc n) (suc k) lt =
    variable_at (last + 1) n k (omega arith) ∙ ap (λ m. Some (record { 0 = m })) (let e : last + 1 + 1 + k ≡ last + 1 + suc k = omega arith in e)

-- ---- how many variables there are

vars_step : (g : Graph) (above overlap : ℕ → ℕ → Bool) (grid : GridSize) (last : ℕ) (c : Criterion) (rest : List Criterion) (caps : Criterion → ℕ) (n : ℕ) →
    caps c ≡ n →
    vars_after (drawing_problem g above overlap grid) last rest caps ≡ bounds_last g (drawing_vars g grid) grid last
    (bounds_from g (drawing_vars g grid) grid caps last rest) →
    ((m : ℕ) → vars_after (drawing_problem g above overlap grid) (last + bound_size g (drawing_vars g grid) grid last m c) rest caps
    ≡ bounds_last g (drawing_vars g grid) grid (last + bound_size g (drawing_vars g grid) grid last m c)
    (bounds_from g (drawing_vars g grid) grid caps (last + bound_size g (drawing_vars g grid) grid last m c) rest)) →
    vars_after (drawing_problem g above overlap grid) last (c ∷ rest) caps ≡ bounds_last g (drawing_vars g grid) grid last
    (bounds_from g (drawing_vars g grid) grid caps last (c ∷ rest))
vars_step g above overlap grid last c rest caps zero e skipped further =
    let p = drawing_problem g above overlap grid in
    let x = drawing_vars g grid in
    let left : vars_after p last (c ∷ rest) caps ≡ vars_after p last rest caps =
    ap (λ n. vars_after p (last + sum_vars_of p last c n) rest caps) e ∙ ap (λ n. vars_after p n rest caps) (let h : last + 0 ≡ last = omega arith in h) in
    let right : bounds_from g x grid caps last (c ∷ rest) ≡ bounds_from g x grid caps last rest =
    ap (λ n. cond (nat_eq n 0) (bounds_from g x grid caps last rest) (bound c last n ∷ bounds_from g x grid caps (last + bound_size g x grid last n c) rest))
    e in
    left ∙ skipped ∙ sym (ap (bounds_last g x grid last) right)
vars_step g above overlap grid last c rest caps (suc n) e skipped further =
    let p = drawing_problem g above overlap grid in
    let x = drawing_vars g grid in
    let left : vars_after p last (c ∷ rest) caps ≡ vars_after p (last + bound_size g x grid last (suc n) c) rest caps =
    ap (λ m. vars_after p (last + sum_vars_of p last c m) rest caps) e in
    let right : bounds_from g x grid caps last (c ∷ rest) ≡ bound c last (suc n) ∷ bounds_from g x grid caps (last + bound_size g x grid last (suc n) c) rest =
    ap (λ m. cond (nat_eq m 0) (bounds_from g x grid caps last rest) (bound c last m ∷ bounds_from g x grid caps (last + bound_size g x grid last m c) rest)) e
    ∙ ap (λ b. cond b (bounds_from g x grid caps last rest) (bound c last (suc n) ∷ bounds_from g x grid caps (last + bound_size g x grid last (suc n) c) rest))
    (positive_is_not_zero n) in
    left ∙ further (suc n) ∙ sym (ap (bounds_last g x grid last) right)

vars_from : (g : Graph) (above overlap : ℕ → ℕ → Bool) (grid : GridSize) (last : ℕ) (order : List Criterion) (caps : Criterion → ℕ) →
    vars_after (drawing_problem g above overlap grid) last order caps ≡ bounds_last g (drawing_vars g grid) grid last
    (bounds_from g (drawing_vars g grid) grid caps last order)
vars_from g above overlap grid last [] caps = refl
vars_from g above overlap grid last (c ∷ rest) caps =
    vars_step g above overlap grid last c rest caps (caps c) refl (vars_from g above overlap grid last rest caps)
    (λ n. vars_from g above overlap grid (last + bound_size g (drawing_vars g grid) grid last n c) rest caps)

pub vars_with : (g : Graph) (above overlap : ℕ → ℕ → Bool) (grid : GridSize) (order : List Criterion) (caps : Criterion → ℕ) →
    expected_vars (drawing_problem g above overlap grid) order caps
    ≡ bounds_last g (drawing_vars g grid) grid (formula_size g above overlap grid) (expected_bounds g above overlap grid order caps)
vars_with g above overlap grid order caps = vars_from g above overlap grid (formula_size g above overlap grid) order caps

-- ---- the clauses

bounds_there : (g : Graph) (x : DrawingVars) (grid : GridSize) (low vars : ℕ) (bounds : List Bound) → IsTrackGraph g → AreVars low g x grid.width → low ≤ vars →
    AreBehind g x grid vars bounds →
    AllThere (bounds_last g x grid vars bounds) (bounds_clauses g x grid bounds)
bounds_there g x grid low vars [] is a le h = tt
bounds_there g x grid low vars (b ∷ rest) is a le h =
    let behind = h.0 in
    let next = b.last + size_of_bound g x grid b in
    let most = bounds_last g x grid next rest in
    all_there_append most (clauses_of_bound g x grid b) (bounds_clauses g x grid rest)
    (all_there_more next most (clauses_of_bound g x grid b) (last_rises g x grid next rest h.1)
    (bound_there low g x grid b.last b.cap b.criterion is a (omega arith)))
    (bounds_there g x grid low next rest is a (omega arith) h.1)

pub expected_clauses_there : (g : Graph) (o : EdgeOrder) (grid : GridSize) (order : List Criterion) (caps : Criterion → ℕ) → IsStationGraph g → IsOrderOf g o →
    IsGrid grid →
    AllThere (expected_vars (problem_of (layout g o grid)) order caps) (flat_map given (expected_lines (problem_of (layout g o grid)) order caps))
expected_clauses_there g o grid order caps is h size =
    let above = is_above o in
    let overlap = is_overlap o in
    let x = drawing_vars g grid in
    let bounds = expected_bounds g above overlap grid order caps in
    let first = formula_size g above overlap grid in
    let last = bounds_last g x grid first bounds in
    let few = few_variables g grid size is.few_nodes is.few_edges in
    let behind : AreBehind g x grid first bounds = from_behind g x grid caps first order in
    let all : AllThere last (formula_clauses g above overlap grid ++ bounds_clauses g x grid bounds) =
    all_there_append last (formula_clauses g above overlap grid) (bounds_clauses g x grid bounds)
    (all_there_more first last (formula_clauses g above overlap grid) (last_rises g x grid first bounds behind)
    (expected_there g above grid (instances g above overlap) is.track_graph size few (all_listed g above overlap (order_tables g o h)).are))
    (bounds_there g x grid (base_last g grid) first bounds is.track_graph (base_vars g grid size few) (omega arith) behind) in
    subst (λ n. AllThere n (flat_map given (expected_lines (problem_of (layout g o grid)) order caps))) (sym (vars_with g above overlap grid order caps))
    (subst (AllThere last) (sym (ap (flat_map given) (expected_with g above overlap grid order caps) ∙ given_with g above overlap grid bounds)) all)

-- ---- the Bound lines

last_of_bound : (g : Graph) (x : DrawingVars) (grid : GridSize) (vars : ℕ) (bounds : List Bound) → AreBehind g x grid vars bounds → (b : Bound) →
    Contains bounds b →
    b.last + size_of_bound g x grid b ≤ bounds_last g x grid vars bounds
last_of_bound g x grid vars [] h b there = absurd (let lt = there.1 in omega arith)
last_of_bound g x grid vars (a ∷ rest) h b there = elim (Contains-append_cases (a ∷ []) rest b there) [
  | inl here ↦
      let e : a ≡ b = first_line a b here in
      subst (λ (d : Bound). d.last + size_of_bound g x grid d ≤ bounds_last g x grid (a.last + size_of_bound g x grid a) rest) e
      (last_rises g x grid (a.last + size_of_bound g x grid a) rest h.1)
  | inr later ↦ last_of_bound g x grid (a.last + size_of_bound g x grid a) rest h.1 b later
]

pub expected_bounds_there : (g : Graph) (o : EdgeOrder) (grid : GridSize) (order : List Criterion) (caps : Criterion → ℕ) (c : Criterion) (k : ℕ) (v : Var) →
    Contains (expected_lines (problem_of (layout g o grid)) order caps) (BoundLine c k v) →
    IsThere (expected_vars (problem_of (layout g o grid)) order caps) (positive_of v.0)
expected_bounds_there g o grid order caps c k v there =
    let above = is_above o in
    let overlap = is_overlap o in
    let x = drawing_vars g grid in
    let bounds = expected_bounds g above overlap grid order caps in
    let first = formula_size g above overlap grid in
    let r = in_lines g above overlap grid bounds c k v (subst (λ (ls : Lines). Contains ls (BoundLine c k v)) (expected_with g above overlap grid order caps)
    there) in
    let b : Bound = r.told in
    let line : IsBoundLine b.criterion 1 b.last b.cap c k v = r.line in
    let from = line.from in
    let to = line.to in
    let is = line.is in
    let fits : b.cap ≤ size_of_bound g x grid b = cap_fits g x grid b.last b.cap b.criterion in
    let top : b.last + size_of_bound g x grid b ≤ bounds_last g x grid first bounds = last_of_bound g x grid first bounds
    (from_behind g x grid caps first order) b r.among in
    let all : bounds_last g x grid first bounds ≡ expected_vars (problem_of (layout g o grid)) order caps = sym (vars_with g above overlap grid order caps) in
    (omega arith, omega arith)
