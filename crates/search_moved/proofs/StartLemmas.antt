-- The beginning of a search for the fewest moved nodes, and the whole of its lines.
use Rattle.std.proofs.Common.{◌≡◌, ◌≤◌, ◌<◌, ℕ, zero, suc, ◌+◌, ◌-◌, ◌⊎◌, List, [], ◌∷◌, ◌++◌, length, map, refl, sym, ◌∙◌, ap, subst, inl, inr, arith}
use Rattle.std.proofs.Common.{append-nil}
use Rattle.std.specs.Prelude.{None, flat_map, slice_index_or}
use Rattle.std.proofs.lemmas.List.{get_or_append_left, get_or-append_right}
use Rattle.plan_core.specs.Grid.{IsGrid}
use Rattle.port_graph.specs.StationGraph.{IsStationGraph}
use Rattle.edge_shape.specs.EdgeVars.{NodeInts, node_ints}
use Rattle.edge_shape.specs.declared.edge_vars.NodeVars.{NodeVars}
use Rattle.cnf_core.specs.declared.limits.TheConstants.{VARS}
use Rattle.cnf_core.specs.Clause.{Clauses, words_of}
use Rattle.cnf_core.specs.Formula.{Cnf, each}
use Rattle.cnf_core.proofs.ClauseLemmas.{words_append}
use Rattle.track_order.specs.Order.{is_above, is_overlap}
use Rattle.refute_log.specs.declared.line.LogLine.TheVariants.{Formula}
use Rattle.refute_log.specs.Told.{Lines}
use Rattle.refute_log.specs.ToldTo.{IsToldTo}
use Rattle.refute_log.specs.Log.{learnt}
use Rattle.drawing_cnf.specs.Expected.{drawing_vars, formula_clauses, formula_size}
use Rattle.drawing_cnf.specs.Encoding.{Encoding, encoded_vars}
use Rattle.drawing_cnf.specs.Bounded.{Bound, bounds_clauses}
use Rattle.drawing_cnf.specs.Whole.{IsWhole, bounds_last, drawing_last, drawing_clauses}
use Rattle.drawing_cnf.proofs.BaseLemmas.{base_last, base_vars}
use Rattle.drawing_cnf.proofs.MainLemmas.{few_variables, order_tables}
use Rattle.drawing_cnf.specs.Layout.{Layout, layout_of}
use Rattle.cdcl_core.specs.Kept.{Kept, AreGiven, blank, with_more_vars}
use Rattle.cdcl_core.specs.Belongs.{Belongs}
use Rattle.cdcl_core.proofs.ViewLemmas.{new_given, new_belongs}
use Rattle.refute_log.specs.Steps.{ToldBehind, GoesOn}
use Rattle.search_least.proofs.BuildLemmas.{formulas_are_clauses}
use Rattle.drawing_cnf.specs.Moved.{Former, former_at, matched_before}
use Rattle.drawing_cnf.specs.MovedClauses.{clauses_by, clauses_at, nodes_first, moved_sum, count_size, count_clauses}
use Rattle.drawing_cnf.specs.Nodes.{no_node_vars, node_at}
use Rattle.drawing_cnf.specs.Stands.{NodeThere}
use Rattle.drawing_cnf.proofs.ThereLemmas.{node_more}
use Rattle.drawing_cnf.specs.Bounds.{sum_bound}
use Rattle.search_moved.specs.MovedFormula.{moved_size}
use Rattle.search_moved.proofs.MovedDrawingLemmas.{moved_sound, moved_covers, moved_is_named}
use Rattle.search_least.specs.declared.fewest.Fewest.{Fewest}
use Rattle.search_least.specs.declared.fewest.Fewest.TheVariants.{Room}
use Rattle.search_least.specs.Fewest.{IsFewestLog}
use Rattle.search_moved.specs.Known.{formula_of, moved_task, IsMovedFormula, IsReady, KnowsMoved}
use Rattle.lex_minimise.specs.Told.{HasTaken, IsLogOfSolver}
use Rattle.search_moved.specs.Told.{FormulaPasses, IsMovedEnd, AreNodes, IsCounting}
use Rattle.search_moved.proofs.MovedLemmas.{lines_cover}
use Rattle.lex_minimise.proofs.TellLemmas.{goes_weaker}
use Rattle.lex_minimise.proofs.GrowLemmas.{formula_count}
use Rattle.lex_minimise.proofs.StartLemmas.{told_whole}

-- ---- the nodes' integers in a list

pub nodes_none : (e : Encoding) (nodes : List NodeVars) (n : ℕ) → n ≡ 0 → AreNodes e nodes n
nodes_none e nodes n none k lt = absurd (omega (arith, lt, none))

pub node_same : (n : NodeVars) (i : NodeInts) → n.x ≡ i.x → n.y ≡ i.y → node_ints n.x n.y ≡ i
node_same n i a b = ap (λ z. node_ints z n.y) a ∙ ap (node_ints i.x) b

here_or_below : (j k : ℕ) → j < k + 1 → (j ≡ k) ⊎ (j < k)
here_or_below zero zero lt = inl refl
here_or_below zero (suc k) lt = inr (omega arith)
here_or_below (suc j) zero lt = absurd (omega (arith, lt))
here_or_below (suc j) (suc k) lt = more (here_or_below j k (omega (arith, lt)))
  where
    more : (j ≡ k) ⊎ (j < k) → (suc j ≡ suc k) ⊎ (suc j < suc k)
    more (inl e) = inl (ap suc e)
    more (inr low) = inr (omega (arith, low))

pub nodes_more : (e : Encoding) (nodes all : List NodeVars) (n : NodeVars) (k : ℕ) → length nodes ≡ k → AreNodes e nodes k → all ≡ nodes ++ n ∷ [] →
    n.x ≡ ((encoded_vars e).node k).x → n.y ≡ ((encoded_vars e).node k).y → AreNodes e all (k + 1)
nodes_more e nodes all n k size are is x y j lt = subst (λ (ns : List NodeVars). node_at ns j ≡ (encoded_vars e).node j) (sym is) (by (here_or_below j k lt))
  where
    by : (j ≡ k) ⊎ (j < k) → node_at (nodes ++ n ∷ []) j ≡ (encoded_vars e).node j
    by (inl here) =
        let read : slice_index_or (nodes ++ n ∷ []) j no_node_vars ≡ n = ap (λ i. slice_index_or (nodes ++ n ∷ []) i no_node_vars) here
        ∙ get_or-append_right nodes (n ∷ []) k k no_node_vars size (omega arith)
        ∙ ap (λ i. slice_index_or (n ∷ []) i no_node_vars) (let z : k - k ≡ 0 = omega arith in z) in
        ap (λ (m : NodeVars). node_ints m.x m.y) read ∙ node_same n ((encoded_vars e).node k) x y ∙ ap (encoded_vars e).node (sym here)
    by (inr low) = ap (λ (m : NodeVars). node_ints m.x m.y) (get_or_append_left nodes (n ∷ []) no_node_vars j (omega (arith, low, size))) ∙ are j low

-- ---- clauses over the same integers

each_same : (f g : ℕ → Clauses) (first n : ℕ) → ((k : ℕ) → first ≤ k → k < first + n → f k ≡ g k) → each f first n ≡ each g first n
each_same f g first zero same = refl
each_same f g first (suc n) same =
    ap (λ (cs : Clauses). cs ++ each f (first + 1) n) (same first (omega arith) (omega arith))
    ∙ ap (λ (cs : Clauses). g first ++ cs) (each_same f g (first + 1) n (λ k from to. same k (omega (arith, from)) (omega (arith, to))))

pub count_same : (x z : ℕ → NodeInts) (former : Former) (vars : ℕ) → ((k : ℕ) → k < length former → x k ≡ z k) →
    count_clauses x former vars ≡ count_clauses z former vars
count_same x z former vars same =
    let first = nodes_first former vars in
    ap (λ (cs : Clauses). cs ++ sum_bound (moved_sum former vars) vars)
    (each_same (clauses_at x former first) (clauses_at z former first) 0 (length former)
    (λ k from to. ap (λ (i : NodeInts). clauses_by (former_at former k) i (first + matched_before former k)) (same k (omega (arith, to)))))

-- ---- the formula of the drawings, without a bound

pub drawings_are : (e : Encoding) → IsWhole e → e.bounds ≡ [] → e.formula.clauses ≡ drawing_clauses e
drawings_are e whole none = whole.clauses ∙ ap (λ (bs : List Bound). drawing_clauses e ++ bounds_clauses e.graph (encoded_vars e) e.grid bs) none
    ∙ append-nil (drawing_clauses e)

pub drawings_last : (e : Encoding) → IsWhole e → e.bounds ≡ [] → e.formula.vars ≡ formula_size e.graph (is_above e.order) (is_overlap e.order) e.grid
drawings_last e whole none = whole.vars ∙ ap (bounds_last e.graph (encoded_vars e) e.grid (drawing_last e)) none

pub node_there : (e : Encoding) (vars k : ℕ) (i : NodeInts) → IsStationGraph e.graph → IsGrid e.grid → IsWhole e → e.bounds ≡ [] → e.formula.vars ≤ vars →
    k < length e.graph.nodes → i ≡ (encoded_vars e).node k → NodeThere vars i
node_there e vars k i station size whole none le lt same =
    let few = few_variables e.graph e.grid size station.few_nodes station.few_edges in
    let a = base_vars e.graph e.grid size few in
    let last = drawings_last e whole none in
    subst (NodeThere vars) (sym same) (node_more (base_last e.graph e.grid) vars ((encoded_vars e).node k) (omega (arith, last, le)) (record {
      x = a.node_x k lt;
      y = a.node_y k lt;
    }))

-- ---- no room

pub words_both : (y : Layout) (former : Former) → words_of (formula_of y former) ≡ words_of
    (formula_clauses y.graph (is_above y.order) (is_overlap y.order) y.grid)
    + words_of (count_clauses (drawing_vars y.graph y.grid).node former (formula_size y.graph (is_above y.order) (is_overlap y.order) y.grid))
words_both y former = words_append (formula_clauses y.graph (is_above y.order) (is_overlap y.order) y.grid)
    (count_clauses (drawing_vars y.graph y.grid).node former (formula_size y.graph (is_above y.order) (is_overlap y.order) y.grid))

pub passes_first : (y : Layout) (former : Former) (room : ℕ) → (VARS < formula_size y.graph (is_above y.order) (is_overlap y.order) y.grid) ⊎
    (room < words_of (formula_clauses y.graph (is_above y.order) (is_overlap y.order) y.grid)) → FormulaPasses y former room
passes_first y former room (inl h) = inl (omega (arith, h))
passes_first y former room (inr h) = inr (let w = words_both y former in omega (arith, h, w))

pub passes_second : (y : Layout) (former : Former) (r room : ℕ) → r ≡ room → (VARS < moved_size y.graph (is_above y.order) (is_overlap y.order) y.grid former)
    ⊎ (r < words_of (count_clauses (drawing_vars y.graph y.grid).node former (formula_size y.graph (is_above y.order) (is_overlap y.order) y.grid))) →
    FormulaPasses y former room
passes_second y former r room is (inl h) = inl h
passes_second y former r room is (inr h) = inr (let w = words_both y former in omega (arith, h, w, is))

pub passes_both : (e : Encoding) (former : Former) (room m n : ℕ) (f : Cnf) (cs : Clauses) → IsWhole e → e.bounds ≡ [] → m ≡ words_of e.formula.clauses →
    n ≡ words_of f.clauses →
    f.clauses ≡ count_clauses (encoded_vars e).node former (formula_size e.graph (is_above e.order) (is_overlap e.order) e.grid) → room < m + n →
    FormulaPasses (layout_of e) former room
passes_both e former room m n f cs whole none a b are more =
    let w = words_both (layout_of e) former in
    let x = ap words_of (drawings_are e whole none) in
    let y = ap words_of are in
    inr (omega (arith, more, a, b, w, x, y))

pub is_counting : (e : Encoding) (former : Former) (room m n : ℕ) (f : Cnf) → IsWhole e → e.bounds ≡ [] → m ≡ words_of e.formula.clauses →
    n ≡ words_of f.clauses → f.vars ≡ moved_size e.graph (is_above e.order) (is_overlap e.order) e.grid former →
    f.clauses ≡ count_clauses (encoded_vars e).node former (formula_size e.graph (is_above e.order) (is_overlap e.order) e.grid) → m + n ≤ room →
    IsCounting (layout_of e) former room f
is_counting e former room m n f whole none a b vars are fit =
    let w = words_both (layout_of e) former in
    let x = ap words_of (drawings_are e whole none) in
    let y = ap words_of are in
    record { vars = vars; clauses = are; words_fit = omega (arith, fit, a, b, w, x, y) }

-- what was counted is the count over the drawings' variables
counted_same : (e : Encoding) (nodes : List NodeVars) (former : Former) (vars : ℕ) → IsWhole e → e.bounds ≡ [] → vars ≡ e.formula.vars →
    AreNodes e nodes (length e.graph.nodes) → length former ≡ length e.graph.nodes →
    count_clauses (node_at nodes) former vars ≡ count_clauses (encoded_vars e).node former (formula_size e.graph (is_above e.order) (is_overlap e.order) e.grid)
counted_same e nodes former vars whole none is are same =
    ap (count_clauses (node_at nodes) former) (is ∙ drawings_last e whole none)
    ∙ count_same (node_at nodes) (encoded_vars e).node former (formula_size e.graph (is_above e.order) (is_overlap e.order) e.grid)
    (λ k lt. are k (omega (arith, lt, same)))

pub counted_are : (e : Encoding) (mid new : Cnf) (nodes : List NodeVars) (former : Former) → IsWhole e → e.bounds ≡ [] → mid.vars ≡ e.formula.vars →
    mid.clauses ≡ [] → AreNodes e nodes (length e.graph.nodes) → length former ≡ length e.graph.nodes →
    new.clauses ≡ mid.clauses ++ count_clauses (node_at nodes) former mid.vars →
    new.clauses ≡ count_clauses (encoded_vars e).node former (formula_size e.graph (is_above e.order) (is_overlap e.order) e.grid)
counted_are e mid new nodes former whole none is empty are same added =
    added ∙ ap (λ (ds : Clauses). ds ++ count_clauses (node_at nodes) former mid.vars) empty ∙ counted_same e nodes former mid.vars whole none is are same

-- where there was no room for it
pub count_passes : (e : Encoding) (mid : Cnf) (room : ℕ) (nodes : List NodeVars) (former : Former) → IsWhole e → e.bounds ≡ [] → mid.vars ≡ e.formula.vars →
    mid.clauses ≡ [] → mid.room ≡ room → AreNodes e nodes (length e.graph.nodes) → length former ≡ length e.graph.nodes →
    (VARS < mid.vars + count_size former mid.vars) ⊎ (mid.room < words_of (mid.clauses ++ count_clauses (node_at nodes) former mid.vars)) →
    (VARS < moved_size e.graph (is_above e.order) (is_overlap e.order) e.grid former) ⊎
    (room < words_of (count_clauses (encoded_vars e).node former (formula_size e.graph (is_above e.order) (is_overlap e.order) e.grid)))
count_passes e mid room nodes former whole none is empty is_room are same (inl h) = inl
    (subst (λ n. VARS < n + count_size former n) (is ∙ drawings_last e whole none) h)
count_passes e mid room nodes former whole none is empty is_room are same (inr h) =
    let w = ap words_of (ap (λ (ds : Clauses). ds ++ count_clauses (node_at nodes) former mid.vars) empty
    ∙ counted_same e nodes former mid.vars whole none is are same) in
    inr (omega (arith, h, w, is_room))

pub is_vars : (old mid : Cnf) (n : ℕ) → mid ≡ record { room = old.room; vars = old.vars + n; clauses = old.clauses } → old.vars ≡ 0 → mid.vars ≡ n
is_vars old mid n is none = let v = ap (λ (f : Cnf). f.vars) is in omega (arith, v, none)

-- ---- the formula

pub facts : (e : Encoding) (former : Former) → IsStationGraph e.graph → IsGrid e.grid → IsWhole e → length former ≡ length e.graph.nodes →
    IsMovedFormula (layout_of e) former
facts e former station size whole same =
    let g = e.graph in
    let o = e.order in
    record {
      sound = moved_sound g (is_above o) (is_overlap o) e.grid former station.track_graph size (order_tables g o whole.order) same;
      covers = moved_covers g (is_above o) (is_overlap o) e.grid former station.track_graph size
          (few_variables g e.grid size station.few_nodes station.few_edges) (order_tables g o whole.order) same;
      named = λ j from to. moved_is_named g (is_above o) (is_overlap o) e.grid former j from to;
    }

pub both_are : (e : Encoding) (former : Former) (room : ℕ) (a f : Cnf) → IsWhole e → e.bounds ≡ [] → a ≡ e.formula → IsCounting (layout_of e) former room f →
    a.clauses ++ f.clauses ≡ formula_of (layout_of e) former
both_are e former room a f whole none is counting =
    ap (λ (cs : Clauses). cs ++ f.clauses) (ap (λ (x : Cnf). x.clauses) is ∙ drawings_are e whole none)
    ∙ ap (λ (cs : Clauses). drawing_clauses e ++ cs) counting.clauses

-- both formulas fit the new solver, one after the other
pub both_fit : (e : Encoding) (former : Former) (room : ℕ) (a f : Cnf) (k : Kept) → IsWhole e → e.bounds ≡ [] → a ≡ e.formula →
    IsCounting (layout_of e) former room f → k ≡ blank room → k.words + words_of a.clauses + words_of f.clauses ≤ k.room
both_fit e former room a f k whole none is counting blank_is =
    let all = ap words_of (both_are e former room a f whole none is counting) in
    let sum = words_append a.clauses f.clauses in
    let fit = counting.words_fit in
    let w = ap (λ (x : Kept). x.words) blank_is in
    let r = ap (λ (x : Kept). x.room) blank_is in
    omega (arith, all, sum, fit, w, r)

pub both_rise : (e : Encoding) (former : Former) (room : ℕ) (a f : Cnf) → IsWhole e → e.bounds ≡ [] → a ≡ e.formula → IsCounting (layout_of e) former room f →
    a.vars ≤ f.vars
both_rise e former room a f whole none is counting =
    let v = ap (λ (x : Cnf). x.vars) is in
    let last = drawings_last e whole none in
    let all = counting.vars in
    omega (arith, v, last, all)

pub begun_ready : (e : Encoding) (former : Former) (budget room : ℕ) (a f : Cnf) (old new : Kept) → IsStationGraph e.graph → IsGrid e.grid → IsWhole e →
    e.bounds ≡ [] → length former ≡ length e.graph.nodes → a ≡ e.formula → IsCounting (layout_of e) former room f →
    old ≡ blank room → HasTaken (with_more_vars old (f.vars - old.vars)) new (a.clauses ++ f.clauses) → IsReady e former budget room new
begun_ready e former budget room a f old new station size whole none same is counting blank_is t =
    let given : AreGiven (a.clauses ++ f.clauses) new.clauses = t.given [] (new_given old room blank_is) in
    record {
      whole = whole;
      bounds = none;
      same = same;
      facts = facts e former station size whole same;
      working = t.working;
      vars = (let v = t.vars in let z = ap (λ (k : Kept). k.vars) blank_is in let w = counting.vars in omega (arith, v, z, w));
      room_is = t.room ∙ ap (λ (k : Kept). k.room) blank_is;
      given = subst (λ (cs : Clauses). AreGiven cs new.clauses) (both_are e former room a f whole none is counting) given;
      spent = (let l = t.learnt in let z = ap (λ (k : Kept). k.learnt) blank_is in omega (arith, l, z));
    }

pub begun_knows : (e : Encoding) (former : Former) (budget room : ℕ) (a f : Cnf) (old new : Kept) (l0 l1 : Lines → Type 0) (n0 n1 : ℕ) →
    IsStationGraph e.graph → IsGrid e.grid → IsWhole e → e.bounds ≡ [] → length former ≡ length e.graph.nodes →
    a ≡ e.formula → IsCounting (layout_of e) former room f → old ≡ blank room → HasTaken (with_more_vars old (f.vars - old.vars)) new (a.clauses ++ f.clauses) →
    GoesOn (λ ls. Belongs ls old) (λ ls. Belongs ls new) l0 l1 n0 n1 (λ lines more. more ≡ map Formula (a.clauses ++ f.clauses)) →
    KnowsMoved (layout_of e) former budget room new (map Formula (formula_of (layout_of e) former))
begun_knows e former budget room a f old new l0 l1 n0 n1 station size whole none same is counting blank_is t goes =
    let y = layout_of e in
    let cs = formula_of y former in
    let are : a.clauses ++ f.clauses ≡ cs = both_are e former room a f whole none is counting in
    let told : ToldBehind (λ ls. Belongs ls new) l0 l1 n0 n1 [] (λ more. more ≡ map Formula (a.clauses ++ f.clauses)) = goes []
    (new_belongs old room blank_is) in
    let belongs : Belongs (map Formula cs) new = subst (λ (ls : Lines). Belongs ls new) (told.does ∙ ap (map Formula) are) told.knows in
    let none_learnt : length (flat_map learnt (map Formula cs)) ≡ 0 = formula_count cs in
    let l = t.learnt in
    let z = ap (λ (k : Kept). k.learnt) blank_is in
    let words = t.words in
    let w = ap (λ (k : Kept). k.words) blank_is in
    let all = ap words_of are in
    let fit = counting.words_fit in
    let full : new.words ≤ room = omega (arith, words, w, all, fit) in
    record {
      belongs = belongs;
      told_are = formulas_are_clauses cs;
      learnt_are = omega (arith, l, z, none_learnt);
      spent = omega (arith, l, z);
      covers = lines_cover y former budget room (map Formula cs) (facts e former station size whole same) (formulas_are_clauses cs);
      fits = subst (λ n. n ≤ room) belongs.words full;
    }

-- ---- the whole

pub nothing_told : (y : Layout) (former : Former) (budget room n : ℕ) (log : Lines → Type 0) → FormulaPasses y former room →
    (lines : Lines) × IsToldTo log log n n lines × IsMovedEnd y former budget room (Room None) lines
nothing_told y former budget room n log passes = (
  [],
  record { behind = λ ls t. subst log (sym (append-nil ls)) t; counted = refl },
  inr (refl, refl, passes),
)

pub nothing_told_of : (y z : Layout) (former : Former) (budget room n : ℕ) (log : Lines → Type 0) → y ≡ z → FormulaPasses y former room →
    (lines : Lines) × IsToldTo log log n n lines × IsMovedEnd z former budget room (Room None) lines
nothing_told_of y z former budget room n log is passes = nothing_told z former budget room n log (subst (λ (x : Layout). FormulaPasses x former room) is passes)

pub whole_told : (e : Encoding) (y : Layout) (former : Former) (budget room : ℕ) (a f : Cnf) (o : Fewest) (old mid new : Kept) (l0 l1 l2 : Lines → Type 0)
    (n0 n1 n2 : ℕ) → IsWhole e → e.bounds ≡ [] → layout_of e ≡ y →
    a ≡ e.formula → IsCounting (layout_of e) former room f → old ≡ blank room →
    GoesOn (λ ls. Belongs ls old) (λ ls. Belongs ls mid) l0 l1 n0 n1 (λ lines more. more ≡ map Formula (a.clauses ++ f.clauses)) →
    ToldBehind (IsLogOfSolver new) l1 l2 n1 n2 (map Formula (formula_of (layout_of e) former))
    (λ more. IsFewestLog (moved_task (layout_of e) former budget room) o (map Formula (formula_of (layout_of e) former) ++ more)) →
    (lines : Lines) × IsToldTo l0 l2 n0 n2 lines × IsMovedEnd y former budget room o lines
whole_told e y former budget room a f o old mid new l0 l1 l2 n0 n1 n2 whole none y_is is counting blank_is goes second =
    let start : Lines = map Formula (formula_of (layout_of e) former) in
    let are = both_are e former room a f whole none is counting in
    let told = told_whole start (IsFewestLog (moved_task (layout_of e) former budget room) o) room old mid new l0 l1 l2 n0 n1 n2 blank_is
    (goes_weaker (λ ls. Belongs ls old) (λ ls. Belongs ls mid) l0 l1 n0 n1 (λ lines more. more ≡ map Formula (a.clauses ++ f.clauses))
    (λ lines more. more ≡ start) goes (λ lines more does. does ∙ ap (map Formula) are)) second in
    (told.0, told.1, inl (subst (λ (z : Layout). IsFewestLog (moved_task z former budget room) o told.0) y_is told.2))
