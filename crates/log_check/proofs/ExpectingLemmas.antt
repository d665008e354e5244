-- What is expected, criterion by criterion.
use Rattle.std.proofs.Common.{◌≡◌, ◌≤◌, ◌<◌, ℕ, zero, suc, ◌+◌, ◌-◌, ◌⊎◌, List, [], ◌∷◌, ◌++◌, length, map, take, drop, refl, sym, ◌∙◌, ap, subst, inl, inr}
use Rattle.std.proofs.Common.{arith, append-nil, append_assoc, length-append, length-drop}
use Rattle.std.specs.Prelude.{Some, Result, Ok, Err, OnOk, flat_map, slice_get}
use Rattle.std.proofs.lemmas.Grind.{flat_map-append}
use Rattle.std.proofs.lemmas.List.{take-append-le, take-append-drop, drop-append-le, take_all}
use Rattle.std.proofs.lemmas.List.Elements.{All-nil, All-cons, All-head, All-tail, All-weaker}
use Rattle.plan_core.specs.declared.criterion.Criterion.{Criterion}
use Rattle.plan_core.specs.Grid.{GridSize}
use Rattle.plan_core.specs.Graph.{Graph}
use Rattle.plan_core.specs.Values.{limit_of}
use Rattle.cnf_core.specs.declared.limits.TheConstants.{VARS, ROOM}
use Rattle.cnf_core.proofs.ClauseLemmas.{words_append}
use Rattle.cnf_core.specs.declared.fault.CnfFault.{CnfFault}
use Rattle.cnf_core.specs.Clause.{Clauses, words_of}
use Rattle.cnf_core.specs.Formula.{IsFormula}
use Rattle.track_order.specs.Order.{EdgeOrder, is_above, is_overlap}
use Rattle.refute_log.specs.declared.line.LogLine.TheVariants.{Formula}
use Rattle.refute_log.specs.Told.{Lines}
use Rattle.refute_log.specs.Log.{given}
use Rattle.refute_log.specs.Expected.{Problem, bound_lines, sum_lines, sum_vars_of, sums, vars_after, expected_lines, expected_vars}
use Rattle.refute_check.proofs.JudgeLemmas.{take_next}
use Rattle.drawing_cnf.specs.Expected.{formula_clauses, formula_size}
use Rattle.drawing_cnf.specs.Bounded.{bound}
use Rattle.drawing_cnf.specs.Behind.{bound_behind, clauses_behind, size_behind, PassesWith, HasGrown}
use Rattle.drawing_cnf.specs.Encoding.{Encoding, encoded_vars}
use Rattle.drawing_cnf.specs.Whole.{IsWhole}
use Rattle.drawing_cnf.specs.Lists.{variables_behind, lines_of_bound}
use Rattle.drawing_cnf.specs.Layout.{Layout, layout, layout_of, problem_of}
use Rattle.drawing_cnf.proofs.ListLemmas.{sum_is_bound, sum_vars_is_size, given_bound, given_with}
use Rattle.log_check.specs.declared.awaited.Part.{Part}
use Rattle.log_check.specs.declared.awaited.Part.TheVariants.{ClausesTo, Bounds}
use Rattle.log_check.specs.Expectation.{expectation, PassesLimits}
use Rattle.log_check.specs.Awaited.{lines_from, clause_after, IsPart, AreParts}
use Rattle.log_check.specs.Expecting.{IsExpecting}

-- ---- the lines of parts

-- clauses behind those of the parts don't count
front_by : (cs more : Clauses) (k n end : ℕ) → end - k ≡ n → end ≤ length cs → take n (drop k (cs ++ more)) ≡ take n (drop k cs)
front_by cs more k zero end e le = refl
front_by cs more k (suc m) end e le =
    let n = length-drop k cs in
    ap (take (suc m)) (drop-append-le k cs more (omega arith)) ∙ take-append-le (suc m) (drop k cs) more (omega arith)

lines_longer : (cs more : Clauses) (parts : List Part) (k b : ℕ) → AreParts cs parts → lines_from (cs ++ more) parts k b ≡ lines_from cs parts k b
lines_longer cs more [] k b h = refl
lines_longer cs more (ClausesTo end ∷ parts) k b h =
    let le : end ≤ length cs = All-head (IsPart cs) (ClausesTo end) parts h in
    ap (λ (ds : Clauses). map Formula ds ++ lines_from (cs ++ more) parts end 0) (front_by cs more k (end - k) end refl le)
    ∙ ap (λ (ls : Lines). map Formula (take (end - k) (drop k cs)) ++ ls) (lines_longer cs more parts end 0 (All-tail (IsPart cs) (ClausesTo end) parts h))
lines_longer cs more (Bounds c last cap ∷ parts) k b h =
    ap (λ (ls : Lines). bound_lines c (b + 1) (variables_behind (last + b) (cap - b)) ++ ls)
    (lines_longer cs more parts k 0 (All-tail (IsPart cs) (Bounds c last cap) parts h))

lines_append : (cs : Clauses) (xs ys : List Part) (k : ℕ) → lines_from cs (xs ++ ys) k 0 ≡ lines_from cs xs k 0 ++ lines_from cs ys (clause_after xs k) 0
lines_append cs [] ys k = refl
lines_append cs (ClausesTo end ∷ xs) ys k =
    let front = map Formula (take (end - k) (drop k cs)) in
    ap (λ (ls : Lines). front ++ ls) (lines_append cs xs ys end) ∙ sym (append_assoc front (lines_from cs xs end 0) (lines_from cs ys (clause_after xs end) 0))
lines_append cs (Bounds c last cap ∷ xs) ys k =
    let front = bound_lines c (0 + 1) (variables_behind (last + 0) (cap - 0)) in
    ap (λ (ls : Lines). front ++ ls) (lines_append cs xs ys k) ∙ sym (append_assoc front (lines_from cs xs k 0) (lines_from cs ys (clause_after xs k) 0))

after_append : (xs ys : List Part) (k : ℕ) → clause_after (xs ++ ys) k ≡ clause_after ys (clause_after xs k)
after_append [] ys k = refl
after_append (ClausesTo end ∷ xs) ys k = after_append xs ys end
after_append (Bounds c last cap ∷ xs) ys k = after_append xs ys k

pub drop_front : (cs more : Clauses) → drop (length cs) (cs ++ more) ≡ more
drop_front [] more = refl
drop_front (c ∷ cs) more = drop_front cs more

-- the lines of two parts: all clauses behind the others, and the bounds of a criterion
last_lines : (cs more : Clauses) (c : Criterion) (last cap : ℕ) →
    lines_from (cs ++ more) (ClausesTo (length (cs ++ more)) ∷ Bounds c last cap ∷ []) (length cs) 0 ≡ map Formula more ++ bound_lines c 1
    (variables_behind last cap)
last_lines cs more c last cap =
    let n = length-append cs more in
    let count : length (cs ++ more) - length cs ≡ length more = omega arith in
    let clauses : take (length (cs ++ more) - length cs) (drop (length cs) (cs ++ more)) ≡ more =
    ap (λ (ds : Clauses). take (length (cs ++ more) - length cs) ds) (drop_front cs more) ∙ ap (λ k. take k more) count
    ∙ take_all (length more) more (omega arith) in
    let low : last + 0 ≡ last = omega arith in
    let high : cap - 0 ≡ cap = omega arith in
    let bounds : bound_lines c (0 + 1) (variables_behind (last + 0) (cap - 0)) ++ [] ≡ bound_lines c 1 (variables_behind last cap) =
    append-nil (bound_lines c (0 + 1) (variables_behind (last + 0) (cap - 0))) ∙ ap (λ k. bound_lines c 1 (variables_behind k (cap - 0))) low
    ∙ ap (λ k. bound_lines c 1 (variables_behind last k)) high in
    ap (λ (ds : Clauses). map Formula ds ++ (bound_lines c (0 + 1) (variables_behind (last + 0) (cap - 0)) ++ [])) clauses
    ∙ ap (λ (ls : Lines). map Formula more ++ ls) bounds

-- a part stays one where there are further clauses
parts_longer : (cs more : Clauses) (parts : List Part) → AreParts cs parts → AreParts (cs ++ more) parts
parts_longer cs more parts h = All-weaker (IsPart cs) (IsPart (cs ++ more)) by parts h
  where
    by : (p : Part) → IsPart cs p → IsPart (cs ++ more) p
    by (ClausesTo end) le = omega (arith, length-append cs more)
    by (Bounds c last cap) le = le

parts_append : (cs : Clauses) (xs ys : List Part) → AreParts cs xs → AreParts cs ys → AreParts cs (xs ++ ys)
parts_append cs [] ys h k = k
parts_append cs (x ∷ xs) ys h k = All-cons (IsPart cs) x (xs ++ ys) (All-head (IsPart cs) x xs h) (parts_append cs xs ys (All-tail (IsPart cs) x xs h) k)

-- ---- what is expected for more criteria

sums_append : (e : Problem) (first : ℕ) (xs ys : List Criterion) (cap : Criterion → ℕ) →
    sums e first (xs ++ ys) cap ≡ sums e first xs cap ++ sums e (vars_after e first xs cap) ys cap
sums_append e first [] ys cap = refl
sums_append e first (d ∷ xs) ys cap =
    let next = first + sum_vars_of e first d (cap d) in
    ap (λ (ls : Lines). sum_lines e first d (cap d) ++ ls) (sums_append e next xs ys cap)
    ∙ sym (append_assoc (sum_lines e first d (cap d)) (sums e next xs cap) (sums e (vars_after e next xs cap) ys cap))

vars_append : (e : Problem) (first : ℕ) (xs ys : List Criterion) (cap : Criterion → ℕ) →
    vars_after e first (xs ++ ys) cap ≡ vars_after e (vars_after e first xs cap) ys cap
vars_append e first [] ys cap = refl
vars_append e first (d ∷ xs) ys cap = vars_append e (first + sum_vars_of e first d (cap d)) xs ys cap

vars_rise : (e : Problem) (first : ℕ) (xs : List Criterion) (cap : Criterion → ℕ) → first ≤ vars_after e first xs cap
vars_rise e first [] cap = omega arith
vars_rise e first (d ∷ xs) cap = omega (arith, vars_rise e (first + sum_vars_of e first d (cap d)) xs cap)

expected_append : (e : Problem) (xs ys : List Criterion) (cap : Criterion → ℕ) →
    expected_lines e (xs ++ ys) cap ≡ expected_lines e xs cap ++ sums e (expected_vars e xs cap) ys cap
expected_append e xs ys cap =
    ap (λ (ls : Lines). map Formula e.clauses ++ ls) (sums_append e e.vars xs ys cap)
    ∙ sym (append_assoc (map Formula e.clauses) (sums e e.vars xs cap) (sums e (vars_after e e.vars xs cap) ys cap))

-- what passes the limits passes them with further criteria
pub passes_more : (y : Layout) (xs ys : List Criterion) (cap : Criterion → ℕ) → PassesLimits (expectation y xs cap) →
    PassesLimits (expectation y (xs ++ ys) cap)
passes_more y xs ys cap (inl many) =
    let p = problem_of y in
    let all = vars_append p p.vars xs ys cap in
    let more = vars_rise p (vars_after p p.vars xs cap) ys cap in
    inl (omega arith)
passes_more y xs ys cap (inr words) =
    let p = problem_of y in
    let front = flat_map given (expected_lines p xs cap) in
    let rest = flat_map given (sums p (expected_vars p xs cap) ys cap) in
    let e : flat_map given (expected_lines p (xs ++ ys) cap) ≡ front ++ rest =
    ap (flat_map given) (expected_append p xs ys cap) ∙ flat_map-append given (expected_lines p xs cap) (sums p (expected_vars p xs cap) ys cap) in
    let size : words_of (flat_map given (expected_lines p (xs ++ ys) cap)) ≡ words_of front + words_of rest = ap words_of e ∙ words_append front rest in
    inr (omega arith)

-- one criterion more
expected_more : (e : Problem) (xs : List Criterion) (c : Criterion) (cap : Criterion → ℕ) →
    expected_lines e (xs ++ c ∷ []) cap ≡ expected_lines e xs cap ++ sum_lines e (expected_vars e xs cap) c (cap c)
expected_more e xs c cap = expected_append e xs (c ∷ []) cap ∙ ap (λ (ls : Lines). expected_lines e xs cap ++ ls)
    (append-nil (sum_lines e (expected_vars e xs cap) c (cap c)))

vars_more : (e : Problem) (xs : List Criterion) (c : Criterion) (cap : Criterion → ℕ) →
    expected_vars e (xs ++ c ∷ []) cap ≡ expected_vars e xs cap + sum_vars_of e (expected_vars e xs cap) c (cap c)
vars_more e xs c cap = vars_append e e.vars xs (c ∷ []) cap

-- ---- no criterion

all_lines : (cs : Clauses) → lines_from cs (ClausesTo (length cs) ∷ []) 0 0 ≡ map Formula cs ++ []
all_lines cs =
    let count : length cs - 0 ≡ length cs = omega arith in
    ap (λ n. map Formula (take n cs) ++ []) count ∙ ap (λ (ds : Clauses). map Formula ds ++ []) (take_all (length cs) cs (omega arith))

given_none : (g : Graph) (o : EdgeOrder) (grid : GridSize) (cap : Criterion → ℕ) →
    flat_map given (expectation (layout g o grid) [] cap).lines ≡ formula_clauses g (is_above o) (is_overlap o) grid
given_none g o grid cap = given_with g (is_above o) (is_overlap o) grid [] ∙ append-nil (formula_clauses g (is_above o) (is_overlap o) grid)

pub expecting_none : (g : Graph) (o : EdgeOrder) (grid : GridSize) (e : Encoding) (parts : List Part) (cap : Criterion → ℕ) → e.graph ≡ g → e.order ≡ o →
    e.grid ≡ grid → e.formula.room ≡ ROOM →
    e.formula.clauses ≡ formula_clauses g (is_above o) (is_overlap o) grid → e.formula.vars ≡ formula_size g (is_above o) (is_overlap o) grid → IsWhole e →
    parts ≡ ClausesTo (length e.formula.clauses) ∷ [] →
    IsExpecting (layout g o grid) [] cap e parts
expecting_none g o grid e parts cap eg eo ed room clauses vars whole is =
    let cs = e.formula.clauses in
    record {
      layout = ap (λ (h : Graph). layout h e.order e.grid) eg ∙ ap (λ (p : EdgeOrder). layout g p e.grid) eo ∙ ap (λ (d : GridSize). layout g o d) ed;
      whole = whole;
      room = room;
      vars = vars;
      clauses = clauses ∙ sym (given_none g o grid cap);
      each = subst (AreParts cs) (sym is) (All-cons (IsPart cs) (ClausesTo (length cs)) [] (omega arith) (All-nil (IsPart cs)));
      after = ap (λ (ps : List Part). clause_after ps 0) is;
      lines = ap (λ (ps : List Part). lines_from cs ps 0 0) is ∙ all_lines cs ∙ ap (λ (ds : Clauses). map Formula ds ++ []) clauses;
    }

pub passes_none : (g : Graph) (o : EdgeOrder) (grid : GridSize) (cap : Criterion → ℕ) →
    (VARS < formula_size g (is_above o) (is_overlap o) grid) ⊎ (ROOM < words_of (formula_clauses g (is_above o) (is_overlap o) grid)) →
    PassesLimits (expectation (layout g o grid) [] cap)
passes_none g o grid cap (inl many) = inl many
passes_none g o grid cap (inr words) = inr (subst (λ (cs : Clauses). ROOM < words_of cs) (sym (given_none g o grid cap)) words)

-- ---- a criterion without bounds

lines_skipped : (p : Problem) (xs : List Criterion) (c : Criterion) (cap : Criterion → ℕ) → cap c ≡ 0 →
    expected_lines p (xs ++ c ∷ []) cap ≡ expected_lines p xs cap
lines_skipped p xs c cap none =
    expected_more p xs c cap ∙ ap (λ n. expected_lines p xs cap ++ sum_lines p (expected_vars p xs cap) c n) none ∙ append-nil (expected_lines p xs cap)

vars_skipped : (p : Problem) (xs : List Criterion) (c : Criterion) (cap : Criterion → ℕ) → cap c ≡ 0 →
    expected_vars p (xs ++ c ∷ []) cap ≡ expected_vars p xs cap
vars_skipped p xs c cap none =
    vars_more p xs c cap ∙ ap (λ n. expected_vars p xs cap + sum_vars_of p (expected_vars p xs cap) c n) none
    ∙ (let e : expected_vars p xs cap + 0 ≡ expected_vars p xs cap = omega arith in e)

pub expecting_skipped : (y : Layout) (xs : List Criterion) (c : Criterion) (cap : Criterion → ℕ) (e : Encoding) (parts : List Part) → cap c ≡ 0 →
    IsExpecting y xs cap e parts → IsExpecting y (xs ++ c ∷ []) cap e parts
expecting_skipped y xs c cap e parts none h =
    let p = problem_of y in
    let same = lines_skipped p xs c cap none in
    record {
      layout = h.layout;
      whole = h.whole;
      room = h.room;
      vars = h.vars ∙ sym (vars_skipped p xs c cap none);
      clauses = h.clauses ∙ sym (ap (flat_map given) same);
      each = h.each;
      after = h.after;
      lines = h.lines ∙ sym same;
    }

-- ---- a criterion with bounds

-- what a call that adds a criterion's bounds leaves
pub record AddsBounds (e f : Encoding) (parts behind : List Part) (c : Criterion) (cap : ℕ) : Type 0 where
  pub grown : HasGrown e f (bound_behind e c cap)
  pub parts_are : behind ≡ parts ++ ClausesTo (length f.formula.clauses) ∷ Bounds c e.formula.vars cap ∷ []

sum_of : (e : Encoding) (v : ℕ) (c : Criterion) (cap : ℕ) → 1 ≤ cap →
    sum_lines (problem_of (layout_of e)) v c cap ≡ lines_of_bound e.graph (encoded_vars e) e.grid (bound c v cap)
sum_of e v c cap some = sum_is_bound e.graph (is_above e.order) (is_overlap e.order) e.grid v c cap some

added_clauses : (e : Encoding) (xs : List Criterion) (c : Criterion) (cap : Criterion → ℕ) → 1 ≤ cap c →
    e.formula.vars ≡ expected_vars (problem_of (layout_of e)) xs cap →
    flat_map given (expected_lines (problem_of (layout_of e)) (xs ++ c ∷ []) cap)
    ≡ flat_map given (expected_lines (problem_of (layout_of e)) xs cap) ++ clauses_behind e (bound_behind e c (cap c))
added_clauses e xs c cap some vars =
    let p = problem_of (layout_of e) in
    let front = expected_lines p xs cap in
    ap (flat_map given) (expected_more p xs c cap) ∙ flat_map-append given front (sum_lines p (expected_vars p xs cap) c (cap c))
    ∙ ap (λ n. flat_map given front ++ flat_map given (sum_lines p n c (cap c))) (sym vars)
    ∙ ap (λ (ls : Lines). flat_map given front ++ flat_map given ls) (sum_of e e.formula.vars c (cap c) some)
    ∙ ap (λ (cs : Clauses). flat_map given front ++ cs) (given_bound e.graph (encoded_vars e) e.grid (bound_behind e c (cap c)))

added_vars : (e : Encoding) (xs : List Criterion) (c : Criterion) (cap : Criterion → ℕ) → 1 ≤ cap c →
    e.formula.vars ≡ expected_vars (problem_of (layout_of e)) xs cap →
    expected_vars (problem_of (layout_of e)) (xs ++ c ∷ []) cap ≡ e.formula.vars + size_behind e (bound_behind e c (cap c))
added_vars e xs c cap some vars =
    let p = problem_of (layout_of e) in
    vars_more p xs c cap ∙ ap (λ n. n + sum_vars_of p n c (cap c)) (sym vars)
    ∙ ap (λ n. e.formula.vars + n) (sum_vars_is_size e.graph (is_above e.order) (is_overlap e.order) e.grid e.formula.vars c (cap c) some)

added_lines : (e f : Encoding) (parts behind : List Part) (xs : List Criterion) (c : Criterion) (cap : Criterion → ℕ) → 1 ≤ cap c →
    AddsBounds e f parts behind c (cap c) → IsExpecting (layout_of e) xs cap e parts →
    lines_from f.formula.clauses behind 0 0 ≡ expected_lines (problem_of (layout_of e)) (xs ++ c ∷ []) cap
added_lines e f parts behind xs c cap some a h =
    let p = problem_of (layout_of e) in
    let cs = e.formula.clauses in
    let more = clauses_behind e (bound_behind e c (cap c)) in
    let two : List Part = ClausesTo (length (cs ++ more)) ∷ Bounds c e.formula.vars (cap c) ∷ [] in
    let parts_are : behind ≡ parts ++ two = a.parts_are ∙ ap (λ (ds : Clauses). parts ++ ClausesTo (length ds) ∷ Bounds c e.formula.vars (cap c) ∷ [])
    a.grown.clauses in
    ap (λ (ds : Clauses). lines_from ds behind 0 0) a.grown.clauses ∙ ap (λ (ps : List Part). lines_from (cs ++ more) ps 0 0) parts_are
    ∙ lines_append (cs ++ more) parts two 0
    ∙ ap (λ (ls : Lines). ls ++ lines_from (cs ++ more) two (clause_after parts 0) 0) (lines_longer cs more parts 0 0 h.each ∙ h.lines)
    ∙ ap (λ n. expected_lines p xs cap ++ lines_from (cs ++ more) two n 0) h.after
    ∙ ap (λ (ls : Lines). expected_lines p xs cap ++ ls) (last_lines cs more c e.formula.vars (cap c) ∙ sym (sum_of e e.formula.vars c (cap c) some))
    ∙ ap (λ n. expected_lines p xs cap ++ sum_lines p n c (cap c)) h.vars
    ∙ sym (expected_more p xs c cap)

pub expecting_added : (e f : Encoding) (parts behind : List Part) (xs : List Criterion) (c : Criterion) (cap : Criterion → ℕ) → 1 ≤ cap c →
    AddsBounds e f parts behind c (cap c) → IsExpecting (layout_of e) xs cap e parts →
    IsExpecting (layout_of e) (xs ++ c ∷ []) cap f behind
expecting_added e f parts behind xs c cap some a h =
    let cs = e.formula.clauses in
    let more = clauses_behind e (bound_behind e c (cap c)) in
    let two : List Part = ClausesTo (length f.formula.clauses) ∷ Bounds c e.formula.vars (cap c) ∷ [] in
    let few = a.grown.few in
    let there = a.grown.there in
    let last : AreParts f.formula.clauses two =
    All-cons (IsPart f.formula.clauses) (ClausesTo (length f.formula.clauses)) (Bounds c e.formula.vars (cap c) ∷ []) (omega arith)
    (All-cons (IsPart f.formula.clauses) (Bounds c e.formula.vars (cap c)) [] (omega (arith, few, there)) (All-nil (IsPart f.formula.clauses))) in
    let first : AreParts f.formula.clauses parts = subst (λ (ds : Clauses). AreParts ds parts) (sym a.grown.clauses) (parts_longer cs more parts h.each) in
    record {
      layout = a.grown.layout;
      whole = a.grown.whole;
      room = a.grown.room ∙ h.room;
      vars = a.grown.vars ∙ sym (added_vars e xs c cap some h.vars);
      clauses = a.grown.clauses ∙ ap (λ (ds : Clauses). ds ++ more) h.clauses ∙ sym (added_clauses e xs c cap some h.vars);
      each = subst (AreParts f.formula.clauses) (sym a.parts_are) (parts_append f.formula.clauses parts two first last);
      after = ap (λ (ps : List Part). clause_after ps 0) a.parts_are ∙ after_append parts two 0;
      lines = added_lines e f parts behind xs c cap some a h;
    }

-- no room for them
pub passes_added : (e : Encoding) (parts : List Part) (xs : List Criterion) (c : Criterion) (cap : Criterion → ℕ) → 1 ≤ cap c →
    IsExpecting (layout_of e) xs cap e parts →
    PassesWith e (bound_behind e c (cap c)) → PassesLimits (expectation (layout_of e) (xs ++ c ∷ []) cap)
passes_added e parts xs c cap some h (inl many) = inl (subst (λ n. VARS < n) (sym (added_vars e xs c cap some h.vars)) many)
passes_added e parts xs c cap some h (inr words) =
    let more = clauses_behind e (bound_behind e c (cap c)) in
    let same : flat_map given (expected_lines (problem_of (layout_of e)) (xs ++ c ∷ []) cap) ≡ e.formula.clauses ++ more =
    added_clauses e xs c cap some h.vars ∙ ap (λ (ds : Clauses). ds ++ more) (sym h.clauses) in
    inr (subst (λ (ds : Clauses). ROOM < words_of ds) (sym same) (subst (λ n. n < words_of (e.formula.clauses ++ more)) h.room words))

-- ---- a place of an order

-- the places up to one more
next_place : (order : List Criterion) (i : ℕ) (c : Criterion) → slice_get order i ≡ Some c → take i order ++ c ∷ [] ≡ take (i + 1) order
next_place order i c at = take_next order i c (take i order) (take i order ++ c ∷ []) at refl refl

pub place_skipped : (y : Layout) (order : List Criterion) (i : ℕ) (c : Criterion) (cap : Criterion → ℕ) (e : Encoding) (parts : List Part) →
    slice_get order i ≡ Some c → cap c ≡ 0 → IsExpecting y (take i order) cap e parts → IsExpecting y (take (i + 1) order) cap e parts
place_skipped y order i c cap e parts at none h =
    subst (λ (cs : List Criterion). IsExpecting y cs cap e parts) (next_place order i c at) (expecting_skipped y (take i order) c cap e parts none h)

pub place_added : (e f : Encoding) (parts behind : List Part) (order : List Criterion) (i : ℕ) (c : Criterion) (n : ℕ) (cap : Criterion → ℕ) →
    slice_get order i ≡ Some c → n ≡ cap c → 1 ≤ n → AddsBounds e f parts behind c n →
    IsExpecting (layout_of e) (take i order) cap e parts → IsExpecting (layout_of e) (take (i + 1) order) cap f behind
place_added e f parts behind order i c n cap at is some a h =
    subst (λ (cs : List Criterion). IsExpecting (layout_of e) cs cap f behind) (next_place order i c at)
    (expecting_added e f parts behind (take i order) c cap (subst (λ m. 1 ≤ m) is some) (subst (λ m. AddsBounds e f parts behind c m) is a) h)

pub place_passes : (e : Encoding) (parts : List Part) (order : List Criterion) (i : ℕ) (c : Criterion) (n : ℕ) (cap : Criterion → ℕ) →
    slice_get order i ≡ Some c → n ≡ cap c → 1 ≤ n → IsExpecting (layout_of e) (take i order) cap e parts →
    PassesWith e (bound_behind e c n) → PassesLimits (expectation (layout_of e) (take (i + 1) order) cap)
place_passes e parts order i c n cap at is some h passes =
    subst (λ (cs : List Criterion). PassesLimits (expectation (layout_of e) cs cap)) (next_place order i c at)
    (passes_added e parts (take i order) c cap (subst (λ m. 1 ≤ m) is some) h (subst (λ m. PassesWith e (bound_behind e c m)) is passes))

-- where some places pass the limits, the whole order does
pub front_passes : (y : Layout) (order : List Criterion) (i : ℕ) (cap : Criterion → ℕ) → PassesLimits (expectation y (take i order) cap) →
    PassesLimits (expectation y order cap)
front_passes y order i cap passes =
    subst (λ (cs : List Criterion). PassesLimits (expectation y cs cap)) (take-append-drop i order) (passes_more y (take i order) (drop i order) cap passes)

-- what is expected so far is within the limits
pub within_limits : (y : Layout) (order : List Criterion) (cap : Criterion → ℕ) (e : Encoding) (parts : List Part) → IsExpecting y order cap e parts →
    IsFormula e.formula → PassesLimits (expectation y order cap) → ⊥
within_limits y order cap e parts h f (inl many) = let low = f.vars_limit in let is = h.vars in omega arith
within_limits y order cap e parts h f (inr words) =
    let low = f.within_room in
    let room = h.room in
    let is : words_of e.formula.clauses ≡ words_of (flat_map given (expectation y order cap).lines) = ap words_of h.clauses in
    omega arith

-- ---- a loop over the places

-- the same of another layout that is equal
pub rebased : (y z : Layout) (xs : List Criterion) (cap : Criterion → ℕ) (e : Encoding) (parts : List Part) → y ≡ z → IsExpecting y xs cap e parts →
    IsExpecting z xs cap e parts
rebased y z xs cap e parts same h = subst (λ (w : Layout). IsExpecting w xs cap e parts) same h

pub passes_as : (y z : Layout) (xs : List Criterion) (cap : Criterion → ℕ) → y ≡ z → PassesLimits (expectation y xs cap) → PassesLimits (expectation z xs cap)
passes_as y z xs cap same h = subst (λ (w : Layout). PassesLimits (expectation w xs cap)) same h

pub within_as : (y z : Layout) (cap : Criterion → ℕ) → y ≡ z → ((c : Criterion) → cap c ≤ limit_of y.graph y.grid c) → (c : Criterion) →
    cap c ≤ limit_of z.graph z.grid c
within_as y z cap same h = λ c. subst (λ (w : Layout). cap c ≤ limit_of w.graph w.grid c) same (h c)

-- all places
pub whole_order : (y : Layout) (order : List Criterion) (n : ℕ) (cap : Criterion → ℕ) (e : Encoding) (parts : List Part) → n ≡ length order →
    IsExpecting y (take n order) cap e parts → IsExpecting y order cap e parts
whole_order y order n cap e parts is h = subst (λ (cs : List Criterion). IsExpecting y cs cap e parts) (take_all n order (omega arith)) h

-- the one part of a formula without bounds
pub first_part : (cs : Clauses) (old new : List Part) (n : ℕ) → old ≡ [] → new ≡ old ++ ClausesTo n ∷ [] → n ≡ length cs → new ≡ ClausesTo (length cs) ∷ []
first_part cs old new n none more is = more ∙ ap (λ (ps : List Part). ps ++ ClausesTo n ∷ []) none ∙ ap (λ m. ClausesTo m ∷ []) is

-- a place, by how the call that adds its bounds ends
pub place_added_on : (r : Result Unit CnfFault) (e f : Encoding) (parts behind : List Part) (order : List Criterion) (i : ℕ) (c : Criterion) (n : ℕ)
    (cap : Criterion → ℕ) → slice_get order i ≡ Some c → n ≡ cap c → 1 ≤ n →
    OnOk r (HasGrown e f (bound_behind e c n)) → OnOk r (behind ≡ parts ++ ClausesTo (length f.formula.clauses) ∷ Bounds c e.formula.vars n ∷ []) →
    IsExpecting (layout_of e) (take i order) cap e parts → OnOk r (IsExpecting (layout_of e) (take (i + 1) order) cap f behind)
place_added_on (Ok u) e f parts behind order i c n cap at is some grown told h =
    place_added e f parts behind order i c n cap at is some (record { grown = grown; parts_are = told }) h
place_added_on (Err x) e f parts behind order i c n cap at is some grown told h = tt
