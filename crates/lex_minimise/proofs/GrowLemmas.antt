-- One more criterion's clauses and bounds, told whole.
use Rattle.std.proofs.Common.{◌≡◌, ◌≢◌, ◌≤◌, ◌<◌, ℕ, zero, suc, ◌+◌, ◌⊎◌, cond, List, [], ◌∷◌, ◌++◌, length, get_or, map, refl, sym, ◌∙◌, ap, subst, inl, inr}
use Rattle.std.proofs.Common.{arith, append-nil, append_assoc, length-append}
use Rattle.std.specs.Prelude.{All, AllPairs, Contains, flat_map, fold}
use Rattle.std.proofs.lemmas.Grind.{flat_map-append}
use Rattle.std.proofs.lemmas.List.{get_or_append_left, get_or_push}
use Rattle.std.proofs.lemmas.List.Elements.{All-nil, All-push, All-weaker, Contains-append_cases}
use Rattle.plan_core.specs.declared.criterion.Criterion.{Criterion}
use Rattle.plan_core.specs.Values.{limit_of}
use Rattle.plan_core.proofs.ListFacts.{each_pushed, pairs_head, pairs_tail}
use Rattle.cnf_core.specs.declared.literal.Var.{Var}
use Rattle.cnf_core.specs.declared.limits.TheConstants.{VARS}
use Rattle.cnf_core.specs.Lit.{Literal}
use Rattle.cnf_core.specs.Clause.{Clauses, words_of, IsNamed}
use Rattle.cnf_core.specs.Propagation.{AreAmong}
use Rattle.cnf_core.proofs.PropagationLemmas.{among_left, among_right}
use Rattle.track_order.specs.Order.{is_above, is_overlap}
use Rattle.refute_log.specs.declared.line.LogLine.TheVariants.{Formula, Bound as BoundLine}
use Rattle.outside_io.specs.declared.numbers.TheConstants.{MAX_NUMBER}
use Rattle.refute_log.specs.Lines.{MayBeTold}
use Rattle.refute_log.specs.Told.{Lines}
use Rattle.refute_log.specs.Log.{added, learnt, facts_of, clause_lines}
use Rattle.refute_log.proofs.LogLemmas.{derives_more, due_more}
use Rattle.refute_log.specs.Expected.{bound_lines}
use Rattle.drawing_cnf.specs.Expected.{drawing_vars, formula_clauses, formula_size}
use Rattle.drawing_cnf.specs.Bounded.{Bound, clauses_of_bound, bounds_clauses, AreBehind, CoversWith}
use Rattle.cdcl_core.specs.Kept.{Kept}
use Rattle.cdcl_core.specs.Belongs.{Belongs}
use Rattle.search_least.proofs.BuildLemmas.{sum_is_clauses}
use Rattle.drawing_cnf.specs.Lists.{drawing_problem, lines_of_bound, variables_behind}
use Rattle.drawing_cnf.specs.Layout.{Layout}
use Rattle.lex_minimise.specs.Known.{told_clauses, told_lines, with_bound, no_caps, caps_of, AreTold}
use Rattle.lex_minimise.proofs.CoverLemmas.{none_of}
use Rattle.drawing_cnf.proofs.ListLemmas.{first_line, sum_is_bound, with_more}
use Rattle.refute_log.proofs.ExpectedLemmas.{same_itself}
use Rattle.std.proofs.lemmas.List.Elements.{Contains-get_or}
use Rattle.refute_log.proofs.StepLemmas.{clause_lines_append}

-- ---- Bound lines belong to whatever the lines belonged to

one_bound_line : (lines : Lines) (k : Kept) (c : Criterion) (n : ℕ) (x : Var) → MayBeTold (BoundLine c n x) → Belongs lines k →
    Belongs (lines ++ BoundLine c n x ∷ []) k
one_bound_line lines k c n x formed h =
    let same : flat_map added (lines ++ BoundLine c n x ∷ []) ≡ flat_map added lines = flat_map-append added lines (BoundLine c n x ∷ [])
    ∙ append-nil (flat_map added lines) in
    record {
      formed = each_pushed MayBeTold lines (BoundLine c n x) h.formed formed;
      derives = derives_more lines (BoundLine c n x) h.derives (record {
        named = All-nil (λ (l : Literal). l.var ≤ (facts_of lines).greatest);
        answers = tt;
        implied = tt;
        says_more = tt;
      });
      due = due_more lines (BoundLine c n x) h.due (λ d e. absurd (cc));
      told = subst (λ (cs : Clauses). AreAmong cs k.clauses) (sym same) h.told;
      all = subst (λ (cs : Clauses). AreAmong k.clauses cs) (sym same) h.all;
      words = h.words ∙ sym (ap words_of same);
    }

pub bounds_belong : (lines : Lines) (k : Kept) (c : Criterion) (n last many : ℕ) → 1 ≤ n → n + many ≤ MAX_NUMBER + 1 → last + many ≤ VARS → Belongs lines k →
    Belongs (lines ++ bound_lines c n (variables_behind last many)) k
bounds_belong lines k c n last zero low high few h = subst (λ (ls : Lines). Belongs ls k) (sym (append-nil lines)) h
bounds_belong lines k c n last (suc many) low high few h =
    let x : Var = record { 0 = last + 1 } in
    subst (λ (ls : Lines). Belongs ls k) (append_assoc lines (BoundLine c n x ∷ []) (bound_lines c (n + 1) (variables_behind (last + 1) many)))
    (bounds_belong (lines ++ BoundLine c n x ∷ []) k c (n + 1) (last + 1) many (omega arith) (omega arith) (omega arith)
    (one_bound_line lines k c n x (record { formed = (low, omega arith, omega arith, omega arith); once = tt }) h))

-- ---- no Learnt line among them

formulas_learn_nothing : (cs : Clauses) → flat_map learnt (map Formula cs) ≡ []
formulas_learn_nothing [] = refl
formulas_learn_nothing (c ∷ cs) = formulas_learn_nothing cs

bounds_learn_nothing : (c : Criterion) (n : ℕ) (xs : List Var) → flat_map learnt (bound_lines c n xs) ≡ []
bounds_learn_nothing c n [] = refl
bounds_learn_nothing c n (x ∷ xs) = bounds_learn_nothing c (n + 1) xs

pub formula_count : (cs : Clauses) → length (flat_map learnt (map Formula cs)) ≡ 0
formula_count cs = ap length (formulas_learn_nothing cs)

pub block_count : (cs : Clauses) (c : Criterion) (n : ℕ) (xs : List Var) → length (flat_map learnt (map Formula cs ++ bound_lines c n xs)) ≡ 0
block_count cs c n xs = ap length (flat_map-append learnt (map Formula cs) (bound_lines c n xs)
    ∙ ap (λ (ds : Clauses). ds ++ flat_map learnt (bound_lines c n xs)) (formulas_learn_nothing cs) ∙ bounds_learn_nothing c n xs)

-- ---- one more bound

-- the cap of a criterion is that of its bound
cap_is : (y : Layout) (f : Criterion → ℕ) (told : List Bound) (a : Bound) → AllPairs (λ b d. b.criterion ≢ d.criterion) told → Contains told a →
    fold with_bound f told a.criterion ≡ a.cap
cap_is y f [] a once there = absurd (let lt = there.1 in omega arith)
cap_is y f (b ∷ bs) a once there = elim (Contains-append_cases (b ∷ []) bs a there) [
  | inl here ↦
      let e : b ≡ a = first_line b a here in
      let others : All (λ d. b.criterion ≢ d.criterion) bs = pairs_head (λ b d. b.criterion ≢ d.criterion) b bs once in
      let rest = none_of y.graph (drawing_vars y.graph y.grid) y.grid (with_bound f b) bs b.criterion others in
      subst (λ (z : Bound). fold with_bound (with_bound f b) bs z.criterion ≡ z.cap) e
      (rest.1 ∙ ap (λ t. cond t b.cap (f b.criterion)) (same_itself b.criterion))
  | inr later ↦ cap_is y (with_bound f b) bs a (pairs_tail (λ b d. b.criterion ≢ d.criterion) b bs once) later
]

-- a criterion without a cap has no bound
pub none_told : (y : Layout) (told : List Bound) (c : Criterion) → AreTold y told → caps_of told c ≡ 0 → All (λ b. b.criterion ≢ c) told
none_told y told c facts unbounded = λ i d lt same.
    let b = get_or told i d in
    let cap : caps_of told b.criterion ≡ b.cap = cap_is y no_caps told b facts.once (Contains-get_or told i d lt) in
    let positive = facts.positive i d lt in
    let none : caps_of told b.criterion ≡ 0 = ap (caps_of told) same ∙ unbounded in
    omega arith

-- no two bounds of one criterion, with one more
once_more : (told : List Bound) (b : Bound) → AllPairs (λ a d. a.criterion ≢ d.criterion) told → All (λ a. a.criterion ≢ b.criterion) told →
    AllPairs (λ a d. a.criterion ≢ d.criterion) (told ++ b ∷ [])
once_more told b once other = λ i j d lt low. by i j d lt (low_or_last j low)
  where
    low_or_last : (j : ℕ) → j < length (told ++ b ∷ []) → (j < length told) ⊎ (j ≡ length told)
    low_or_last j low = let size = length-append told (b ∷ []) in grind (arith, size, low)

    by : (i j : ℕ) (d : Bound) → i < j → (j < length told) ⊎ (j ≡ length told) →
        (get_or (told ++ b ∷ []) i d).criterion ≢ (get_or (told ++ b ∷ []) j d).criterion
    by i j d lt (inl low) =
        let ei : get_or (told ++ b ∷ []) i d ≡ get_or told i d = get_or_append_left told (b ∷ []) d i (omega arith) in
        let ej : get_or (told ++ b ∷ []) j d ≡ get_or told j d = get_or_append_left told (b ∷ []) d j low in
        λ e. once i j d lt low (sym (ap (λ (x : Bound). x.criterion) ei) ∙ e ∙ ap (λ (x : Bound). x.criterion) ej)
    by i j d lt (inr last) =
        let ei : get_or (told ++ b ∷ []) i d ≡ get_or told i d = get_or_append_left told (b ∷ []) d i (omega arith) in
        let ej : get_or (told ++ b ∷ []) j d ≡ b = get_or_push told b d j (sym last) in
        λ e. other i d (omega arith) (sym (ap (λ (x : Bound). x.criterion) ei) ∙ e ∙ ap (λ (x : Bound). x.criterion) ej)

-- the clauses with one more bound
pub clauses_more : (y : Layout) (told : List Bound) (b : Bound) →
    told_clauses y (told ++ b ∷ []) ≡ told_clauses y told ++ clauses_of_bound y.graph (drawing_vars y.graph y.grid) y.grid b
clauses_more y told b =
    let x = drawing_vars y.graph y.grid in
    let first = formula_clauses y.graph (is_above y.order) (is_overlap y.order) y.grid in
    ap (λ (cs : Clauses). first ++ cs) (flat_map-append (clauses_of_bound y.graph x y.grid) told (b ∷ [])
    ∙ ap (λ (cs : Clauses). bounds_clauses y.graph x y.grid told ++ cs) (append-nil (clauses_of_bound y.graph x y.grid b)))
    ∙ sym (append_assoc first (bounds_clauses y.graph x y.grid told) (clauses_of_bound y.graph x y.grid b))

-- a variable that is named is named among more clauses
pub named_in : (cs ds : Clauses) (v : ℕ) → AreAmong cs ds → IsNamed cs v → IsNamed ds v
named_in cs ds v among n = let d = among n.clause n.among in record { clause = d.0; among = d.1; lit = n.lit; inside = (d.2 n.lit).0 n.inside; var = n.var }

pub told_more : (y : Layout) (told : List Bound) (b : Bound) → AreTold y told → caps_of told b.criterion ≡ 0 → 1 ≤ b.cap →
    b.cap ≤ limit_of y.graph y.grid b.criterion → b.last + b.cap ≤ VARS →
    AreBehind y.graph (drawing_vars y.graph y.grid) y.grid (formula_size y.graph (is_above y.order) (is_overlap y.order) y.grid) (told ++ b ∷ []) →
    ((k : ℕ) → 1 ≤ k → k ≤ b.cap → IsNamed (clauses_of_bound y.graph (drawing_vars y.graph y.grid) y.grid b) (b.last + k)) →
    CoversWith y.graph (is_above y.order) y.grid (drawing_vars y.graph y.grid) (told_clauses y (told ++ b ∷ [])) (told ++ b ∷ []) → AreTold y (told ++ b ∷ [])
told_more y told b facts none positive within few behind named covers =
    let x = drawing_vars y.graph y.grid in
    let now = told_clauses y (told ++ b ∷ []) in
    let N : Bound → Type 0 = λ a. (k : ℕ) → 1 ≤ k → k ≤ a.cap → IsNamed now (a.last + k) in
    record {
      once = once_more told b facts.once (none_told y told b.criterion facts none);
      within = All-push (λ a. a.cap ≤ limit_of y.graph y.grid a.criterion) told b facts.within within;
      positive = All-push (λ a. 1 ≤ a.cap) told b facts.positive positive;
      few = All-push (λ a. a.last + a.cap ≤ VARS) told b facts.few few;
      behind = behind;
      named = All-push N told b
          (All-weaker (λ a. (k : ℕ) → 1 ≤ k → k ≤ a.cap → IsNamed (told_clauses y told) (a.last + k)) N
          (λ a h k low high. subst (λ (cs : Clauses). IsNamed cs (a.last + k)) (sym (clauses_more y told b))
          (named_in (told_clauses y told) (told_clauses y told ++ clauses_of_bound y.graph x y.grid b) (a.last + k)
          (among_left (told_clauses y told) (clauses_of_bound y.graph x y.grid b)) (h k low high))) told facts.named)
          (λ k low high. subst (λ (cs : Clauses). IsNamed cs (b.last + k)) (sym (clauses_more y told b))
          (named_in (clauses_of_bound y.graph x y.grid b) (told_clauses y told ++ clauses_of_bound y.graph x y.grid b) (b.last + k)
          (among_right (told_clauses y told) (clauses_of_bound y.graph x y.grid b)) (named k low high)));
      covers = covers;
    }

-- ---- the lines with one more bound

block_is_clauses : (y : Layout) (b : Bound) → 1 ≤ b.cap → clause_lines (lines_of_bound y.graph (drawing_vars y.graph y.grid) y.grid b) ≡ lines_of_bound y.graph
    (drawing_vars y.graph y.grid) y.grid b
block_is_clauses y b positive =
    let p = drawing_problem y.graph (is_above y.order) (is_overlap y.order) y.grid in
    let same = sum_is_bound y.graph (is_above y.order) (is_overlap y.order) y.grid b.last b.criterion b.cap positive in
    ap clause_lines (sym same) ∙ sum_is_clauses p b.last b.criterion b.cap ∙ same

pub told_are_more : (y : Layout) (told : List Bound) (b : Bound) (lines more : Lines) → 1 ≤ b.cap → clause_lines lines ≡ told_lines y told →
    more ≡ lines_of_bound y.graph (drawing_vars y.graph y.grid) y.grid b → clause_lines (lines ++ more) ≡ told_lines y (told ++ b ∷ [])
told_are_more y told b lines more positive are is =
    let block = lines_of_bound y.graph (drawing_vars y.graph y.grid) y.grid b in
    clause_lines_append lines more ∙ ap (λ (ls : Lines). ls ++ clause_lines more) are
    ∙ ap (λ (ls : Lines). told_lines y told ++ ls) (ap clause_lines is ∙ block_is_clauses y b positive)
    ∙ sym (with_more y.graph (is_above y.order) (is_overlap y.order) y.grid told b)
