-- The start of a search, and the whole of its lines.
use Rattle.std.proofs.Common.{◌≡◌, ◌≤◌, ◌<◌, ℕ, ◌+◌, ◌-◌, ◌⊎◌, false, List, [], ◌++◌, length, drop, map, refl, sym, ◌∙◌, ap, subst, inl, inr, arith}
use Rattle.std.proofs.Common.{append-nil, append_assoc, Result, Ok, Err, IfOk}
use Rattle.std.specs.Prelude.{All, Contains, None, flat_map}
use Rattle.std.proofs.lemmas.List.Elements.{All-nil}
use Rattle.outside_io.specs.Counts.{rose_by}
use Rattle.plan_core.specs.declared.criterion.Criterion.{Criterion}
use Rattle.plan_core.specs.Graph.{Graph}
use Rattle.plan_core.specs.Grid.{GridSize}
use Rattle.plan_core.specs.Drawing.{Drawing}
use Rattle.plan_core.specs.Values.{values_of, value_of, limit_of}
use Rattle.cnf_core.specs.declared.limits.TheConstants.{VARS}
use Rattle.cnf_core.specs.Clause.{Clauses, words_of, IsNamed}
use Rattle.cnf_core.specs.Assignment.{SatisfiesAll}
use Rattle.cnf_core.specs.Formula.{Cnf}
use Rattle.track_order.specs.Order.{EdgeOrder, is_above, is_overlap}
use Rattle.refute_log.specs.declared.line.LogLine.{LogLine}
use Rattle.refute_log.specs.declared.line.LogLine.TheVariants.{Formula}
use Rattle.refute_log.specs.Told.{Lines}
use Rattle.refute_log.specs.ToldTo.{IsToldTo}
use Rattle.refute_log.specs.Log.{given, learnt}
use Rattle.refute_log.specs.Bounds.{MeetsLog}
use Rattle.refute_log.specs.Expected.{caps, expected_lines}
use Rattle.refute_log.specs.Full.{CapsPass}
use Rattle.refute_log.proofs.ExpectedLemmas.{expected_none, expected_vars_none}
use Rattle.drawing_cnf.specs.Expected.{drawing_vars, formula_clauses, formula_size, Covers}
use Rattle.drawing_cnf.specs.Encoding.{Encoding}
use Rattle.drawing_cnf.specs.Bounded.{Bound}
use Rattle.drawing_cnf.specs.Bounds.{IsExact}
use Rattle.drawing_cnf.specs.Whole.{IsWhole}
use Rattle.drawing_cnf.specs.Layout.{Layout, layout, problem_of, layout_of}
use Rattle.drawing_cnf.proofs.ListLemmas.{given_formulas}
use Rattle.cdcl_core.specs.Kept.{Kept, AreGiven, blank, with_more_vars}
use Rattle.cdcl_core.specs.Belongs.{Belongs}
use Rattle.cdcl_core.proofs.ViewLemmas.{new_given, new_belongs}
use Rattle.search_least.specs.declared.outcome.Outcome.TheVariants.{Room}
use Rattle.search_least.specs.Task.{greatest_of}
use Rattle.refute_log.specs.Steps.{ToldBehind, GoesOn}
use Rattle.search_least.specs.Outcome.{IsOutcome, first_lines}
use Rattle.refute_log.proofs.StepLemmas.{rose_both, count_more}
use Rattle.search_least.proofs.BuildLemmas.{formulas_are_clauses}
use Rattle.lex_minimise.specs.Known.{told_clauses, AreTold, KnowsLines, IsReady}
use Rattle.lex_minimise.specs.Task.{task_of}
use Rattle.lex_minimise.specs.Told.{HasTaken, IsLogOfSolver}
use Rattle.lex_minimise.proofs.TellLemmas.{goes_weaker}
use Rattle.lex_minimise.proofs.CoverLemmas.{known_lines}
use Rattle.lex_minimise.proofs.GrowLemmas.{formula_count}

-- ---- no room for the formula

nothing_there : (line : LogLine) → Contains [] line → ⊥
nothing_there line there = let lt = there.1 in omega arith

-- an assignment for no clauses
nothing_met : (d : Drawing) → MeetsLog [] (values_of d)
nothing_met d = record { assignment = λ x. false; formula = tt; bounds = λ c k x there. absurd (nothing_there _ there) }

no_caps_yet : (greatest : Criterion → ℕ) (order : List Criterion) → All (λ c. caps greatest [] c ≡ 0) order
no_caps_yet greatest order = λ i d lt. omega arith

pub no_room_end : (y : Layout) (budget room : ℕ) (order : List Criterion) →
    (VARS < formula_size y.graph (is_above y.order) (is_overlap y.order) y.grid) ⊎
    (room < words_of (formula_clauses y.graph (is_above y.order) (is_overlap y.order) y.grid)) →
    IsOutcome (task_of y budget room) order (Room None 0) []
no_room_end y budget room order full =
    let p = task_of y budget room in
    record {
      searched = record {
        formed = tt;
        derives = λ i line at. absurd (cc);
        due = λ i c at. absurd (cc);
        covers = λ d lawful. nothing_met d;
        front = (expected_lines p.encoding order (caps (greatest_of p) []), refl);
        fits = omega arith;
        within = omega arith;
        few = λ some. absurd (some refl);
        placed = λ i line at. absurd (cc);
      };
      told = inr refl;
      settled_is = refl;
      unbounded = λ c. omega arith;
      no_model = nothing_there _;
      not_none = nothing_there _;
      cause = inr (refl, passes full);
    }
  where
    passes : (VARS < formula_size y.graph (is_above y.order) (is_overlap y.order) y.grid) ⊎
        (room < words_of (formula_clauses y.graph (is_above y.order) (is_overlap y.order) y.grid)) →
        CapsPass (problem_of y) order [] room (caps (limit_of y.graph y.grid) [])
    passes (inl h) = inl (subst (λ n. VARS < n) (sym (expected_vars_none (problem_of y) order (caps (limit_of y.graph y.grid) [])
        (no_caps_yet (limit_of y.graph y.grid) order))) h)
    passes (inr h) =
        let cs = formula_clauses y.graph (is_above y.order) (is_overlap y.order) y.grid in
        let words : words_of (flat_map given (expected_lines (problem_of y) order (caps (limit_of y.graph y.grid) []))) ≡ words_of cs =
        ap (λ (ls : Lines). words_of (flat_map given ls)) (expected_none (problem_of y) order (caps (limit_of y.graph y.grid) [])
        (no_caps_yet (limit_of y.graph y.grid) order)) ∙ ap words_of (given_formulas cs) in
        inr (omega (arith, h, words))

-- ---- the formula's clauses were told

told_none : (y : Layout) → told_clauses y [] ≡ formula_clauses y.graph (is_above y.order) (is_overlap y.order) y.grid
told_none y = append-nil (formula_clauses y.graph (is_above y.order) (is_overlap y.order) y.grid)

-- with no bound yet
first_told : (y : Layout) → Covers y.graph (is_above y.order) y.grid (drawing_vars y.graph y.grid)
    (formula_clauses y.graph (is_above y.order) (is_overlap y.order) y.grid) → AreTold y []
first_told y covers = record {
  once = λ i j d lt low. absurd (omega arith);
  within = All-nil (λ (b : Bound). b.cap ≤ limit_of y.graph y.grid b.criterion);
  positive = All-nil (λ (b : Bound). 1 ≤ b.cap);
  few = All-nil (λ (b : Bound). b.last + b.cap ≤ VARS);
  behind = tt;
  named = All-nil (λ (b : Bound). (k : ℕ) → 1 ≤ k → k ≤ b.cap → IsNamed (told_clauses y []) (b.last + k));
  covers = λ d lawful.
      let m = covers d lawful in
      record {
        to = m.to;
        satisfies = subst (SatisfiesAll m.to) (sym (told_none y)) m.satisfies;
        stands = m.stands;
        tells = All-nil (λ (b : Bound). IsExact m.to b.last b.cap (value_of (values_of d) b.criterion));
      };
}

-- what encode gives, the formula of these drawings
pub record IsFirst (y : Layout) (room : ℕ) (e : Encoding) : Type 0 where
  pub layout : layout_of e ≡ y
  pub whole : IsWhole e
  pub bounds : e.bounds ≡ []
  pub kept : e.formula.room ≡ room
  pub clauses : e.formula.clauses ≡ formula_clauses y.graph (is_above y.order) (is_overlap y.order) y.grid
  pub vars : e.formula.vars ≡ formula_size y.graph (is_above y.order) (is_overlap y.order) y.grid
  pub words_fit : words_of (formula_clauses y.graph (is_above y.order) (is_overlap y.order) y.grid) ≤ room
  pub vars_fit : formula_size y.graph (is_above y.order) (is_overlap y.order) y.grid ≤ VARS
  pub covers : Covers y.graph (is_above y.order) y.grid (drawing_vars y.graph y.grid) (formula_clauses y.graph (is_above y.order) (is_overlap y.order) y.grid)

pub layout_is : (e : Encoding) (g : Graph) (o : EdgeOrder) (grid : GridSize) → e.graph ≡ g → e.order ≡ o → e.grid ≡ grid → layout_of e ≡ layout g o grid
layout_is e g o grid a b c = ap (λ (x : Graph). layout x e.order e.grid) a ∙ ap (λ (x : EdgeOrder). layout g x e.grid) b ∙ ap (λ (x : GridSize). layout g o x) c

-- the clauses of the formula are all from the first on
first_clauses : (y : Layout) (room : ℕ) (e : Encoding) (f : Cnf) → IsFirst y room e → f ≡ e.formula →
    drop 0 f.clauses ≡ formula_clauses y.graph (is_above y.order) (is_overlap y.order) y.grid
first_clauses y room e f first is = ap (λ (x : Cnf). x.clauses) is ∙ first.clauses

pub first_does : (y : Layout) (budget room : ℕ) (e : Encoding) (f : Cnf) (more : Lines) → IsFirst y room e → f ≡ e.formula →
    more ≡ map Formula (drop 0 f.clauses) → more ≡ first_lines (task_of (layout_of e) budget room)
first_does y budget room e f more first is does =
    does ∙ ap (map Formula) (first_clauses y room e f first is) ∙ ap (λ (z : Layout). map Formula
    (formula_clauses z.graph (is_above z.order) (is_overlap z.order) z.grid)) (sym first.layout)

pub first_ready : (y : Layout) (budget room : ℕ) (e : Encoding) (f : Cnf) (old new : Kept) → IsFirst y room e → f ≡ e.formula → old ≡ blank room →
    HasTaken (with_more_vars old (f.vars - old.vars)) new (drop 0 f.clauses) → IsReady e [] budget room new
first_ready y budget room e f old new first is blank_is t =
    let given : AreGiven (drop 0 f.clauses) new.clauses = t.given [] (new_given old room blank_is) in
    record {
      whole = first.whole;
      bounds = first.bounds;
      facts = first_told (layout_of e)
          (subst (λ (z : Layout). Covers z.graph (is_above z.order) z.grid (drawing_vars z.graph z.grid)
          (formula_clauses z.graph (is_above z.order) (is_overlap z.order) z.grid)) (sym first.layout) first.covers);
      working = t.working;
      vars = (let v = t.vars in let z = ap (λ (k : Kept). k.vars) blank_is in let w = ap (λ (x : Cnf). x.vars) is in omega (arith, v, z, w));
      room_is = t.room ∙ ap (λ (k : Kept). k.room) blank_is;
      formula_room = first.kept;
      given = subst (λ (cs : Clauses). AreGiven cs new.clauses) (ap (λ (x : Cnf). x.clauses) is) given;
      spent = (let l = t.learnt in let z = ap (λ (k : Kept). k.learnt) blank_is in omega (arith, l, z));
    }

pub first_knows : (y : Layout) (budget room : ℕ) (e : Encoding) (f : Cnf) (old new : Kept) (l0 l1 : Lines → Type 0) (n0 n1 : ℕ) → IsFirst y room e →
    f ≡ e.formula → old ≡ blank room →
    HasTaken (with_more_vars old (f.vars - old.vars)) new (drop 0 f.clauses) →
    GoesOn (λ ls. Belongs ls old) (λ ls. Belongs ls new) l0 l1 n0 n1 (λ lines more. more ≡ map Formula (drop 0 f.clauses)) →
    KnowsLines (layout_of e) [] budget room new (first_lines (task_of (layout_of e) budget room))
first_knows y budget room e f old new l0 l1 n0 n1 first is blank_is t goes =
    let ready = first_ready y budget room e f old new first is blank_is t in
    let cs = formula_clauses e.graph (is_above e.order) (is_overlap e.order) e.grid in
    let told : ToldBehind (λ ls. Belongs ls new) l0 l1 n0 n1 [] (λ more. more ≡ map Formula (drop 0 f.clauses)) = goes [] (new_belongs old room blank_is) in
    let belongs : Belongs (map Formula cs) new = subst (λ (ls : Lines). Belongs ls new) (first_does y budget room e f told.more first is told.does)
    told.knows in
    let words = t.words in
    let none = ap (λ (k : Kept). k.words) blank_is in
    let all = ap words_of (first_clauses y room e f first is) in
    let fit = first.words_fit in
    let vars = ready.vars in
    let size = first.vars in
    let few = first.vars_fit in
    let count = t.learnt in
    let zero = ap (λ (k : Kept). k.learnt) blank_is in
    let unlearnt : new.learnt ≡ 0 = omega (arith, count, zero) in
    known_lines (layout_of e) [] budget room new (map Formula cs) ready.facts belongs (formulas_are_clauses cs ∙ sym (append-nil (map Formula cs)))
    (unlearnt ∙ sym (formula_count cs)) (omega (arith, unlearnt)) (omega (arith, words, none, all, fit)) (omega (arith, vars, size, few))

-- ---- the whole

-- a log was told the lines of a formula, and those of a search behind them
pub told_whole : (first : Lines) (R : Lines → Type 0) (room : ℕ) (old mid new : Kept) (l0 l1 l2 : Lines → Type 0) (n0 n1 n2 : ℕ) → old ≡ blank room →
    GoesOn (λ ls. Belongs ls old) (λ ls. Belongs ls mid) l0 l1 n0 n1 (λ lines more. more ≡ first) →
    ToldBehind (IsLogOfSolver new) l1 l2 n1 n2 first (λ more. R (first ++ more)) →
    (lines : Lines) × IsToldTo l0 l2 n0 n2 lines × R lines × IsLogOfSolver new lines
told_whole first R room old mid new l0 l1 l2 n0 n1 n2 blank_is goes second =
    let told : ToldBehind (λ ls. Belongs ls mid) l0 l1 n0 n1 [] (λ more. more ≡ first) = goes [] (new_belongs old room blank_is) in
    let lines : Lines = told.more ++ second.more in
    let same : first ++ second.more ≡ lines = ap (λ (ls : Lines). ls ++ second.more) (sym told.does) in (
      lines,
      record {
        behind = λ ls t. subst l2 (append_assoc ls told.more second.more) (second.told (ls ++ told.more) (told.told ls t));
        counted = second.counted ∙ ap (rose_by (length (flat_map learnt second.more))) told.counted
            ∙ rose_both (length (flat_map learnt told.more)) (length (flat_map learnt second.more)) n0
            ∙ ap (λ n. rose_by n n0) (sym (count_more told.more second.more));
      },
      subst R same second.does,
      subst (IsLogOfSolver new) same second.knows,
    )

pub whole_told : (y : Layout) (budget room : ℕ) (e : Encoding) (f : Cnf) (R : Layout → Lines → Type 0) (old mid new : Kept) (l0 l1 l2 : Lines → Type 0)
    (n0 n1 n2 : ℕ) → IsFirst y room e → f ≡ e.formula → old ≡ blank room →
    GoesOn (λ ls. Belongs ls old) (λ ls. Belongs ls mid) l0 l1 n0 n1 (λ lines more. more ≡ map Formula (drop 0 f.clauses)) →
    ToldBehind (IsLogOfSolver new) l1 l2 n1 n2 (first_lines (task_of (layout_of e) budget room))
    (λ more. R (layout_of e) (first_lines (task_of (layout_of e) budget room) ++ more)) →
    (lines : Lines) × IsToldTo l0 l2 n0 n2 lines × R y lines × IsLogOfSolver new lines
whole_told y budget room e f R old mid new l0 l1 l2 n0 n1 n2 first is blank_is goes second =
    let start : Lines = first_lines (task_of (layout_of e) budget room) in
    let told = told_whole start (R (layout_of e)) room old mid new l0 l1 l2 n0 n1 n2 blank_is
    (goes_weaker (λ ls. Belongs ls old) (λ ls. Belongs ls mid) l0 l1 n0 n1 (λ lines more. more ≡ map Formula (drop 0 f.clauses)) (λ lines more. more ≡ start)
    goes (λ lines more does. first_does y budget room e f more first is does)) second in
    (told.0, told.1, subst (λ (z : Layout). R z told.0) first.layout told.2, told.3)

pub nothing_told : (k : Kept) (room n : ℕ) (R : Lines → Type 0) (log : Lines → Type 0) → k ≡ blank room → R [] →
    (lines : Lines) × IsToldTo log log n n lines × R lines × IsLogOfSolver k lines
nothing_told k room n R log is end = (
  [],
  record { behind = λ ls t. subst log (sym (append-nil ls)) t; counted = refl },
  end,
  record { belongs = new_belongs k room is; learnt = ap (λ (x : Kept). x.learnt) is },
)

-- ---- the search

pub same_task : (y z : Layout) (a b m n : ℕ) → y ≡ z → a ≡ b → m ≡ n → task_of y a m ≡ task_of z b n
same_task y z a b m n e f h = ap (λ (x : Layout). task_of x a m) e ∙ ap (λ x. task_of z x m) f ∙ ap (λ x. task_of z b x) h

pub if_ok_from : {T E : Type 0} (r : Result T E) (P Q : T → Type 0) → IfOk r P → ((x : T) → P x → Q x) → IfOk r Q
if_ok_from {T} {E} (Ok x) P Q h f = f x h
if_ok_from {T} {E} (Err e) P Q h f = tt
