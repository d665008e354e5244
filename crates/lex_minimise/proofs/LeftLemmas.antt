-- What a log tells after an error.
use Rattle.std.proofs.Common.{◌≡◌, ◌≤◌, ◌<◌, ℕ, zero, suc, ◌+◌, ◌-◌, ◌⊎◌, List, [], ◌∷◌, ◌++◌, length, take, drop, map, get_or, refl, sym, ◌∙◌, ap, subst, inl}
use Rattle.std.proofs.Common.{inr, arith, append-nil, append_assoc}
use Rattle.std.specs.Prelude.{min, max, flat_map}
use Rattle.outside_io.specs.Counts.{last_count}
use Rattle.std.proofs.lemmas.List.{map-append, take-append-drop}
use Rattle.std.proofs.lemmas.List.Elements.{All-nil}
use Rattle.plan_core.specs.declared.criterion.Criterion.{Criterion}
use Rattle.cnf_core.specs.declared.literal.Var.{Var}
use Rattle.cnf_core.specs.Lit.{Literal}
use Rattle.cnf_core.specs.Clause.{Clauses}
use Rattle.cnf_core.specs.Formula.{Cnf}
use Rattle.refute_log.specs.declared.line.LogLine.TheVariants.{Formula, Bound as BoundLine}
use Rattle.refute_log.specs.Told.{Lines, AddsAll, TellsNoMore}
use Rattle.refute_log.specs.Log.{facts_of, clause_lines, learnt, learnt_count, BeginsLines, Derives}
use Rattle.refute_log.specs.Steps.{ToldBehind, GoesOn, StillDerives, GivesNoMore, Leaves}
use Rattle.refute_log.proofs.LogLemmas.{derives_none, derives_more}
use Rattle.refute_log.proofs.StepLemmas.{leaves_more, leaves_known, leaves_then, clause_lines_append, count_more}
use Rattle.refute_log.proofs.StepLemmas.{counted_within, few_kept, few_within, few_counted, few_left}
use Rattle.refute_log.specs.Expected.{bound_lines, sum_lines, sums, expected_lines}
use Rattle.drawing_cnf.specs.Encoding.{Encoding, encoded_vars}
use Rattle.drawing_cnf.specs.Expected.{drawing_vars}
use Rattle.drawing_cnf.specs.Bounded.{Bound, bound}
use Rattle.track_order.specs.Order.{is_above, is_overlap}
use Rattle.cdcl_core.specs.Kept.{Kept, blank}
use Rattle.cdcl_core.specs.Belongs.{Belongs, GivesAtMost, HasCounted}
use Rattle.cdcl_core.proofs.ViewLemmas.{new_belongs}
use Rattle.search_least.proofs.BuildLemmas.{formulas_are_clauses, bounds_are_clauses}
use Rattle.search_least.specs.Task.{Task, greatest_of}
use Rattle.search_least.specs.Outcome.{IsLeastLeft, first_lines}
use Rattle.search_least.proofs.OutcomeLemmas.{zero_told}
use Rattle.drawing_cnf.specs.Lists.{variables_behind, lines_of_bound}
use Rattle.drawing_cnf.specs.Layout.{Layout, problem_of, layout_of}
use Rattle.drawing_cnf.proofs.ListLemmas.{sum_is_bound}
use Rattle.trade_off.specs.Outcome.{front_lines, IsFrontLeft}
use Rattle.lex_minimise.specs.Known.{KnowsLines, IsReady}
use Rattle.lex_minimise.specs.Task.{task_of}
use Rattle.drawing_cnf.specs.Behind.{HasGrown}
use Rattle.lex_minimise.specs.Grown.{IsGrown}
use Rattle.lex_minimise.proofs.TellLemmas.{told_next}
use Rattle.lex_minimise.proofs.GrowLemmas.{formula_count, block_count}
use Rattle.lex_minimise.proofs.StartLemmas.{IsFirst, first_does}

-- ---- clauses

-- so many Learnt lines are counted of what a log tells
abbrev pub Counts : (log : Lines → Type 0) → ℕ → Type 0
Counts log n = (lines : Lines) → log lines → n ≡ learnt_count lines

-- lines without a Learnt one
pub few_added : (most : ℕ) (lines more : Lines) → length (flat_map learnt more) ≡ 0 → learnt_count (lines ++ more) ≤ max most (learnt_count lines)
few_added most lines more none =
    let all = count_more lines more in
    let same : length (flat_map learnt (lines ++ more)) ≡ length (flat_map learnt lines) = omega (arith, none, all) in
    few_kept most lines (lines ++ more) (ap (λ n. min n last_count) same)

-- clauses of the formula
pub few_formulas : (most : ℕ) (cs : Clauses) (lines more : Lines) → more ≡ map Formula cs → learnt_count (lines ++ more) ≤ max most (learnt_count lines)
few_formulas most cs lines more is = few_added most lines more (ap (λ (ls : Lines). length (flat_map learnt ls)) is ∙ formula_count cs)

-- one clause was to be given
pub clause_left : {most : ℕ} (known before now : Lines → Type 0) (n0 n1 : ℕ) (c d : List Literal) → d ≡ c → StillDerives known before now →
    GivesAtMost before now d → Counts before n0 → Counts now n1 → n1 ≡ n0 → Leaves most (Formula c ∷ []) known before now
clause_left {most} known before now n0 n1 c d same still gives counted_before counted_now as_many = λ lines k was told is. record {
  derives = still lines k was told is;
  front = (by lines told (gives lines was told is)).0;
  begins = (by lines told (gives lines was told is)).1;
  gives = (by lines told (gives lines was told is)).2;
  few = few_kept most lines told (sym (counted_now told is) ∙ as_many ∙ counted_before lines was);
}
  where
    by : (lines told : Lines) → (clause_lines told ≡ clause_lines lines) ⊎ (clause_lines told ≡ clause_lines lines ++ Formula d ∷ []) →
        (front : Lines) × BeginsLines front (Formula c ∷ []) × (clause_lines told ≡ clause_lines lines ++ front)
    by lines told (inl e) = ([], (Formula c ∷ [], refl), e ∙ sym (append-nil (clause_lines lines)))
    by lines told (inr e) = (Formula c ∷ [], ([], refl), e ∙ ap (λ (x : List Literal). clause_lines lines ++ Formula x ∷ []) same)

-- no clause was to be given, and the rest of the budget was what may be learnt
pub search_left : (budget spent rest n0 n1 : ℕ) (known belong before now : Lines → Type 0) → rest ≡ budget - spent →
    ((lines : Lines) → known lines → belong lines × (spent ≡ length (flat_map learnt lines)) × (spent ≤ budget)) →
    StillDerives belong before now → GivesNoMore before now → HasCounted rest n0 n1 → Counts before n0 → Counts now n1 → Leaves budget [] known before now
search_left budget spent rest n0 n1 known belong before now is_rest facts still no_more few counted_before counted_now = λ lines k was told is.
    let of = facts lines k in
    let within : few.number ≤ budget - length (flat_map learnt lines) = (let le = few.few in let same = of.1 in omega (arith, le, same, is_rest)) in
    record {
      derives = still lines of.0 was told is;
      front = [];
      begins = ([], refl);
      gives = no_more lines was told is ∙ sym (append-nil (clause_lines lines));
      few = few_counted budget few.number n0 lines told within (subst (λ n. n ≤ budget) of.1 of.2) (sym (counted_now told is) ∙ few.counted)
          (counted_before lines was);
    }

-- the clauses up to one of them were given
pub clauses_left : {most : ℕ} (k0 k1 l0 l1 l2 : Lines → Type 0) (n0 n1 : ℕ) (cs : Clauses) (from at : ℕ) → from ≤ at → at < length cs →
    GoesOn k0 k1 l0 l1 n0 n1 (λ lines more. more ≡ map Formula (take (at - from) (drop from cs))) → Leaves most (Formula (get_or cs at []) ∷ []) k1 l1 l2 →
    Leaves most (map Formula (drop from cs)) k0 l0 l2
clauses_left {most} k0 k1 l0 l1 l2 n0 n1 cs from at low high goes h =
    let ds = drop from cs in
    let before = take (at - from) ds in
    let m = (at + 1) - from in
    let xs = map Formula before in
    let ys = Formula (get_or cs at []) ∷ [] in
    let whole : (xs ++ ys) ++ map Formula (drop m ds) ≡ map Formula ds =
    ap (λ (ls : Lines). ls ++ map Formula (drop m ds)) (sym (map-append Formula before (get_or cs at [] ∷ []))
    ∙ ap (map Formula) (told_next cs from at low high))
    ∙ sym (map-append Formula (take m ds) (drop m ds)) ∙ ap (map Formula) (take-append-drop m ds) in
    subst (λ (ls : Lines). Leaves most ls k0 l0 l2) whole
    (leaves_more (xs ++ ys) (map Formula (drop m ds)) k0 l0 l2
    (leaves_then k0 k1 l0 l1 l2 n0 n1 (λ lines more. more ≡ xs) xs ys goes
    (λ lines more ka kb r. clause_lines_append lines more ∙ ap (λ (ls : Lines). clause_lines lines ++ ls) (ap clause_lines r ∙ formulas_are_clauses before))
    (λ lines more ka kb r. few_formulas most before lines more r) h))

-- ---- Bound lines

bounds_begin : (c : Criterion) (k last i n : ℕ) → i ≤ n → BeginsLines (bound_lines c k (variables_behind last i)) (bound_lines c k (variables_behind last n))
bounds_begin c k last zero n le = (bound_lines c k (variables_behind last n), refl)
bounds_begin c k last (suc i) zero le = absurd (omega (arith, le))
bounds_begin c k last (suc i) (suc n) le =
    let rest = bounds_begin c (k + 1) (last + 1) i n (omega (arith, le)) in
    (rest.0, ap (λ (ls : Lines). BoundLine c k (record { 0 = last + 1 }) ∷ ls) rest.1)

bounds_derive : (lines : Lines) (c : Criterion) (k : ℕ) (xs : List Var) → Derives lines → Derives (lines ++ bound_lines c k xs)
bounds_derive lines c k [] h = subst Derives (sym (append-nil lines)) h
bounds_derive lines c k (x ∷ xs) h =
    subst Derives (append_assoc lines (BoundLine c k x ∷ []) (bound_lines c (k + 1) xs))
    (bounds_derive (lines ++ BoundLine c k x ∷ []) c (k + 1) xs
    (derives_more lines (BoundLine c k x) h (record {
      named = All-nil (λ (l : Literal). l.var ≤ (facts_of lines).greatest);
      answers = tt;
      implied = tt;
      says_more = tt;
    })))

-- the Bound lines up to one of them were told, and no more
pub bounds_left : {most : ℕ} (l0 l1 l2 : Lines → Type 0) (c : Criterion) (last i n : ℕ) → i ≤ n → AddsAll l0 l1 (bound_lines c 1 (variables_behind last i)) →
    TellsNoMore l1 l2 → ((x y : Lines) → l1 x → l1 y → x ≡ y) →
    Leaves most (bound_lines c 1 (variables_behind last n)) Derives l0 l2
bounds_left {most} l0 l1 l2 c last i n le adds fewer one = λ lines d was told is.
    let xs = bound_lines c 1 (variables_behind last i) in
    let same : told ≡ lines ++ xs = one told (lines ++ xs) (fewer told is) (adds lines was) in
    record {
      derives = subst Derives (sym same) (bounds_derive lines c 1 (variables_behind last i) d);
      front = xs;
      begins = bounds_begin c 1 last i n le;
      gives = ap clause_lines same ∙ clause_lines_append lines xs ∙ ap (λ (ls : Lines). clause_lines lines ++ ls)
          (bounds_are_clauses c 1 (variables_behind last i));
      few = subst (λ (ls : Lines). learnt_count ls ≤ max most (learnt_count lines)) (sym same)
          (few_added most lines xs (block_count [] c 1 (variables_behind last i)));
    }

-- all were told
pub bounds_all : {most : ℕ} (l0 l1 : Lines → Type 0) (c : Criterion) (last n : ℕ) → AddsAll l0 l1 (bound_lines c 1 (variables_behind last n)) →
    ((x y : Lines) → l1 x → l1 y → x ≡ y) →
    Leaves most (bound_lines c 1 (variables_behind last n)) Derives l0 l1
bounds_all l0 l1 c last n adds one = bounds_left l0 l1 l1 c last n n (omega arith) adds (λ lines h. h) one

-- ---- a criterion's lines

pub criterion_left : {most : ℕ} (e : Encoding) (told : List Bound) (budget room : ℕ) (b : Bound) (n : ℕ) (old new : Kept)
    (l0 l1 l2 : Lines → Type 0) (n0 n1 : ℕ) →
    IsGrown e told budget room b n old →
    GoesOn (λ ls. Belongs ls old) (λ ls. Belongs ls new) l0 l1 n0 n1 (λ lines more. more ≡ map Formula (drop n e.formula.clauses)) →
    Leaves most (bound_lines b.criterion 1 (variables_behind b.last b.cap)) Derives l1 l2 →
    Leaves most (lines_of_bound e.graph (encoded_vars e) e.grid b) (KnowsLines (layout_of e) told budget room old) l0 l2
criterion_left {most} e told budget room b n old new l0 l1 l2 n0 n1 g goes h =
    let cs = drop n e.formula.clauses in
    let xs = map Formula cs in
    let ys = bound_lines b.criterion 1 (variables_behind b.last b.cap) in
    subst (λ (ds : Clauses). Leaves most (map Formula ds ++ ys) (KnowsLines (layout_of e) told budget room old) l0 l2) g.rest
    (leaves_known (xs ++ ys) (KnowsLines (layout_of e) told budget room old) (λ ls. Belongs ls old) l0 l2 (λ lines k. k.belongs)
    (leaves_then (λ ls. Belongs ls old) (λ ls. Belongs ls new) l0 l1 l2 n0 n1 (λ lines more. more ≡ xs) xs ys goes
    (λ lines more ka kb r. clause_lines_append lines more ∙ ap (λ (ls : Lines). clause_lines lines ++ ls) (ap clause_lines r ∙ formulas_are_clauses cs))
    (λ lines more ka kb r. few_formulas most cs lines more r)
    (leaves_known ys (λ ls. Belongs ls new) Derives l1 l2 (λ lines k. k.derives) h)))

-- in its clauses already
pub criterion_begun : {most : ℕ} (e : Encoding) (told : List Bound) (budget room : ℕ) (b : Bound) (n : ℕ) (old : Kept) (l0 l1 : Lines → Type 0) →
    IsGrown e told budget room b n old →
    Leaves most (map Formula (drop n e.formula.clauses)) (λ ls. Belongs ls old) l0 l1 →
    Leaves most (lines_of_bound e.graph (encoded_vars e) e.grid b) (KnowsLines (layout_of e) told budget room old) l0 l1
criterion_begun {most} e told budget room b n old l0 l1 g h =
    let xs = map Formula (drop n e.formula.clauses) in
    let ys = bound_lines b.criterion 1 (variables_behind b.last b.cap) in
    subst (λ (ds : Clauses). Leaves most (map Formula ds ++ ys) (KnowsLines (layout_of e) told budget room old) l0 l1) g.rest
    (leaves_more xs ys (KnowsLines (layout_of e) told budget room old) l0 l1
    (leaves_known xs (KnowsLines (layout_of e) told budget room old) (λ ls. Belongs ls old) l0 l1 (λ lines k. k.belongs) h))

-- the same by the formula before
pub build_left : (old new : Encoding) (told ts : List Bound) (budget spend room size : ℕ) (k : Kept) (c : Criterion) (cap : ℕ) (b : Bound)
    (l0 l1 : Lines → Type 0) → 1 ≤ cap → IsReady old told budget room k → HasGrown old new (bound c old.formula.vars cap) →
    b ≡ bound c old.formula.vars cap → ts ≡ told → spend ≡ budget → size ≡ room →
    Leaves 0 (lines_of_bound new.graph (encoded_vars new) new.grid b) (KnowsLines (layout_of new) ts spend size k) l0 l1 →
    Leaves 0 (sum_lines (problem_of (layout_of old)) k.vars c cap) (KnowsLines (layout_of old) told budget room k) l0 l1
build_left old new told ts budget spend room size k c cap b l0 l1 positive ready g is_bound is_told is_budget is_room h =
    let a = bound c old.formula.vars cap in
    let same : lines_of_bound old.graph (drawing_vars old.graph old.grid) old.grid a ≡ sum_lines (problem_of (layout_of old)) k.vars c cap =
    ap (λ n. lines_of_bound old.graph (drawing_vars old.graph old.grid) old.grid (bound c n cap)) (sym ready.vars)
    ∙ sym (sum_is_bound old.graph (is_above old.order) (is_overlap old.order) old.grid k.vars c cap positive) in
    subst (λ (ls : Lines). Leaves 0 ls (KnowsLines (layout_of old) told budget room k) l0 l1) same
    (subst (λ (y : Layout). Leaves 0 (lines_of_bound y.graph (drawing_vars y.graph y.grid) y.grid a) (KnowsLines y told budget room k) l0 l1) g.layout
    (subst (λ (x : Bound). Leaves 0 (lines_of_bound new.graph (encoded_vars new) new.grid x) (KnowsLines (layout_of new) told budget room k) l0 l1) is_bound
    (subst (λ (xs : List Bound). Leaves 0 (lines_of_bound new.graph (encoded_vars new) new.grid b) (KnowsLines (layout_of new) xs budget room k) l0 l1) is_told
    (subst (λ n. Leaves 0 (lines_of_bound new.graph (encoded_vars new) new.grid b) (KnowsLines (layout_of new) ts n room k) l0 l1) is_budget
    (subst (λ n. Leaves 0 (lines_of_bound new.graph (encoded_vars new) new.grid b) (KnowsLines (layout_of new) ts spend n k) l0 l1) is_room h)))))

-- ---- a question

-- the solver answered, and then an error came that told nothing
pub answer_left : (y : Layout) (told : List Bound) (budget room : ℕ) (old new : Kept) (l0 l1 : Lines → Type 0) (n0 n1 : ℕ) (R : Lines → Lines → Type 0) →
    GoesOn (KnowsLines y told budget room old) (KnowsLines y told budget room new) l0 l1 n0 n1 R → Leaves budget [] (KnowsLines y told budget room new) l1 l1 →
    Leaves budget [] (KnowsLines y told budget room old) l0 l1
answer_left y told budget room old new l0 l1 n0 n1 R goes h =
    leaves_then (KnowsLines y told budget room old) (KnowsLines y told budget room new) l0 l1 l1 n0 n1 R [] [] goes
    (λ lines more ka kb r. kb.told_are ∙ sym ka.told_are ∙ sym (append-nil (clause_lines lines)))
    (λ lines more ka kb r. few_within budget lines (lines ++ more) (subst (λ n. n ≤ budget) kb.learnt_are kb.spent)) h

-- ---- a search of either kind

-- an error in the formula's clauses, where these are the first of what is expected
formula_left : (y : Layout) (budget room : ℕ) (expected more : Lines) (e : Encoding) (f : Cnf) (old : Kept) (l0 l1 : Lines → Type 0) → IsFirst y room e →
    f ≡ e.formula → old ≡ blank room →
    expected ≡ first_lines (task_of y budget room) ++ more →
    Leaves 0 (map Formula (drop 0 f.clauses)) (λ ls. Belongs ls old) l0 l1 → l0 [] → (lines : Lines) → l1 lines →
    Derives lines × BeginsLines (clause_lines lines) expected × (learnt_count lines ≤ budget)
formula_left y budget room expected more e f old l0 l1 first is blank_is all h none lines told =
    let p = task_of y budget room in
    let left = h [] (new_belongs old room blank_is) none lines told in
    let clauses : map Formula (drop 0 f.clauses) ≡ first_lines p = first_does y budget room e f (map Formula (drop 0 f.clauses)) first is refl
    ∙ ap (λ (z : Layout). first_lines (task_of z budget room)) first.layout in
    let rest = left.begins.0 in
    let begins : BeginsLines (clause_lines lines) expected = (
      rest ++ more,
      all ∙ ap (λ (ls : Lines). ls ++ more) (sym clauses ∙ left.begins.1 ∙ ap (λ (ls : Lines). ls ++ rest) (sym left.gives))
          ∙ append_assoc (clause_lines lines) rest more,
    ) in
    (left.derives, begins, few_left 0 budget [] lines (omega arith) (omega arith) left.few)

-- an error behind the formula's clauses
pub behind_formula_left : (P : Task → Lines → Type 0) (y : Layout) (budget room : ℕ) (e : Encoding) (f : Cnf) (old mid : Kept) (l0 l1 l2 : Lines → Type 0)
    (n0 n1 : ℕ) → IsFirst y room e → f ≡ e.formula → old ≡ blank room →
    GoesOn (λ ls. Belongs ls old) (λ ls. Belongs ls mid) l0 l1 n0 n1 (λ lines more. more ≡ map Formula (drop 0 f.clauses)) →
    (l1 (first_lines (task_of (layout_of e) budget room)) → (lines : Lines) → l2 lines → P (task_of (layout_of e) budget room) lines) → l0 [] →
    (lines : Lines) → l2 lines → P (task_of y budget room) lines
behind_formula_left P y budget room e f old mid l0 l1 l2 n0 n1 first is blank_is goes h none lines told =
    let run : ToldBehind (λ ls. Belongs ls mid) l0 l1 n0 n1 [] (λ more. more ≡ map Formula (drop 0 f.clauses)) = goes [] (new_belongs old room blank_is) in
    let start = subst l1 (first_does y budget room e f run.more first is run.does) (run.told [] none) in
    subst (λ (z : Layout). P (task_of z budget room) lines) first.layout (h start lines told)

-- ---- the front

abbrev front_rest : Task → Criterion → Criterion → Lines
front_rest p a b = sums p.encoding p.encoding.vars (a ∷ b ∷ []) (greatest_of p)

-- nothing was told
pub front_unbegun : (y : Layout) (budget room : ℕ) (a b : Criterion) (log : Lines → Type 0) → ((x z : Lines) → log x → log z → x ≡ z) → log [] →
    (lines : Lines) → log lines → IsFrontLeft (task_of y budget room) a b lines
front_unbegun y budget room a b log one none lines is =
    let p = task_of y budget room in
    subst (IsFrontLeft p a b) (one [] lines none is) (record {
      derives = derives_none;
      begins = (front_lines p a b, refl);
      within = counted_within budget [] (omega arith);
    })

-- an error in the formula's clauses
pub front_begun : (y : Layout) (budget room : ℕ) (a b : Criterion) (e : Encoding) (f : Cnf) (old : Kept) (l0 l1 : Lines → Type 0) → IsFirst y room e →
    f ≡ e.formula → old ≡ blank room →
    Leaves 0 (map Formula (drop 0 f.clauses)) (λ ls. Belongs ls old) l0 l1 → l0 [] → (lines : Lines) → l1 lines → IsFrontLeft (task_of y budget room) a b lines
front_begun y budget room a b e f old l0 l1 first is blank_is h none lines told =
    let p = task_of y budget room in
    let left = formula_left y budget room (front_lines p a b) (front_rest p a b) e f old l0 l1 first is blank_is refl h none lines told in
    record { derives = left.0; begins = left.1; within = left.2 }

-- ---- the search for least values

-- the formula's clauses alone are expected without bounds
unbounded : (p : Task) (order : List Criterion) → expected_lines p.encoding order (λ c. 0) ≡ first_lines p
unbounded p order = zero_told p order (λ c. 0) (λ c. refl)

-- nothing was told
pub values_unbegun : (y : Layout) (budget room : ℕ) (order : List Criterion) (log : Lines → Type 0) → ((x z : Lines) → log x → log z → x ≡ z) → log [] →
    (lines : Lines) → log lines → IsLeastLeft (task_of y budget room) order lines
values_unbegun y budget room order log one none lines is =
    let p = task_of y budget room in
    subst (IsLeastLeft p order) (one [] lines none is) (record {
      derives = derives_none;
      cap = λ c. 0;
      capped = λ c. omega arith;
      begins = (first_lines p, unbounded p order);
      within = counted_within budget [] (omega arith);
    })

-- an error in the formula's clauses
pub values_begun : (y : Layout) (budget room : ℕ) (order : List Criterion) (e : Encoding) (f : Cnf) (old : Kept) (l0 l1 : Lines → Type 0) → IsFirst y room e →
    f ≡ e.formula → old ≡ blank room →
    Leaves 0 (map Formula (drop 0 f.clauses)) (λ ls. Belongs ls old) l0 l1 → l0 [] → (lines : Lines) → l1 lines →
    IsLeastLeft (task_of y budget room) order lines
values_begun y budget room order e f old l0 l1 first is blank_is h none lines told =
    let p = task_of y budget room in
    let left = formula_left y budget room (expected_lines p.encoding order (λ c. 0)) [] e f old l0 l1 first is blank_is
    (unbounded p order ∙ sym (append-nil (first_lines p))) h none lines told in
    record { derives = left.0; cap = λ c. 0; capped = λ c. omega arith; begins = left.1; within = left.2 }
