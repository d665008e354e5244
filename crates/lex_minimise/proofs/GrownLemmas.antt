-- A bound more behind the formula: what is so before its clauses are told, and behind.
use Rattle.std.proofs.Common.{◌≡◌, ◌≤◌, ◌<◌, ℕ, ◌+◌, ◌-◌, Bool, true, false, List, [], ◌∷◌, ◌++◌, length, drop, map, refl, sym, ◌∙◌, ap, subst, arith}
use Rattle.std.proofs.Common.{append_assoc, length-append}
use Rattle.std.specs.Prelude.{flat_map, Contains, Option, None, Some, MatchOption, IsTrue, ◌↔◌}
use Rattle.std.proofs.Math.Seq.{drop-append_seam}
use Rattle.std.proofs.lemmas.Grind.{flat_map-append, fold-append}
use Rattle.std.proofs.lemmas.List.Elements.{All-contains, Contains-append_right}
use Rattle.outside_io.specs.Counts.{rose_by}
use Rattle.plan_core.specs.declared.criterion.Criterion.{Criterion}
use Rattle.plan_core.specs.Grid.{IsGrid}
use Rattle.plan_core.specs.Values.{limit_of}
use Rattle.outside_io.specs.declared.numbers.TheConstants.{MAX_NUMBER}
use Rattle.port_graph.specs.StationGraph.{IsStationGraph}
use Rattle.cnf_core.specs.declared.limits.TheConstants.{VARS}
use Rattle.cnf_core.specs.Clause.{Clauses, words_of, IsNamed}
use Rattle.cnf_core.proofs.ClauseLemmas.{words_append}
use Rattle.track_order.specs.Order.{is_above, is_overlap}
use Rattle.refute_log.specs.declared.line.LogLine.TheVariants.{Formula}
use Rattle.refute_log.specs.Told.{Lines, AddsAll}
use Rattle.refute_log.specs.Log.{learnt}
use Rattle.refute_log.specs.Expected.{bound_lines, with_cap, sum_lines, sum_vars_of}
use Rattle.drawing_cnf.specs.Expected.{drawing_vars, formula_size}
use Rattle.drawing_cnf.specs.Encoding.{Encoding, encoded_vars}
use Rattle.drawing_cnf.specs.Bounded.{Bound, bound, clauses_of_bound, size_of_bound, bounds_clauses, AreBehind, CoversWith}
use Rattle.drawing_cnf.specs.Whole.{drawing_clauses}
use Rattle.drawing_cnf.specs.Lists.{variables_behind, lines_of_bound}
use Rattle.drawing_cnf.specs.Layout.{Layout, problem_of, layout_of}
use Rattle.drawing_cnf.proofs.ListLemmas.{sum_is_bound, sum_vars_is_size}
use Rattle.drawing_cnf.proofs.LimitLemmas.{small_limit}
use Rattle.cdcl_core.specs.Kept.{Kept, AreGiven, with_more_vars}
use Rattle.cdcl_core.specs.Belongs.{Belongs}
use Rattle.search_least.specs.declared.oracle.Built.TheVariants.{Whole}
use Rattle.refute_log.specs.Steps.{ToldBehind, GoesOn}
use Rattle.search_least.specs.Built.{IsBuild, AreBuiltTo}
use Rattle.lex_minimise.specs.Known.{told_clauses, with_bound, no_caps, caps_of, AreTold, KnowsLines, IsReady}
use Rattle.lex_minimise.specs.Task.{task_of}
use Rattle.lex_minimise.specs.Told.{HasTaken}
use Rattle.drawing_cnf.specs.Behind.{clauses_behind, size_behind, HasGrown}
use Rattle.lex_minimise.specs.Grown.{IsGrown}
use Rattle.lex_minimise.proofs.CoverLemmas.{known_lines}
use Rattle.lex_minimise.proofs.GrowLemmas.{clauses_more, told_more, told_are_more, bounds_belong, formula_count, block_count}
use Rattle.lex_minimise.proofs.TellLemmas.{goes_weaker}

-- the clauses of a bound were told to the solver and the log, and then its Bound lines to the log
pub bound_goes : (y : Layout) (told : List Bound) (b : Bound) (budget room : ℕ) (old mid new : Kept) (l0 l1 l2 : Lines → Type 0) (n0 n1 n2 : ℕ) →
    AreTold y (told ++ b ∷ []) → 1 ≤ b.cap → b.cap ≤ MAX_NUMBER → b.last + b.cap ≤ VARS → new.learnt ≡ old.learnt → new.words ≤ room → new.vars ≤ VARS →
    ((lines : Lines) → Belongs lines old → Belongs lines mid) →
    GoesOn (λ ls. Belongs ls mid) (λ ls. Belongs ls new) l0 l1 n0 n1 (λ lines more. more ≡ map Formula
    (clauses_of_bound y.graph (drawing_vars y.graph y.grid) y.grid b)) →
    AddsAll l1 l2 (bound_lines b.criterion 1 (variables_behind b.last b.cap)) → n2 ≡ n1 →
    GoesOn (KnowsLines y told budget room old) (KnowsLines y (told ++ b ∷ []) budget room new) l0 l2 n0 n2
    (λ lines more. more ≡ lines_of_bound y.graph (drawing_vars y.graph y.grid) y.grid b)
bound_goes y told b budget room old mid new l0 l1 l2 n0 n1 n2 facts positive small low learnt_same fits few widened clauses_go bounds_go counts_same = λ lines
    k.
    let cs = clauses_of_bound y.graph (drawing_vars y.graph y.grid) y.grid b in
    let block = bound_lines b.criterion 1 (variables_behind b.last b.cap) in
    let first : ToldBehind (λ ls. Belongs ls new) l0 l1 n0 n1 lines (λ more. more ≡ map Formula cs) = clauses_go lines (widened lines k.belongs) in
    let more : Lines = first.more ++ block in
    let is : more ≡ map Formula cs ++ block = ap (λ (ls : Lines). ls ++ block) first.does in
    let none : length (flat_map learnt more) ≡ 0 = ap (λ (ls : Lines). length (flat_map learnt ls)) is
    ∙ block_count cs b.criterion 1 (variables_behind b.last b.cap) in
    let none_first : length (flat_map learnt first.more) ≡ 0 = ap (λ (ls : Lines). length (flat_map learnt ls)) first.does ∙ formula_count cs in
    record {
      more = more;
      knows = known_lines y (told ++ b ∷ []) budget room new (lines ++ more) facts
          (subst (λ (ls : Lines). Belongs ls new) (append_assoc lines first.more block)
          (bounds_belong (lines ++ first.more) new b.criterion 1 b.last b.cap (omega arith) (omega (arith, small)) low first.knows))
          (told_are_more y told b lines more positive k.told_are is)
          (let count : length (flat_map learnt (lines ++ more)) ≡ length (flat_map learnt lines) + length (flat_map learnt more) =
          ap length (flat_map-append learnt lines more) ∙ length-append (flat_map learnt lines) (flat_map learnt more) in
          let c = k.learnt_are in
          omega (arith, count, c, none, learnt_same)) (let s = k.spent in omega (arith, s, learnt_same)) fits few;
      told = λ ls t. subst l2 (append_assoc ls first.more block) (bounds_go (ls ++ first.more) (first.told ls t));
      counted = counts_same ∙ first.counted ∙ ap (λ n. rose_by n n0) (none_first ∙ sym none);
      does = is;
    }

-- ---- before its clauses are told

same_clauses : (old new : Encoding) (b : Bound) → layout_of new ≡ layout_of old → clauses_behind new b ≡ clauses_behind old b
same_clauses old new b same = ap (λ (y : Layout). clauses_of_bound y.graph (drawing_vars y.graph y.grid) y.grid b) same

same_size : (old new : Encoding) (b : Bound) → layout_of new ≡ layout_of old → size_behind new b ≡ size_behind old b
same_size old new b same = ap (λ (y : Layout). size_of_bound y.graph (drawing_vars y.graph y.grid) y.grid b) same

-- the formula's clauses, where it has these bounds
whole_clauses : (e : Encoding) (told : List Bound) → e.formula.clauses ≡ drawing_clauses e ++ bounds_clauses e.graph (encoded_vars e) e.grid e.bounds →
    e.bounds ≡ told → e.formula.clauses ≡ told_clauses (layout_of e) told
whole_clauses e told is same = is ∙ ap (λ (bs : List Bound). drawing_clauses e ++ bounds_clauses e.graph (encoded_vars e) e.grid bs) same

pub grown_words : (old new : Encoding) (b : Bound) → HasGrown old new b →
    words_of new.formula.clauses ≡ words_of old.formula.clauses + words_of (clauses_behind old b)
grown_words old new b g = ap words_of g.clauses ∙ words_append old.formula.clauses (clauses_behind old b)

pub grown_rest : (old new : Encoding) (b : Bound) (n : ℕ) → HasGrown old new b → n ≡ length old.formula.clauses →
    drop n new.formula.clauses ≡ clauses_behind old b
grown_rest old new b n g is =
    ap (λ m. drop m new.formula.clauses) is ∙ ap (drop (length old.formula.clauses)) g.clauses ∙ drop-append_seam old.formula.clauses (clauses_behind old b)

pub is_grown : (old new : Encoding) (told : List Bound) (budget room : ℕ) (k : Kept) (c : Criterion) (cap n : ℕ) → IsReady old told budget room k →
    HasGrown old new (bound c old.formula.vars cap) →
    1 ≤ cap → cap ≤ limit_of old.graph old.grid c → caps_of told c ≡ 0 → n ≡ length old.formula.clauses →
    IsGrown new told budget room (bound c old.formula.vars cap) n k
is_grown old new told budget room k c cap n ready g positive limit none is =
    let b = bound c old.formula.vars cap in
    let y = layout_of new in
    let bounds_are : new.bounds ≡ told ++ b ∷ [] = g.bounds ∙ ap (λ (bs : List Bound). bs ++ b ∷ []) ready.bounds in
    let clauses_are : new.formula.clauses ≡ told_clauses y (told ++ b ∷ []) = whole_clauses new (told ++ b ∷ []) (g.whole).clauses bounds_are in
    let there = g.there in
    let few = g.few in
    let facts : AreTold y (told ++ b ∷ []) = told_more y told b (subst (λ (z : Layout). AreTold z told) (sym g.layout) ready.facts) none positive
    (subst (λ (z : Layout). cap ≤ limit_of z.graph z.grid c) (sym g.layout) limit) (omega (arith, there, few))
    (subst (λ (bs : List Bound). AreBehind y.graph (drawing_vars y.graph y.grid) y.grid (formula_size y.graph (is_above y.order) (is_overlap y.order) y.grid)
    bs) bounds_are (g.whole).behind)
    (λ j low high. subst (λ (cs : Clauses). IsNamed cs (b.last + j)) (sym (same_clauses old new b g.layout)) (g.named j low high))
    (subst (λ (bs : List Bound). CoversWith y.graph (is_above y.order) y.grid (drawing_vars y.graph y.grid) (told_clauses y (told ++ b ∷ [])) bs) bounds_are
    (subst (λ (cs : Clauses). CoversWith y.graph (is_above y.order) y.grid (drawing_vars y.graph y.grid) cs new.bounds) clauses_are g.covers)) in
    record {
      whole = g.whole;
      bounds = bounds_are;
      facts = facts;
      working = ready.working;
      vars = g.vars ∙ (let v = ready.vars in let s = same_size old new b g.layout in let e : old.formula.vars + size_behind old b ≡ k.vars + size_behind new
          b = omega (arith, v, s) in e);
      few = g.few;
      room_is = ready.room_is;
      formula_room = g.room ∙ ready.formula_room;
      given = subst (λ (cs : Clauses). AreGiven cs k.clauses) (whole_clauses old told (ready.whole).clauses ready.bounds
          ∙ ap (λ (z : Layout). told_clauses z told) (sym g.layout)) ready.given;
      within = (let size = ap length g.clauses ∙ length-append old.formula.clauses (clauses_behind old b) in omega (arith, size, is));
      rest = grown_rest old new b n g is ∙ sym (same_clauses old new b g.layout);
      spent = ready.spent;
    }

last_there : (told : List Bound) (b : Bound) → Contains (told ++ b ∷ []) b
last_there told b = Contains-append_right told (b ∷ []) b (0, omega arith, refl)

pub grown_small : (e : Encoding) (told : List Bound) (budget room : ℕ) (b : Bound) (n : ℕ) (k : Kept) → IsGrown e told budget room b n k →
    IsStationGraph e.graph → IsGrid e.grid → b.cap ≤ MAX_NUMBER
grown_small e told budget room b n k g s is =
    let within = All-contains (λ (t : Bound). t.cap ≤ limit_of e.graph e.grid t.criterion) (told ++ b ∷ []) b (g.facts).within (last_there told b) in
    let small = small_limit e.graph e.grid b.criterion s is in
    omega (arith, within, small)

-- ---- behind

pub ready_grown : (e : Encoding) (told : List Bound) (budget room : ℕ) (b : Bound) (n : ℕ) (old new : Kept) → IsGrown e told budget room b n old →
    HasTaken (with_more_vars old (e.formula.vars - old.vars)) new (drop n e.formula.clauses) → IsReady e (told ++ b ∷ []) budget room new
ready_grown e told budget room b n old new g t =
    let all : told_clauses (layout_of e) told ++ drop n e.formula.clauses ≡ e.formula.clauses =
    ap (λ (cs : Clauses). told_clauses (layout_of e) told ++ cs) g.rest ∙ sym (clauses_more (layout_of e) told b)
    ∙ sym (whole_clauses e (told ++ b ∷ []) (g.whole).clauses g.bounds) in
    record {
      whole = g.whole;
      bounds = g.bounds;
      facts = g.facts;
      working = t.working;
      vars = (let v = g.vars in let w = t.vars in omega (arith, v, w));
      room_is = t.room ∙ g.room_is;
      formula_room = g.formula_room;
      given = subst (λ (cs : Clauses). AreGiven cs new.clauses) all (t.given (told_clauses (layout_of e) told) g.given);
      spent = (let s = g.spent in let l = t.learnt in omega (arith, s, l));
    }

pub grown_goes : (e : Encoding) (told : List Bound) (budget room : ℕ) (b : Bound) (n : ℕ) (old new : Kept) (l0 l1 l2 : Lines → Type 0) (n0 n1 n2 : ℕ) →
    IsGrown e told budget room b n old → b.cap ≤ MAX_NUMBER →
    HasTaken (with_more_vars old (e.formula.vars - old.vars)) new (drop n e.formula.clauses) → old.words + words_of (drop n e.formula.clauses) ≤ room →
    GoesOn (λ ls. Belongs ls old) (λ ls. Belongs ls new) l0 l1 n0 n1 (λ lines more. more ≡ map Formula (drop n e.formula.clauses)) →
    AddsAll l1 l2 (bound_lines b.criterion 1 (variables_behind b.last b.cap)) → n2 ≡ n1 →
    GoesOn (KnowsLines (layout_of e) told budget room old) (KnowsLines (layout_of e) (told ++ b ∷ []) budget room new) l0 l2 n0 n2
    (λ lines more. more ≡ lines_of_bound e.graph (encoded_vars e) e.grid b)
grown_goes e told budget room b n old new l0 l1 l2 n0 n1 n2 g small t fits clauses_go bounds_go counts =
    let positive = All-contains (λ (a : Bound). 1 ≤ a.cap) (told ++ b ∷ []) b (g.facts).positive (last_there told b) in
    let low = All-contains (λ (a : Bound). a.last + a.cap ≤ VARS) (told ++ b ∷ []) b (g.facts).few (last_there told b) in
    let words = t.words in
    let vars = (ready_grown e told budget room b n old new g t).vars in
    let few = g.few in
    bound_goes (layout_of e) told b budget room old old new l0 l1 l2 n0 n1 n2 g.facts positive small low t.learnt (omega (arith, words, fits))
    (omega (arith, vars, few)) (λ lines h. h)
    (subst (λ (cs : Clauses). GoesOn (λ ls. Belongs ls old) (λ ls. Belongs ls new) l0 l1 n0 n1 (λ lines more. more ≡ map Formula cs)) g.rest clauses_go)
    bounds_go counts

-- ---- the whole call

pub some_grown : (o : Option Bound) (a b : Bound) (P : Type 0) (old new : Encoding) → o ≡ Some a → MatchOption o P (λ x. (x ≡ b) × HasGrown old new b) →
    (a ≡ b) × HasGrown old new b
some_grown o a b P old new is h = subst (λ (x : Option Bound). MatchOption x P (λ x. (x ≡ b) × HasGrown old new b)) is h

pub none_grown : (o : Option Bound) (b : Bound) (P : Type 0) (old new : Encoding) → o ≡ None → MatchOption o P (λ x. (x ≡ b) × HasGrown old new b) → P
none_grown o b P old new is h = subst (λ (x : Option Bound). MatchOption x P (λ x. (x ≡ b) × HasGrown old new b)) is h

pub no_room : (t : Bool) (m n : ℕ) → (IsTrue t ↔ (m ≤ n)) → t ≡ false → n < m
no_room t m n h is =
    let none : m ≤ n → ⊥ = λ le. (let both : true ≡ false = sym (h.1 le) ∙ is in cc) in
    omega (arith, none)

-- the same by other names
pub grown_as : (e : Encoding) (told ts : List Bound) (budget spend room size : ℕ) (b a : Bound) (n : ℕ) (k : Kept) → ts ≡ told → spend ≡ budget → size ≡ room →
    a ≡ b → IsGrown e told budget room b n k → IsGrown e ts spend size a n k
grown_as e told ts budget spend room size b a n k is_told is_budget is_room is_bound g =
    subst (λ (xs : List Bound). IsGrown e xs spend size a n k) (sym is_told)
    (subst (λ x. IsGrown e told x size a n k) (sym is_budget)
    (subst (λ x. IsGrown e told budget x a n k) (sym is_room)
    (subst (λ (x : Bound). IsGrown e told budget room x n k) (sym is_bound) g)))

pub goes_as : (e : Encoding) (told ts after : List Bound) (budget spend room size : ℕ) (b a : Bound) (k m : Kept) (l0 l1 : Lines → Type 0) (n0 n1 : ℕ) →
    ts ≡ told → spend ≡ budget → size ≡ room → a ≡ b →
    GoesOn (KnowsLines (layout_of e) ts spend size k) (KnowsLines (layout_of e) after spend size m) l0 l1 n0 n1
    (λ lines more. more ≡ lines_of_bound e.graph (encoded_vars e) e.grid a) →
    GoesOn (KnowsLines (layout_of e) told budget room k) (KnowsLines (layout_of e) after budget room m) l0 l1 n0 n1
    (λ lines more. more ≡ lines_of_bound e.graph (encoded_vars e) e.grid b)
goes_as e told ts after budget spend room size b a k m l0 l1 n0 n1 is_told is_budget is_room is_bound g =
    subst (λ (x : Bound). GoesOn (KnowsLines (layout_of e) told budget room k) (KnowsLines (layout_of e) after budget room m) l0 l1 n0 n1
    (λ lines more. more ≡ lines_of_bound e.graph (encoded_vars e) e.grid x)) is_bound
    (subst (λ x. GoesOn (KnowsLines (layout_of e) told x room k) (KnowsLines (layout_of e) after x room m) l0 l1 n0 n1
    (λ lines more. more ≡ lines_of_bound e.graph (encoded_vars e) e.grid a)) is_budget
    (subst (λ x. GoesOn (KnowsLines (layout_of e) told spend x k) (KnowsLines (layout_of e) after spend x m) l0 l1 n0 n1
    (λ lines more. more ≡ lines_of_bound e.graph (encoded_vars e) e.grid a)) is_room
    (subst (λ (xs : List Bound). GoesOn (KnowsLines (layout_of e) xs spend size k) (KnowsLines (layout_of e) after spend size m) l0 l1 n0 n1
    (λ lines more. more ≡ lines_of_bound e.graph (encoded_vars e) e.grid a)) is_told g)))

-- the caps and the variables with one bound more
pub built_whole : (old new : Encoding) (told after : List Bound) (budget room spend size : ℕ) (k m : Kept) (c : Criterion) (cap : ℕ) → 1 ≤ cap →
    IsReady old told budget room k → HasGrown old new (bound c old.formula.vars cap) →
    after ≡ told ++ bound c old.formula.vars cap ∷ [] → IsReady new after spend size m →
    AreBuiltTo (task_of (layout_of old) budget room) (caps_of told) k.vars c cap Whole (caps_of after) m.vars
built_whole old new told after budget room spend size k m c cap positive ready g is ready_after =
    let b = bound c old.formula.vars cap in
    let caps_are : caps_of after ≡ with_cap (caps_of told) c cap = ap caps_of is ∙ fold-append with_bound no_caps told (b ∷ []) in
    let sum : sum_vars_of (problem_of (layout_of old)) k.vars c cap ≡ size_behind old (bound c k.vars cap) = sum_vars_is_size old.graph (is_above old.order)
    (is_overlap old.order) old.grid k.vars c cap positive in
    let same : size_behind old (bound c k.vars cap) ≡ size_behind old b = ap (λ n. size_behind old (bound c n cap)) ready.vars in
    let now = ready_after.vars in
    let more = g.vars in
    let before = ready.vars in
    (caps_are, omega (arith, sum, same, now, more, before))

pub build_goes : (old new : Encoding) (told after : List Bound) (budget room : ℕ) (k m : Kept) (c : Criterion) (cap : ℕ) (l0 l1 : Lines → Type 0) (n0 n1 : ℕ) →
    1 ≤ cap → IsReady old told budget room k → HasGrown old new (bound c old.formula.vars cap) →
    GoesOn (KnowsLines (layout_of new) told budget room k) (KnowsLines (layout_of new) after budget room m) l0 l1 n0 n1
    (λ lines more. more ≡ lines_of_bound new.graph (encoded_vars new) new.grid (bound c old.formula.vars cap)) →
    GoesOn (KnowsLines (layout_of old) told budget room k) (KnowsLines (layout_of old) after budget room m) l0 l1 n0 n1
    (λ lines more. IsBuild (task_of (layout_of old) budget room) k.vars c cap Whole lines more)
build_goes old new told after budget room k m c cap l0 l1 n0 n1 positive ready g goes =
    let b = bound c old.formula.vars cap in
    let there = subst (λ (y : Layout). GoesOn (KnowsLines y told budget room k) (KnowsLines y after budget room m) l0 l1 n0 n1
    (λ lines more. more ≡ lines_of_bound y.graph (drawing_vars y.graph y.grid) y.grid b)) g.layout goes in
    let same : lines_of_bound old.graph (drawing_vars old.graph old.grid) old.grid b ≡ sum_lines (problem_of (layout_of old)) k.vars c cap =
    ap (λ n. lines_of_bound old.graph (drawing_vars old.graph old.grid) old.grid (bound c n cap)) (sym ready.vars)
    ∙ sym (sum_is_bound old.graph (is_above old.order) (is_overlap old.order) old.grid k.vars c cap positive) in
    goes_weaker (KnowsLines (layout_of old) told budget room k) (KnowsLines (layout_of old) after budget room m) l0 l1 n0 n1
    (λ lines more. more ≡ lines_of_bound old.graph (drawing_vars old.graph old.grid) old.grid b)
    (λ lines more. IsBuild (task_of (layout_of old) budget room) k.vars c cap Whole lines more) there (λ lines more is. is ∙ same)

-- the lines that are known then are those of the same layout, budget and room
pub goes_to : (y z : Layout) (told : List Bound) (budget many room space : ℕ) (k : Kept) (before log_old log_new : Lines → Type 0) (count_old count_new : ℕ)
    (R : Lines → Lines → Type 0) → z ≡ y → many ≡ budget → space ≡ room →
    GoesOn before (KnowsLines y told budget room k) log_old log_new count_old count_new R →
    GoesOn before (KnowsLines z told many space k) log_old log_new count_old count_new R
goes_to y z told budget many room space k before log_old log_new count_old count_new R layout budget_is room_is h =
    subst (λ (w : Layout). GoesOn before (KnowsLines w told many space k) log_old log_new count_old count_new R) (sym layout)
    (subst (λ n. GoesOn before (KnowsLines y told n space k) log_old log_new count_old count_new R) (sym budget_is)
    (subst (λ n. GoesOn before (KnowsLines y told budget n k) log_old log_new count_old count_new R) (sym room_is) h))
