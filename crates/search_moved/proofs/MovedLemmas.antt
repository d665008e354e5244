-- A question about moved nodes, and what its answer says of drawings.
use Rattle.std.proofs.Common.{◌≡◌, ◌≤◌, ◌<◌, ℕ, ◌+◌, ◌-◌, ◌^◌, Bool, true, false, List, [], ◌∷◌, ◌++◌, length, map, refl, sym, ◌∙◌, ap, subst, arith}
use Rattle.std.proofs.Common.{append-nil}
use Rattle.std.specs.Prelude.{All, Contains, Some, None, Option, MatchOption, ⊤, flat_map, nat_le, not}
use Rattle.std.proofs.lemmas.Bool.{leb-false}
use Rattle.std.proofs.lemmas.List.Elements.{All-nil, All-cons, All-head, All-weaker}
use Rattle.outside_io.specs.Counts.{rose_by}
use Rattle.plan_core.specs.Drawing.{Drawing}
use Rattle.plan_core.specs.Lawful.{Lawful}
use Rattle.cnf_core.specs.declared.limits.TheConstants.{VARS}
use Rattle.cnf_core.specs.Lit.{Literal, literal, positive_of, negative_of, negate}
use Rattle.cnf_core.specs.Clause.{Clauses, AreDistinct, IsNamed}
use Rattle.cnf_core.specs.Assignment.{Assignment, SatisfiesAll, truth}
use Rattle.cnf_core.specs.Truths.{assignment}
use Rattle.cnf_core.specs.Propagation.{AreAmong}
use Rattle.cnf_core.proofs.ClauseLemmas.{satisfies_left}
use Rattle.cnf_core.proofs.PropagationLemmas.{only_one}
use Rattle.track_order.specs.Order.{is_above, is_overlap}
use Rattle.refute_log.specs.declared.line.LogLine.TheVariants.{Formula, Learnt}
use Rattle.refute_log.specs.Told.{Lines}
use Rattle.refute_log.specs.Log.{given, learnt, Open, clause_lines}
use Rattle.refute_log.specs.Full.{NextClausePasses}
use Rattle.refute_log.proofs.MeetsLemmas.{given_of_clauses}
use Rattle.drawing_cnf.specs.Encoding.{Encoding, encoded_vars}
use Rattle.drawing_cnf.specs.Expected.{formula_size, drawing_vars}
use Rattle.drawing_cnf.specs.Stands.{StandsFor}
use Rattle.drawing_cnf.specs.Bounded.{Bound, bounds_clauses}
use Rattle.drawing_cnf.specs.Whole.{drawing_clauses, drawing_last, bounds_last}
use Rattle.drawing_cnf.specs.Layout.{Layout, layout_of}
use Rattle.drawing_cnf.proofs.ListLemmas.{given_formulas}
use Rattle.cdcl_core.specs.declared.answer.Answer.{Answer as Verdict}
use Rattle.cdcl_core.specs.declared.answer.Answer.TheVariants.{Model, Refuted as RefutedVerdict, Spent, Room}
use Rattle.cdcl_core.specs.Kept.{Kept, HasLearnt, HasModel, MakesTrue, AreGiven, IsTrueAnswer}
use Rattle.cdcl_core.specs.Belongs.{Belongs, search_lines, EndsWith, HasSpent, HasSolved}
use Rattle.refute_log.specs.declared.stop.Stop.TheVariants.{BudgetSpent, RoomFull}
use Rattle.search_least.proofs.QuestionLemmas.{no_clauses_both}
use Rattle.drawing_cnf.specs.Moved.{Former, matched}
use Rattle.drawing_cnf.specs.MovedClauses.{count_clauses}
use Rattle.search_moved.specs.MovedFormula.{moved_variable, moved_nodes}
use Rattle.search_least.specs.declared.questions.Answer.{Answer}
use Rattle.search_least.specs.declared.questions.Answer.TheVariants.{Found, Refuted, Stopped}
use Rattle.search_least.specs.CountTask.{CountTask, CoversCounts}
use Rattle.search_least.specs.CountAsked.{IsBelow, query_of, SaysReached, IsAnswer}
use Rattle.refute_log.specs.Steps.{GoesOn}
use Rattle.search_moved.specs.Known.{formula_of, moved_task, IsMovedFormula, IsReady, KnowsMoved, TellsAnswer}
use Rattle.search_moved.specs.Query.{query_at, IsAnswerOf}
use Rattle.lex_minimise.proofs.AskLemmas.{learnt_of_search, count_of_search, is_open, has_no_room, count_after}
use Rattle.lex_minimise.proofs.GrowLemmas.{named_in}
use Rattle.refute_log.proofs.StepLemmas.{learnt_no_clauses, clause_lines_append, unanswered}
use Rattle.cdcl_core.proofs.LeftLemmas.{clause_ending, within_spent}
use Rattle.drawing_cnf.proofs.CoverLemmas.{both_true}
use Rattle.drawing_cnf.proofs.ApartLemmas.{flipped}

-- ---- a search tells no clauses of the formula

search_no_clauses : (a : Verdict) (assume : List Literal) (cs : Clauses) (ending : Lines) → EndsWith a assume ending →
    clause_lines (search_lines assume cs ending) ≡ []
search_no_clauses a assume cs ending e = no_clauses_both (map Learnt cs) ending (learnt_no_clauses cs) (clause_ending a assume ending e)

-- ---- the query

pub query_is : (y : Layout) (former : Former) (budget room last : ℕ) (limit : Option ℕ) →
    last ≡ formula_size y.graph (is_above y.order) (is_overlap y.order) y.grid → query_at last limit ≡ query_of (moved_task y former budget room) limit
query_is y former budget room last None e = refl
query_is y former budget room last (Some n) e = ap (λ k. negative_of (k + n) ∷ []) e

pub distinct : (p : CountTask) (limit : Option ℕ) → AreDistinct (query_of p limit)
distinct p None = tt
distinct p (Some n) = (tt, tt)

pub named : (y : Layout) (former : Former) (budget room : ℕ) (ds : Clauses) (limit : Option ℕ) → IsMovedFormula y former → AreAmong (formula_of y former) ds →
    MatchOption limit ⊤ (λ n. (1 ≤ n) × (n ≤ matched former)) →
    All (λ l. IsNamed ds l.var) (query_of (moved_task y former budget room) limit)
named y former budget room ds None facts among h = All-nil (λ (l : Literal). IsNamed ds l.var)
named y former budget room ds (Some n) facts among h =
    let v = moved_variable y.graph (is_above y.order) (is_overlap y.order) y.grid n in
    All-cons (λ (l : Literal). IsNamed ds l.var) (negate (positive_of v)) [] (named_in (formula_of y former) ds v among (facts.named n h.0 h.1))
    (All-nil (λ (l : Literal). IsNamed ds l.var))

is_positive : (b : Bool) → not b ≡ false → b ≡ true
is_positive true e = refl
is_positive false e = absurd (cc)

turned : (l : Literal) (x : ℕ) → negative_of x ≡ negate l → l ≡ positive_of x
turned l x e =
    let v : l.var ≡ x = sym (ap (λ (z : Literal). z.var) e) in
    let p : l.positive ≡ true = is_positive l.positive (sym (ap (λ (z : Literal). z.positive) e)) in
    ap (λ n. literal n l.positive) v ∙ ap (literal x) p

pub says_reached : (y : Layout) (former : Former) (budget room : ℕ) (limit : Option ℕ) (clause : List Literal) →
    All (λ l. Contains (query_of (moved_task y former budget room) limit) (negate l)) clause → All (SaysReached (moved_task y former budget room) limit) clause
says_reached y former budget room None clause h =
    All-weaker (λ l. Contains [] (negate l)) (SaysReached (moved_task y former budget room) None) (λ l there. absurd (let lt = there.1 in omega arith)) clause h
says_reached y former budget room (Some n) clause h =
    let v = moved_variable y.graph (is_above y.order) (is_overlap y.order) y.grid n in
    All-weaker (λ l. Contains (negative_of v ∷ []) (negate l)) (SaysReached (moved_task y former budget room) (Some n))
    (λ l there. turned l v (only_one (negative_of v) (negate l) there)) clause h

-- ---- the lines

true_positive : (v : Assignment) (x : ℕ) → truth v (positive_of x) ≡ v x
true_positive v x = refl

pub lines_cover : (y : Layout) (former : Former) (budget room : ℕ) (lines : Lines) → IsMovedFormula y former →
    clause_lines lines ≡ map Formula (formula_of y former) → CoversCounts (moved_task y former budget room) lines
lines_cover y former budget room lines facts are = λ d h.
    let m = facts.covers d h in
    let same : formula_of y former ≡ flat_map given lines = sym (sym (given_of_clauses lines) ∙ ap (flat_map given) are
    ∙ given_formulas (formula_of y former)) in
    record {
      assignment = m.to;
      formula = subst (SatisfiesAll m.to) same m.satisfies;
      tells = λ j from to.
          both_true (truth m.to (positive_of (moved_variable y.graph (is_above y.order) (is_overlap y.order) y.grid j))) j (moved_nodes former d)
          (true_positive m.to (moved_variable y.graph (is_above y.order) (is_overlap y.order) y.grid j) ∙ m.tells j from to);
    }

pub ready_after : (e : Encoding) (former : Former) (budget room : ℕ) (old new : Kept) (a : Verdict) (cs : Clauses) → budget < 2 ^ 32 →
    IsReady e former budget room old → HasLearnt old new cs → HasSpent a (budget - old.learnt) (length cs) →
    AreGiven (formula_of (layout_of e) former) new.clauses → IsReady e former budget room new
ready_after e former budget room old new a cs top ready h has given =
    let n = within_spent a (budget - old.learnt) (length cs) has in
    let count = count_after old.learnt new.learnt (length cs) budget ready.spent n top h.learnt in
    record {
      whole = ready.whole;
      bounds = ready.bounds;
      same = ready.same;
      facts = ready.facts;
      working = h.failed;
      vars = h.vars ∙ ready.vars;
      room_is = h.room ∙ ready.room_is;
      given = given;
      spent = (let s = ready.spent in omega arith);
    }

answered : (y : Layout) (former : Former) (budget room : ℕ) (old new : Kept) (limit : Option ℕ) (a : Verdict) (cs : Clauses) (lines ending : Lines) →
    KnowsMoved y former budget room old lines → old.learnt ≤ budget → new.room ≡ room → (given : Clauses) →
    Belongs (lines ++ search_lines (query_of (moved_task y former budget room) limit) cs ending) new →
    EndsWith a (query_of (moved_task y former budget room) limit) ending → HasSpent a (budget - old.learnt) (length cs) →
    IsTrueAnswer a given (query_of (moved_task y former budget room) limit) new →
    TellsAnswer (moved_task y former budget room) lines limit a (search_lines (query_of (moved_task y former budget room) limit) cs ending)
answered y former budget room old new limit Model cs lines ending k spent is_room given belongs ends has true_answer =
    record { clauses = cs; is = ap (search_lines (query_of (moved_task y former budget room) limit) cs) ends }
answered y former budget room old new limit RefutedVerdict cs lines ending k spent is_room given belongs ends has true_answer = (
  ends.clause,
  says_reached y former budget room limit ends.clause ends.answers,
  record { clauses = cs; is = ap (search_lines (query_of (moved_task y former budget room) limit) cs) ends.is },
)
answered y former budget room old new limit Spent cs lines ending k spent is_room given belongs ends has true_answer =
    let q = query_of (moved_task y former budget room) limit in
    let same : search_lines q cs ending ≡ search_lines q cs [] = ap (search_lines q cs) ends in
    let belongs_so : Belongs (lines ++ search_lines q cs []) new = subst (λ (ls : Lines). Belongs (lines ++ ls) new) same belongs in
    let count : length (flat_map learnt (lines ++ search_lines q cs ending)) ≡ budget =
    count_of_search Spent q cs lines ending ends ∙ (let c = k.learnt_are in let e : length cs ≡ budget - old.learnt = has in let f : length
    (flat_map learnt lines) + length cs ≡ budget = omega arith in f) in (
      record { clauses = cs; is = same },
      (unanswered lines q cs ending ends, count, subst (λ (ls : Lines). Open (lines ++ ls)) (sym same) (is_open q cs lines new belongs_so true_answer)),
    )
answered y former budget room old new limit Room cs lines ending k spent is_room given belongs ends has true_answer =
    let q = query_of (moved_task y former budget room) limit in (
      record { clauses = cs; is = ap (search_lines q cs) ends },
      (
        unanswered lines q cs ending ends,
        subst (NextClausePasses (lines ++ search_lines q cs ending)) is_room (has_no_room (lines ++ search_lines q cs ending) new belongs true_answer),
      ),
    )

pub search_goes : (e : Encoding) (former : Former) (budget room : ℕ) (old new : Kept) (limit : Option ℕ) (a : Verdict) (before now : Lines → Type 0) (n m : ℕ) →
    budget < 2 ^ 32 → IsReady e former budget room old →
    HasSolved before now (query_of (moved_task (layout_of e) former budget room) limit) old new a (budget - old.learnt) n m →
    IsTrueAnswer a (formula_of (layout_of e) former) (query_of (moved_task (layout_of e) former budget room) limit) new → new.words ≤ room →
    GoesOn (KnowsMoved (layout_of e) former budget room old) (KnowsMoved (layout_of e) former budget room new) before now n m
    (λ lines more. TellsAnswer (moved_task (layout_of e) former budget room) lines limit a more)
search_goes e former budget room old new limit a before now n m top ready s true_answer fits = λ lines k.
    let y = layout_of e in
    let q = query_of (moved_task y former budget room) limit in
    let more = search_lines q s.learnt s.ending in
    let belongs = s.belongs lines k.belongs in
    let few = within_spent a (budget - old.learnt) (length s.learnt) s.spent in
    let count = count_after old.learnt new.learnt (length s.learnt) budget ready.spent few top (s.kept).learnt in
    let are : clause_lines (lines ++ more) ≡ map Formula (formula_of y former) =
    clause_lines_append lines more ∙ ap (λ (ls : Lines). clause_lines lines ++ ls) (search_no_clauses a q s.learnt s.ending s.ends)
    ∙ append-nil (clause_lines lines) ∙ k.told_are in
    record {
      more = more;
      knows = record {
        belongs = belongs;
        told_are = are;
        learnt_are = (let c = k.learnt_are in let d = count_of_search a q s.learnt lines s.ending s.ends in omega arith);
        spent = (let spent = ready.spent in omega (arith, spent, few, count));
        covers = lines_cover y former budget room (lines ++ more) ready.facts are;
        fits = subst (λ n. n ≤ room) belongs.words fits;
      };
      told = s.told;
      counted = s.counted ∙ ap (λ c. rose_by c n) (sym (ap length (learnt_of_search a q s.learnt s.ending s.ends)));
      does = answered y former budget room old new limit a s.learnt lines s.ending k ready.spent ((s.kept).room ∙ ready.room_is) (formula_of y former) belongs
          s.ends s.spent true_answer;
    }

-- ---- the formula alone

pub formula_is : (e : Encoding) (former : Former) (budget room : ℕ) (k : Kept) → IsReady e former budget room k → e.formula.clauses ≡ drawing_clauses e
formula_is e former budget room k ready =
    (ready.whole).clauses ∙ ap (λ (bs : List Bound). drawing_clauses e ++ bounds_clauses e.graph (encoded_vars e) e.grid bs) ready.bounds
    ∙ append-nil (drawing_clauses e)

pub last_is : (e : Encoding) (former : Former) (budget room : ℕ) (k : Kept) → IsReady e former budget room k →
    e.formula.vars ≡ formula_size e.graph (is_above e.order) (is_overlap e.order) e.grid
last_is e former budget room k ready = (ready.whole).vars ∙ ap (bounds_last e.graph (encoded_vars e) e.grid (drawing_last e)) ready.bounds

pub few_variables : (e : Encoding) (former : Former) (budget room last : ℕ) (k : Kept) (limit : Option ℕ) → IsReady e former budget room k →
    last ≡ e.formula.vars → k.vars ≤ VARS → MatchOption limit ⊤ (λ n. (1 ≤ n) × (n ≤ matched former)) →
    MatchOption limit ⊤ (λ n. (1 ≤ n) × (last + n ≤ VARS))
few_variables e former budget room last k None ready is few h = tt
few_variables e former budget room last k (Some n) ready is few h = (
  h.0,
  let size = last_is e former budget room k ready in let vars = ready.vars in let
      to = h.1 in omega (arith, is, size, vars, few, to),
)

pub drawing_model : (e : Encoding) (former : Former) (budget room : ℕ) (k : Kept) (v : Assignment) → IsReady e former budget room k →
    SatisfiesAll v (formula_of (layout_of e) former) → SatisfiesAll v e.formula.clauses
drawing_model e former budget room k v ready h =
    subst (SatisfiesAll v) (sym (formula_is e former budget room k ready))
    (satisfies_left v (drawing_clauses e) (count_clauses (drawing_vars e.graph e.grid).node former
    (formula_size e.graph (is_above e.order) (is_overlap e.order) e.grid)) h)

pub long_enough : (e : Encoding) (former : Former) (budget room : ℕ) (k : Kept) (n : ℕ) → IsReady e former budget room k → n ≡ k.vars → e.formula.vars ≤ n
long_enough e former budget room k n ready is = let last = last_is e former budget room k ready in let vars = ready.vars in omega (arith, last, vars, is)

-- ---- the drawing that is found

pub is_below : (y : Layout) (former : Former) (budget room : ℕ) (limit : Option ℕ) (v : Assignment) (d : Drawing) → IsMovedFormula y former →
    MatchOption limit ⊤ (λ n. (1 ≤ n) × (n ≤ matched former)) → SatisfiesAll v (formula_of y former) →
    MakesTrue v (query_of (moved_task y former budget room) limit) →
    ((other : Drawing) → Lawful y.graph (is_above y.order) y.grid other → StandsFor v y.graph (drawing_vars y.graph y.grid) other → other ≡ d) →
    IsBelow limit (moved_nodes former d)
is_below y former budget room None v d facts h all true_all alone = tt
is_below y former budget room (Some n) v d facts h all true_all alone =
    let s = facts.sound v all in
    let x = moved_variable y.graph (is_above y.order) (is_overlap y.order) y.grid n in
    let same : s.drawing ≡ d = alone s.drawing s.lawful s.stands in
    let holds : not (v x) ≡ true = All-head (λ l. truth v l ≡ true) (negative_of x) [] true_all in
    let is_false : v x ≡ false = flipped (v x) holds in
    let reads : v x ≡ nat_le n (moved_nodes former d) = s.tells n h.0 h.1 ∙ ap (λ (z : Drawing). nat_le n (moved_nodes former z)) same in
    leb-false n (moved_nodes former d) (sym reads ∙ is_false)

pub model_below : (e : Encoding) (former : Former) (budget room : ℕ) (k : Kept) (limit : Option ℕ) (assume : List Literal) (m : List Bool) (d : Drawing) →
    IsReady e former budget room k → MatchOption limit ⊤ (λ n. (1 ≤ n) × (n ≤ matched former)) →
    assume ≡ query_of (moved_task (layout_of e) former budget room) limit → HasModel (formula_of (layout_of e) former) assume k → k.model ≡ Some m →
    ((other : Drawing) → Lawful e.graph (is_above e.order) e.grid other → StandsFor (assignment m) e.graph (encoded_vars e) other → other ≡ d) →
    IsBelow limit (moved_nodes former d)
model_below e former budget room k limit assume m d ready h is model k_model alone =
    let same : model.values ≡ m = (let e : Some (model.values) ≡ Some m = sym model.model ∙ k_model in cc) in
    is_below (layout_of e) former budget room limit (assignment m) d ready.facts h
    (subst (λ (x : List Bool). SatisfiesAll (assignment x) (formula_of (layout_of e) former)) same model.clauses)
    (subst (MakesTrue (assignment m)) is (subst (λ (x : List Bool). MakesTrue (assignment x) assume) same model.assumptions)) alone

-- ---- the answer

pub answer_lines : (p : CountTask) (lines : Lines) (limit : Option ℕ) (a : Verdict) (r : Answer) (more : Lines) → IsAnswerOf a r →
    TellsAnswer p lines limit a more → IsAnswer p lines limit r more
answer_lines p lines limit Model (Found d) more is h = h
answer_lines p lines limit Model Refuted more is h = absurd is
answer_lines p lines limit Model (Stopped stop) more is h = absurd is
answer_lines p lines limit RefutedVerdict (Found d) more is h = absurd is
answer_lines p lines limit RefutedVerdict Refuted more is h = h
answer_lines p lines limit RefutedVerdict (Stopped stop) more is h = absurd is
answer_lines p lines limit Spent (Found d) more is h = absurd is
answer_lines p lines limit Spent Refuted more is h = absurd is
answer_lines p lines limit Spent (Stopped BudgetSpent) more is h = h
answer_lines p lines limit Spent (Stopped RoomFull) more is h = absurd is
answer_lines p lines limit Room (Found d) more is h = absurd is
answer_lines p lines limit Room Refuted more is h = absurd is
answer_lines p lines limit Room (Stopped BudgetSpent) more is h = absurd is
answer_lines p lines limit Room (Stopped RoomFull) more is h = h
