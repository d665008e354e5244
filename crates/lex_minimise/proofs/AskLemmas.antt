-- A question: its assumptions, and the lines that the solver tells.
use Rattle.std.proofs.Common.{◌≡◌, ◌≢◌, ◌≤◌, ◌<◌, ℕ, zero, suc, ◌+◌, ◌-◌, ◌^◌, Bool, true, false, List, [], ◌∷◌, ◌++◌, length, take, get_or, map, refl, sym}
use Rattle.std.proofs.Common.{◌∙◌, ap, subst, inl, inr, arith, append-nil, length-append}
use Rattle.std.specs.Prelude.{All, Any, Contains, Some, None, Option, MatchOption, flat_map, fold, nat_le, not}
use Rattle.std.proofs.lemmas.Bool.{leb-false}
use Rattle.std.proofs.lemmas.List.{take_all}
use Rattle.std.proofs.Math.Seq.{take-suc}
use Rattle.std.proofs.lemmas.Grind.{flat_map-append, fold-append}
use Rattle.std.proofs.lemmas.List.Elements.{All-nil, All-cons, All-head, All-tail, All-contains, All-weaker, Contains-append_left, Contains-append_right}
use Rattle.std.proofs.lemmas.List.Elements.{Contains-append_cases}
use Rattle.plan_core.specs.declared.criterion.Values.{Values}
use Rattle.plan_core.specs.declared.criterion.Criterion.{Criterion}
use Rattle.plan_core.specs.Values.{value_of, limit_of}
use Rattle.plan_core.proofs.ListFacts.{pairs_head, pairs_tail}
use Rattle.cnf_core.specs.declared.literal.Var.{Var}
use Rattle.cnf_core.specs.Lit.{Literal, literal, positive_of, negative_of, negate, has}
use Rattle.cnf_core.specs.Clause.{Clauses, Avoids, AreDistinct, IsNamed}
use Rattle.cnf_core.specs.Assignment.{Assignment, truth}
use Rattle.cnf_core.specs.Propagation.{Falsifies}
use Rattle.cnf_core.proofs.PropagationLemmas.{falsifies_more, rup_more}
use Rattle.track_order.specs.Order.{is_above, is_overlap}
use Rattle.refute_log.specs.declared.line.LogLine.{LogLine}
use Rattle.refute_log.specs.declared.line.LogLine.TheVariants.{Formula, Learnt, Bound as BoundLine, Query, Refuted as RefutedLine, Model as ModelLine}
use Rattle.refute_log.specs.Told.{Lines}
use Rattle.refute_log.specs.Log.{asked, learnt, facts_of, Open, clause_line, clause_lines}
use Rattle.refute_log.specs.Bounds.{SaysAtLeast}
use Rattle.refute_log.specs.Full.{NextClausePasses}
use Rattle.drawing_cnf.specs.Expected.{drawing_vars, formula_size}
use Rattle.drawing_cnf.specs.Bounds.{IsExact}
use Rattle.drawing_cnf.specs.Bounded.{Bound, Tells}
use Rattle.cdcl_core.specs.declared.answer.Answer.{Answer}
use Rattle.cdcl_core.specs.declared.answer.Answer.TheVariants.{Model as ModelAnswer, Refuted as RefutedAnswer, Spent as SpentAnswer, Room as RoomAnswer}
use Rattle.cdcl_core.specs.Kept.{Kept, more_learnt, MakesTrue, IsOpenQuery, IsFull, IsTrueAnswer}
use Rattle.cdcl_core.specs.Belongs.{Belongs, search_lines, EndsWith, HasSpent}
use Rattle.search_least.specs.declared.oracle.Below.{Below}
use Rattle.search_least.specs.Task.{greatest_of}
use Rattle.search_least.specs.Asked.{IsWithinCap, AreOnce, AreMet, AreNegated, AreAgainst}
use Rattle.search_least.proofs.QuestionLemmas.{query_stays}
use Rattle.refute_log.proofs.StepLemmas.{unanswered}
use Rattle.drawing_cnf.specs.Layout.{Layout}
use Rattle.lex_minimise.specs.Task.{task_of}
use Rattle.lex_minimise.specs.Known.{told_lines, told_clauses, caps_of, AreTold, KnowsLines}
use Rattle.lex_minimise.specs.Asking.{HasLimit, IsLimitOf, IsAssumed, AreAssumed, TellsAnswer}
use Rattle.drawing_cnf.proofs.ListLemmas.{line_there}
use Rattle.cdcl_core.proofs.LogLemmas.{new_told}
use Rattle.lex_minimise.proofs.CoverLemmas.{one_bound, told_of, HasTold}

-- ---- the assumptions

pub none_has_limit : (told : List Bound) (b : Below) (i : ℕ) → length told ≤ i → IsWithinCap (caps_of told) b → All (λ t. HasLimit b t → ⊥) (take i told) → ⊥
none_has_limit told b i end there none =
    let to = there.1 in
    let from = there.0 in
    let h : HasTold told b.criterion (caps_of told b.criterion) = told_of told b.criterion (omega arith) in
    let cap = h.cap in
    All-contains (λ (t : Bound). HasLimit b t → ⊥) told h.bound (subst (λ (ts : List Bound). All (λ t. HasLimit b t → ⊥) ts) (take_all i told end) none) h.among
    (h.same, omega arith)

pub assumed_more : (told : List Bound) (bs : List Below) (ls : List Literal) (b : Below) (l : Literal) → AreAssumed told bs ls → IsAssumed told b l →
    AreAssumed told (bs ++ b ∷ []) (ls ++ l ∷ [])
assumed_more told [] [] b l h k = (k, tt)
assumed_more told [] (m ∷ ms) b l h k = absurd h
assumed_more told (c ∷ cs) [] b l h k = absurd h
assumed_more told (c ∷ cs) (m ∷ ms) b l h k = (h.0, assumed_more told cs ms b l h.1 k)

pub assumed_next : (told : List Bound) (bounds : List Below) (i : ℕ) (d : Below) (ls : List Literal) (x : Var) (l : Literal) → i < length bounds →
    AreAssumed told (take i bounds) ls → IsLimitOf told (get_or bounds i d) x → l ≡ negative_of x.0 →
    AreAssumed told (take (i + 1) bounds) (ls ++ l ∷ [])
assumed_next told bounds i d ls x l lt h is e =
    subst (λ (bs : List Below). AreAssumed told bs (ls ++ l ∷ [])) (sym (take-suc bounds i d lt)
    ∙ ap (λ n. take n bounds) (let one : suc i ≡ i + 1 = omega arith in one))
    (assumed_more told (take i bounds) ls (get_or bounds i d) l h (x, is, e))

-- the Bound line of an assumed variable is among the lines
in_clause_lines : (lines : Lines) (line : LogLine) → Contains (clause_lines lines) line → Contains lines line
in_clause_lines [] line there = absurd (let lt = there.1 in omega arith)
in_clause_lines (l ∷ lines) line there = elim (Contains-append_cases (clause_line l) (clause_lines lines) line there) [
  | inl here ↦ Contains-append_left (l ∷ []) lines line (itself l here)
  | inr later ↦ Contains-append_right (l ∷ []) lines line (in_clause_lines lines line later)
]
  where
    itself : (l : LogLine) → Contains (clause_line l) line → Contains (l ∷ []) line
    itself (Formula c) h = h
    itself (BoundLine c k x) h = h
    itself (Learnt c) h = absurd (let lt = h.1 in omega arith)
    itself (Query c) h = absurd (let lt = h.1 in omega arith)
    itself (RefutedLine c) h = absurd (let lt = h.1 in omega arith)
    itself ModelLine h = absurd (let lt = h.1 in omega arith)

limit_line : (y : Layout) (told : List Bound) (lines : Lines) (b : Below) (x : Var) → clause_lines lines ≡ told_lines y told → IsLimitOf told b x →
    Contains lines (BoundLine b.criterion b.limit x)
limit_line y told lines b x is h =
    let there : Contains (told_lines y told) (BoundLine (h.bound).criterion b.limit (record { 0 = (h.bound).last + b.limit })) =
    line_there y.graph (is_above y.order) (is_overlap y.order) y.grid told h.bound b.limit h.among h.from h.to in
    let variable : Contains (told_lines y told) (BoundLine (h.bound).criterion b.limit x) =
    subst (λ n. Contains (told_lines y told) (BoundLine (h.bound).criterion b.limit (record { 0 = n }))) (sym h.is) there in
    in_clause_lines lines (BoundLine b.criterion b.limit x)
    (subst (λ (ls : Lines). Contains ls (BoundLine b.criterion b.limit x)) (sym is)
    (subst (λ (c : Criterion). Contains (told_lines y told) (BoundLine c b.limit x)) h.same variable))

pub are_negated : (y : Layout) (told : List Bound) (lines : Lines) (bounds : List Below) (assume : List Literal) → clause_lines lines ≡ told_lines y told →
    AreAssumed told bounds assume → AreNegated lines bounds assume
are_negated y told lines [] [] is h = tt
are_negated y told lines [] (l ∷ ls) is h = absurd h
are_negated y told lines (b ∷ bs) [] is h = absurd h
are_negated y told lines (b ∷ bs) (l ∷ ls) is h =
    let k : IsAssumed told b l = h.0 in
    ((k.0, limit_line y told lines b k.0 is k.1, k.2), are_negated y told lines bs ls is h.1)

-- no two are of one variable
avoided : (y : Layout) (told : List Bound) (b : Below) (l : Literal) (bs : List Below) (ls : List Literal) → AreTold y told → IsAssumed told b l →
    All (λ c. b.criterion ≢ c.criterion) bs → AreAssumed told bs ls → Avoids l.var ls
avoided y told b l [] [] facts a other h = tt
avoided y told b l [] (m ∷ ms) facts a other h = absurd h
avoided y told b l (c ∷ cs) [] facts a other h = absurd h
avoided y told b l (c ∷ cs) (m ∷ ms) facts a other h =
    let k : IsAssumed told c m = h.0 in
    let la : IsLimitOf told b a.0 = a.1 in
    let lk : IsLimitOf told c k.0 = k.1 in
    let va : l.var ≡ (a.0).0 = ap (λ (z : Literal). z.var) a.2 in
    let vk : m.var ≡ (k.0).0 = ap (λ (z : Literal). z.var) k.2 in (
      (
          λ same.
          let ia = la.is in
          let ik = lk.is in
          let place : (la.bound).last + b.limit ≡ (lk.bound).last + c.limit = sym ia ∙ sym va ∙ same ∙ vk ∙ ik in
          let one : la.bound ≡ lk.bound = one_bound y.graph (drawing_vars y.graph y.grid) y.grid
          (formula_size y.graph (is_above y.order) (is_overlap y.order) y.grid) told facts.behind la.bound lk.bound b.limit c.limit la.among lk.among
          la.from la.to lk.from lk.to place in
          All-head (λ d. b.criterion ≢ d.criterion) c cs other (sym la.same ∙ ap (λ (z : Bound). z.criterion) one ∙ lk.same)
          ),
      avoided y told b l cs ms facts a (All-tail (λ d. b.criterion ≢ d.criterion) c cs other) h.1,
    )

pub are_distinct : (y : Layout) (told : List Bound) (bounds : List Below) (assume : List Literal) → AreTold y told → AreOnce bounds →
    AreAssumed told bounds assume → AreDistinct assume
are_distinct y told [] [] facts once h = tt
are_distinct y told [] (l ∷ ls) facts once h = absurd h
are_distinct y told (b ∷ bs) [] facts once h = absurd h
are_distinct y told (b ∷ bs) (l ∷ ls) facts once h = (
  avoided y told b l bs ls facts h.0 (pairs_head (λ a c. a.criterion ≢ c.criterion) b bs once) h.1,
  are_distinct y told bs ls facts (pairs_tail (λ a c. a.criterion ≢ c.criterion) b bs once) h.1,
)

pub are_named : (y : Layout) (told : List Bound) (bounds : List Below) (assume : List Literal) → AreTold y told → AreAssumed told bounds assume →
    All (λ l. IsNamed (told_clauses y told) l.var) assume
are_named y told [] [] facts h = All-nil (λ l. IsNamed (told_clauses y told) l.var)
are_named y told [] (l ∷ ls) facts h = absurd h
are_named y told (b ∷ bs) [] facts h = absurd h
are_named y told (b ∷ bs) (l ∷ ls) facts h =
    let k : IsAssumed told b l = h.0 in
    let la : IsLimitOf told b k.0 = k.1 in
    let named = All-contains (λ (t : Bound). (n : ℕ) → 1 ≤ n → n ≤ t.cap → IsNamed (told_clauses y told) (t.last + n)) told la.bound facts.named la.among in
    let variable : (la.bound).last + b.limit ≡ l.var = sym la.is ∙ sym (ap (λ (z : Literal). z.var) k.2) in
    All-cons (λ l. IsNamed (told_clauses y told) l.var) l ls (subst (IsNamed (told_clauses y told)) variable (named b.limit la.from la.to))
    (are_named y told bs ls facts h.1)

-- an assumed literal is of one of the bounds
record IsOneOf (told : List Bound) (bounds : List Below) (l : Literal) : Type 0 where
  bound : Below
  among : Contains bounds bound
  assumed : IsAssumed told bound l

one_of : (told : List Bound) (bounds : List Below) (assume : List Literal) (l : Literal) → AreAssumed told bounds assume → Contains assume l →
    IsOneOf told bounds l
one_of told [] [] l h there = absurd (let lt = there.1 in omega arith)
one_of told [] (m ∷ ms) l h there = absurd h
one_of told (b ∷ bs) [] l h there = absurd h
one_of told (b ∷ bs) (m ∷ ms) l h there = elim (Contains-append_cases (m ∷ []) ms l there) [
  | inl here ↦ record { bound = b; among = (0, omega arith, refl); assumed = subst (IsAssumed told b) (only m here) h.0 }
  | inr later ↦ let r = one_of told bs ms l h.1 later in record {
    bound = r.bound;
    among = Contains-append_right (b ∷ []) bs r.bound r.among;
    assumed = r.assumed;
  }
]
  where
    only : (m : Literal) → Contains (m ∷ []) l → m ≡ l
    only m there = All-contains (λ (z : Literal). z ≡ l → m ≡ l) (m ∷ []) l (All-cons (λ (z : Literal). z ≡ l → m ≡ l) m [] (λ e. e)
        (All-nil (λ (z : Literal). z ≡ l → m ≡ l))) there refl

pub are_against : (y : Layout) (budget room : ℕ) (told : List Bound) (lines : Lines) (bounds : List Below) (assume clause : List Literal) → AreTold y told →
    clause_lines lines ≡ told_lines y told → AreAssumed told bounds assume →
    All (λ l. Contains assume (negate l)) clause → AreAgainst (greatest_of (task_of y budget room)) lines bounds clause
are_against y budget room told lines bounds assume clause facts is h answers =
    All-weaker (λ l. Contains assume (negate l)) (λ l. Any (λ b. SaysAtLeast (greatest_of (task_of y budget room)) lines b.criterion b.limit l) bounds)
    (λ l there.
    let r = one_of told bounds assume (negate l) h there in
    let b : Below = r.bound in
    let k : IsAssumed told b (negate l) = r.assumed in
    let la : IsLimitOf told b k.0 = k.1 in
    let within : (la.bound).cap ≤ limit_of y.graph y.grid (la.bound).criterion = All-contains (λ (t : Bound). t.cap ≤ limit_of y.graph y.grid t.criterion) told
    la.bound facts.within la.among in
    let top : (la.bound).cap ≤ limit_of y.graph y.grid b.criterion = subst (λ (c : Criterion). (la.bound).cap ≤ limit_of y.graph y.grid c) la.same within in
    let to = la.to in
    let says : SaysAtLeast (greatest_of (task_of y budget room)) lines b.criterion b.limit l = record {
      within = omega (arith, to, top);
      variable = k.0;
      told = limit_line y told lines b k.0 is la;
      is = turned l k.0 k.2;
    } in
    ((r.among).0, b, (r.among).1, (r.among).2, says)) clause answers
  where
    is_positive : (b : Bool) → not b ≡ false → b ≡ true
    is_positive true e = refl
    is_positive false e = absurd (cc)

    turned : (l : Literal) (x : Var) → negate l ≡ negative_of x.0 → l ≡ positive_of x.0
    turned l x e =
        let v : l.var ≡ x.0 = ap (λ (z : Literal). z.var) e in
        let p : l.positive ≡ true = is_positive l.positive (ap (λ (z : Literal). z.positive) e) in
        ap (λ n. literal n l.positive) v ∙ ap (literal x.0) p

-- a drawing whose values the bounds tell meets them, where the assumptions are true
pub are_met : (told : List Bound) (bounds : List Below) (assume : List Literal) (v : Assignment) (values : Values) → AreAssumed told bounds assume →
    Tells v values told → MakesTrue v assume → AreMet values bounds
are_met told [] [] v values h tells true_all = All-nil (λ b. value_of values b.criterion < b.limit)
are_met told [] (l ∷ ls) v values h tells true_all = absurd h
are_met told (b ∷ bs) [] v values h tells true_all = absurd h
are_met told (b ∷ bs) (l ∷ ls) v values h tells true_all =
    let k : IsAssumed told b l = h.0 in
    let la : IsLimitOf told b k.0 = k.1 in
    let exact : IsExact v (la.bound).last (la.bound).cap (value_of values (la.bound).criterion) = All-contains
    (λ (t : Bound). IsExact v t.last t.cap (value_of values t.criterion)) told la.bound tells la.among in
    let holds : truth v (negative_of (k.0).0) ≡ true = ap (truth v) (sym k.2) ∙ All-head (λ m. truth v m ≡ true) l ls true_all in
    let is_false : v (k.0).0 ≡ false = not_true (v (k.0).0) holds in
    let reads : v (k.0).0 ≡ nat_le b.limit (value_of values b.criterion) =
    ap v la.is ∙ exact b.limit la.from la.to ∙ ap (λ (c : Criterion). nat_le b.limit (value_of values c)) la.same in
    All-cons (λ b. value_of values b.criterion < b.limit) b bs (leb-false b.limit (value_of values b.criterion) (sym reads ∙ is_false)) (are_met told bs ls v
    values h.1 tells (All-tail (λ m. truth v m ≡ true) l ls true_all))
  where
    not_true : (t : Bool) → not t ≡ true → t ≡ false
    not_true true e = absurd (cc)
    not_true false e = refl

-- ---- the lines

no_learnt_at_end : (a : Answer) (assume : List Literal) (ending : Lines) → EndsWith a assume ending → flat_map learnt ending ≡ []
no_learnt_at_end ModelAnswer assume ending e = ap (flat_map learnt) e
no_learnt_at_end RefutedAnswer assume ending e = ap (flat_map learnt) e.is
no_learnt_at_end SpentAnswer assume ending e = ap (flat_map learnt) e
no_learnt_at_end RoomAnswer assume ending e = ap (flat_map learnt) e

learnt_of_learnt : (cs : Clauses) → flat_map learnt (map Learnt cs) ≡ cs
learnt_of_learnt [] = refl
learnt_of_learnt (c ∷ cs) = ap (λ (ds : Clauses). c ∷ ds) (learnt_of_learnt cs)

pub learnt_of_search : (a : Answer) (assume : List Literal) (cs : Clauses) (ending : Lines) → EndsWith a assume ending →
    flat_map learnt (search_lines assume cs ending) ≡ cs
learnt_of_search a assume cs ending e =
    flat_map-append learnt (map Learnt cs) ending ∙ ap (λ (ds : Clauses). ds ++ flat_map learnt ending) (learnt_of_learnt cs)
    ∙ ap (λ (ds : Clauses). cs ++ ds) (no_learnt_at_end a assume ending e) ∙ append-nil cs

pub count_of_search : (a : Answer) (assume : List Literal) (cs : Clauses) (lines ending : Lines) → EndsWith a assume ending →
    length (flat_map learnt (lines ++ search_lines assume cs ending)) ≡ length (flat_map learnt lines) + length cs
count_of_search a assume cs lines ending e =
    ap length (flat_map-append learnt lines (search_lines assume cs ending) ∙ ap (λ (ds : Clauses). flat_map learnt lines ++ ds)
    (learnt_of_search a assume cs ending e)) ∙ length-append (flat_map learnt lines) cs

latest_query : (assume : List Literal) (cs : Clauses) (lines : Lines) → (facts_of (lines ++ search_lines assume cs [])).query ≡ Some assume
latest_query assume cs lines =
    fold-append asked None lines (search_lines assume cs []) ∙ ap (λ (ls : Lines). fold asked (Some assume) ls) (append-nil (map Learnt cs))
    ∙ query_stays (Some assume) cs

pub is_open : (assume : List Literal) (cs : Clauses) (lines : Lines) (k : Kept) → Belongs (lines ++ search_lines assume cs []) k →
    IsOpenQuery k.clauses assume → Open (lines ++ search_lines assume cs [])
is_open assume cs lines k belongs closed =
    let whole = lines ++ search_lines assume cs [] in
    subst (λ (o : Option (List Literal)). MatchOption o ⊥ (λ q. Falsifies (facts_of whole).clauses (has q) → ⊥)) (sym (latest_query assume cs lines))
    (λ f. closed (falsifies_more (facts_of whole).clauses k.clauses (has assume) belongs.told f))

pub has_no_room : (lines : Lines) (k : Kept) → Belongs lines k → IsFull k.room k.words k.clauses → NextClausePasses lines k.room
has_no_room lines k belongs full = record {
  clause = full.clause;
  formed = full.formed;
  follows = rup_more k.clauses (facts_of lines).clauses full.clause belongs.all (full.deduced).follows;
  new = new_told k.clauses (facts_of lines).clauses full.clause belongs.all belongs.told (full.deduced).new;
  passes = (let words = belongs.words in let p = full.passes in omega arith);
}

-- ---- the whole question

learnt_exactly : (old n : ℕ) → old + n < 2 ^ 32 → more_learnt old n ≡ old + n
learnt_exactly old zero low = omega arith
learnt_exactly old (suc n) low = let before = learnt_exactly old n (omega arith) in omega (arith, before)

pub count_after : (old new n budget : ℕ) → old ≤ budget → n ≤ budget - old → budget < 2 ^ 32 → new ≡ more_learnt old n → new ≡ old + n
count_after old new n budget le few top is = is ∙ learnt_exactly old n (omega arith)

pub answered : (y : Layout) (budget room : ℕ) (told : List Bound) (old new : Kept) (bounds : List Below) (assume : List Literal) (a : Answer) (cs : Clauses)
    (lines ending : Lines) →
    KnowsLines y told budget room old lines → old.learnt ≤ budget → new.room ≡ room → AreAssumed told bounds assume →
    Belongs (lines ++ search_lines assume cs ending) new → EndsWith a assume ending → HasSpent a (budget - old.learnt) (length cs) →
    (given : Clauses) → IsTrueAnswer a given assume new → TellsAnswer (task_of y budget room) lines bounds a (search_lines assume cs ending)
answered y budget room told old new bounds assume ModelAnswer cs lines ending k spent is_room h belongs ends has given true_answer = record {
  query = assume;
  negated = are_negated y told lines bounds assume k.told_are h;
  clauses = cs;
  is = ap (search_lines assume cs) ends;
}
answered y budget room told old new bounds assume RefutedAnswer cs lines ending k spent is_room h belongs ends has given true_answer = (
  ends.clause,
  are_against y budget room told lines bounds assume ends.clause k.facts k.told_are h ends.answers,
  record { query = assume; negated = are_negated y told lines bounds assume k.told_are h; clauses = cs; is = ap (search_lines assume cs) ends.is },
)
answered y budget room told old new bounds assume SpentAnswer cs lines ending k spent is_room h belongs ends has given true_answer =
    let same : search_lines assume cs ending ≡ search_lines assume cs [] = ap (search_lines assume cs) ends in
    let belongs_so : Belongs (lines ++ search_lines assume cs []) new = subst (λ (ls : Lines). Belongs (lines ++ ls) new) same belongs in
    let count : length (flat_map learnt (lines ++ search_lines assume cs ending)) ≡ budget =
    count_of_search SpentAnswer assume cs lines ending ends ∙ (let c = k.learnt_are in let e : length cs ≡ budget - old.learnt = has in let f : length
    (flat_map learnt lines) + length cs ≡ budget = omega arith in f) in (
      record { query = assume; negated = are_negated y told lines bounds assume k.told_are h; clauses = cs; is = same },
      (
        unanswered lines assume cs ending ends,
        count,
        subst (λ (ls : Lines). Open (lines ++ ls)) (sym same) (is_open assume cs lines new belongs_so true_answer),
      ),
    )
answered y budget room told old new bounds assume RoomAnswer cs lines ending k spent is_room h belongs ends has given true_answer = (
  record { query = assume; negated = are_negated y told lines bounds assume k.told_are h; clauses = cs; is = ap (search_lines assume cs) ends },
  (
    unanswered lines assume cs ending ends,
    subst (NextClausePasses (lines ++ search_lines assume cs ending)) is_room
        (has_no_room (lines ++ search_lines assume cs ending) new belongs true_answer),
  ),
)
