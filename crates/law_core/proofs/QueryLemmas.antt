-- What a question leaves of the solver and of the log.
use Rattle.std.proofs.Common.{◌≡◌, ◌≤◌, ◌<◌, ℕ, ◌+◌, ◌-◌, ◌^◌, List, [], ◌∷◌, ◌++◌, length, sym, ◌∙◌, ap, subst, arith, append-nil}
use Rattle.std.specs.Prelude.{flat_map, map, All, Some, None}
use Rattle.std.proofs.lemmas.List.Elements.{All-nil, All-cons}
use Rattle.std.proofs.lemmas.Grind.{fold-append}
use Rattle.outside_io.specs.Counts.{rose_by}
use Rattle.cnf_core.specs.Lit.{Literal}
use Rattle.cnf_core.specs.Clause.{Clauses}
use Rattle.cnf_core.specs.Truths.{assignment}
use Rattle.refute_log.specs.declared.line.LogLine.TheVariants.{Learnt, Query, Refuted as RefutedLine, Model as ModelLine}
use Rattle.refute_log.specs.Told.{Lines}
use Rattle.refute_log.specs.Log.{learnt, asked, facts_of, Open, clause_lines}
use Rattle.refute_log.specs.Steps.{GoesOn, Leaves}
use Rattle.refute_log.proofs.StepLemmas.{leaves_same, leaves_then, few_within, clause_lines_append, unanswered}
use Rattle.refute_log.specs.Full.{NextClausePasses}
use Rattle.refute_log.specs.declared.stop.Stop.TheVariants.{BudgetSpent, RoomFull}
use Rattle.drawing_cnf.specs.Layout.{Layout}
use Rattle.cdcl_core.specs.declared.answer.Answer.{Answer}
use Rattle.cdcl_core.specs.declared.answer.Answer.TheVariants.{Model, Refuted as RefutedAnswer, Spent, Room}
use Rattle.cdcl_core.specs.Kept.{Kept, HasLearnt, AreGiven, MakesTrue, HasModel, IsTrueAnswer}
use Rattle.cdcl_core.specs.Belongs.{Belongs, search_lines, EndsWith, HasSpent, HasSolved}
use Rattle.cdcl_core.proofs.LeftLemmas.{clause_searched, within_spent}
use Rattle.lex_minimise.proofs.AskLemmas.{learnt_of_search, count_of_search, is_open, has_no_room, count_after}
use Rattle.search_why.specs.declared.oracle.Reply.{Reply}
use Rattle.search_why.specs.declared.oracle.Reply.TheVariants.{Found, Refuted, Stopped}
use Rattle.search_least.proofs.QuestionLemmas.{query_stays}
use Rattle.search_least.proofs.BehindLemmas.{behind_unended, behind_ended}
use Rattle.search_why.specs.Task.{Task}
use Rattle.search_why.specs.Asked.{TellsReply, IsNoModel}
use Rattle.law_core.specs.Known.{formula_of, task_of, IsWhyFormula, IsReady, KnowsWhy, TellsAnswer}
use Rattle.law_core.specs.Query.{SelectsLaws, HasLaws, IsLawPlaced, AreAboutLaws, IsReplyOf}
use Rattle.law_core.proofs.AskLemmas.{meets_each}

-- ---- the lines

pub ready_after : (y : Layout) (selecting : List ℕ) (budget room : ℕ) (old new : Kept) (a : Answer) (cs : Clauses) → budget < 2 ^ 32 →
    IsReady y selecting budget room old → HasLearnt old new cs → HasSpent a (budget - old.learnt) (length cs) →
    AreGiven (formula_of y) new.clauses → IsReady y selecting budget room new
ready_after y selecting budget room old new a cs top ready h has given =
    let n = within_spent a (budget - old.learnt) (length cs) has in
    let count = count_after old.learnt new.learnt (length cs) budget ready.spent n top h.learnt in
    record {
      facts = ready.facts;
      selecting_are = ready.selecting_are;
      working = h.failed;
      vars = h.vars ∙ ready.vars;
      room_is = h.room ∙ ready.room_is;
      given = given;
      spent = (let s = ready.spent in omega (arith, n, count, s));
    }

-- a question that ends with no line tells of no model
learnt_unmodelled : (cs : Clauses) → All IsNoModel (map Learnt cs ++ [])
learnt_unmodelled [] = All-nil IsNoModel
learnt_unmodelled (c ∷ cs) = All-cons IsNoModel (Learnt c) (map Learnt cs ++ []) tt (learnt_unmodelled cs)

unmodelled : (assume : List Literal) (cs : Clauses) (ending : Lines) → ending ≡ [] → All IsNoModel (search_lines assume cs ending)
unmodelled assume cs ending is = subst (λ (ls : Lines). All IsNoModel (search_lines assume cs ls)) (sym is)
    (All-cons IsNoModel (Query assume) (map Learnt cs ++ []) tt (learnt_unmodelled cs))

answered : (p : Task) (old new : Kept) (a : Answer) (assume : List Literal) (cs : Clauses) (lines ending : Lines) →
    old.learnt ≡ length (flat_map learnt lines) → old.learnt ≤ p.budget → new.room ≡ p.room → (given : Clauses) →
    Belongs (lines ++ search_lines assume cs ending) new → EndsWith a assume ending → HasSpent a (p.budget - old.learnt) (length cs) →
    IsTrueAnswer a given assume new → TellsAnswer p a lines (search_lines assume cs ending)
answered p old new Model assume cs lines ending learnt_are spent is_room given belongs ends has true_answer = tt
answered p old new RefutedAnswer assume cs lines ending learnt_are spent is_room given belongs ends has true_answer = tt
answered p old new Spent assume cs lines ending learnt_are spent is_room given belongs ends has true_answer =
    let same : search_lines assume cs ending ≡ search_lines assume cs [] = ap (search_lines assume cs) ends in
    let belongs_so : Belongs (lines ++ search_lines assume cs []) new = subst (λ (ls : Lines). Belongs (lines ++ ls) new) same belongs in
    let count : length (flat_map learnt (lines ++ search_lines assume cs ending)) ≡ p.budget =
    count_of_search Spent assume cs lines ending ends ∙ (let e : length cs ≡ p.budget - old.learnt = has in let f : length (flat_map learnt lines) + length cs
    ≡ p.budget = omega (arith, e, learnt_are, spent) in f) in (
      (
        unanswered lines assume cs ending ends,
        count,
        subst (λ (ls : Lines). Open (lines ++ ls)) (sym same) (is_open assume cs lines new belongs_so true_answer),
      ),
      unmodelled assume cs ending ends,
    )
answered p old new Room assume cs lines ending learnt_are spent is_room given belongs ends has true_answer = (
  (
    unanswered lines assume cs ending ends,
    subst (NextClausePasses (lines ++ search_lines assume cs ending)) is_room
        (has_no_room (lines ++ search_lines assume cs ending) new belongs true_answer),
  ),
  unmodelled assume cs ending ends,
)

-- a Model line behind a query that has a model
model_answers : (y : Layout) (budget room : ℕ) (k : Kept) (assume : List Literal) (before : Lines) → IsWhyFormula y →
    SelectsLaws (task_of y budget room) assume → HasModel (formula_of y) assume k → (facts_of before).query ≡ Some assume →
    HasLaws (task_of y budget room) before
model_answers y budget room k assume before facts (wanted, places, is) model latest =
    let v = assignment model.values in
    let s = facts.sound v model.clauses in
    record {
      wanted = wanted;
      places = places;
      latest = latest ∙ ap Some is;
      drawing = s.drawing;
      loose = s.loose;
      meets = meets_each y budget room v s.drawing wanted s.meets places.there (subst (MakesTrue v) is model.assumptions);
    }

-- a question and its answer stand where they may
laws_placed : (y : Layout) (budget room : ℕ) (k : Kept) (a : Answer) (assume : List Literal) (cs : Clauses) (lines ending : Lines) → IsWhyFormula y →
    SelectsLaws (task_of y budget room) assume → EndsWith a assume ending → IsTrueAnswer a (formula_of y) assume k →
    AreAboutLaws (task_of y budget room) lines → AreAboutLaws (task_of y budget room) (lines ++ search_lines assume cs ending)
laws_placed y budget room k Model assume cs lines ending facts selects e model h =
    let front : Lines = lines ++ Query assume ∷ map Learnt cs in
    let latest : (facts_of front).query ≡ Some assume = fold-append asked None lines (Query assume ∷ map Learnt cs) ∙ query_stays (Some assume) cs in
    behind_ended (IsLawPlaced (task_of y budget room)) lines (search_lines assume cs ending) assume cs ModelLine (ap (search_lines assume cs) e)
    (λ before c. tt) selects (model_answers y budget room k assume front facts selects model latest) h
laws_placed y budget room k RefutedAnswer assume cs lines ending facts selects e none h =
    behind_ended (IsLawPlaced (task_of y budget room)) lines (search_lines assume cs ending) assume cs (RefutedLine e.clause) (ap (search_lines assume cs) e.is)
    (λ before c. tt) selects tt h
laws_placed y budget room k Spent assume cs lines ending facts selects e spent h =
    behind_unended (IsLawPlaced (task_of y budget room)) lines (search_lines assume cs ending) assume cs (ap (search_lines assume cs) e) (λ before c. tt)
    selects h
laws_placed y budget room k Room assume cs lines ending facts selects e full h =
    behind_unended (IsLawPlaced (task_of y budget room)) lines (search_lines assume cs ending) assume cs (ap (search_lines assume cs) e) (λ before c. tt)
    selects h

pub search_goes : (y : Layout) (selecting : List ℕ) (budget room : ℕ) (old new : Kept) (a : Answer) (assume : List Literal) (before now : Lines → Type 0)
    (n m : ℕ) → budget < 2 ^ 32 → IsReady y selecting budget room old → SelectsLaws (task_of y budget room) assume →
    HasSolved before now assume old new a (budget - old.learnt) n m → IsTrueAnswer a (formula_of y) assume new → new.words ≤ room →
    GoesOn (KnowsWhy (task_of y budget room) old) (KnowsWhy (task_of y budget room) new) before now n m
    (λ lines more. TellsAnswer (task_of y budget room) a lines more)
search_goes y selecting budget room old new a assume before now n m top ready selects s true_answer fits = λ lines k.
    let more = search_lines assume s.learnt s.ending in
    let belongs = s.belongs lines k.belongs in
    let few = within_spent a (budget - old.learnt) (length s.learnt) s.spent in
    let count = count_after old.learnt new.learnt (length s.learnt) budget ready.spent few top (s.kept).learnt in
    record {
      more = more;
      knows = record {
        belongs = belongs;
        told_are = clause_lines_append lines more ∙ ap (λ (ls : Lines). clause_lines lines ++ ls) (clause_searched a assume s.learnt s.ending s.ends)
            ∙ append-nil (clause_lines lines) ∙ k.told_are;
        learnt_are = (let c = k.learnt_are in let d = count_of_search a assume s.learnt lines s.ending s.ends in omega (arith, c, d, count));
        spent = (let spent = ready.spent in omega (arith, spent, few, count));
        fits = subst (λ n. n ≤ room) belongs.words fits;
        asked = laws_placed y budget room new a assume s.learnt lines s.ending ready.facts selects s.ends true_answer k.asked;
      };
      told = s.told;
      counted = s.counted ∙ ap (λ c. rose_by c n) (sym (ap length (learnt_of_search a assume s.learnt s.ending s.ends)));
      does = answered (task_of y budget room) old new a assume s.learnt lines s.ending k.learnt_are ready.spent ((s.kept).room ∙ ready.room_is) (formula_of y)
          belongs s.ends s.spent true_answer;
    }

-- an error behind what is known that tells nothing
pub known_left : (y : Layout) (budget room : ℕ) (k : Kept) (log : Lines → Type 0) → ((a b : Lines) → log a → log b → a ≡ b) →
    Leaves budget [] (KnowsWhy (task_of y budget room) k) log log
known_left y budget room k log one = leaves_same (KnowsWhy (task_of y budget room) k) log (λ lines h. h.belongs.derives) one

-- an error behind calls that went on
pub later_left : (y : Layout) (budget room : ℕ) (old new : Kept) (l0 l1 l2 : Lines → Type 0) (n0 n1 : ℕ) (R : Lines → Lines → Type 0) →
    GoesOn (KnowsWhy (task_of y budget room) old) (KnowsWhy (task_of y budget room) new) l0 l1 n0 n1 R →
    Leaves budget [] (KnowsWhy (task_of y budget room) new) l1 l2 → Leaves budget [] (KnowsWhy (task_of y budget room) old) l0 l2
later_left y budget room old new l0 l1 l2 n0 n1 R goes h =
    leaves_then (KnowsWhy (task_of y budget room) old) (KnowsWhy (task_of y budget room) new) l0 l1 l2 n0 n1 R [] [] goes
    (λ lines more ka kb r. kb.told_are ∙ sym ka.told_are ∙ sym (append-nil (clause_lines lines)))
    (λ lines more ka kb r. few_within budget lines (lines ++ more) (subst (λ n. n ≤ budget) kb.learnt_are kb.spent)) h

-- ---- the reply

pub reply_tells : (y : Layout) (budget room : ℕ) (a : Answer) (r : Reply) (lines more : Lines) → IsReplyOf a r →
    TellsAnswer (task_of y budget room) a lines more → TellsReply (task_of y budget room) r lines more
reply_tells y budget room Model (Found d) lines more is h = tt
reply_tells y budget room Model (Refuted core) lines more is h = absurd is
reply_tells y budget room Model (Stopped stop) lines more is h = absurd is
reply_tells y budget room RefutedAnswer (Found d) lines more is h = absurd is
reply_tells y budget room RefutedAnswer (Refuted core) lines more is h = tt
reply_tells y budget room RefutedAnswer (Stopped stop) lines more is h = absurd is
reply_tells y budget room Spent (Found d) lines more is h = absurd is
reply_tells y budget room Spent (Refuted core) lines more is h = absurd is
reply_tells y budget room Spent (Stopped BudgetSpent) lines more is h = h
reply_tells y budget room Spent (Stopped RoomFull) lines more is h = absurd is
reply_tells y budget room Room (Found d) lines more is h = absurd is
reply_tells y budget room Room (Refuted core) lines more is h = absurd is
reply_tells y budget room Room (Stopped BudgetSpent) lines more is h = absurd is
reply_tells y budget room Room (Stopped RoomFull) lines more is h = h
