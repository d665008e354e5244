-- What a query leaves, and what its answer says of drawings.
use Rattle.std.proofs.Common.{◌≡◌, ◌≤◌, ◌<◌, ℕ, ◌-◌, ◌^◌, List, ◌++◌, length, refl, sym, ◌∙◌, ap, subst, arith, append-nil}
use Rattle.std.specs.Prelude.{All, Some, Bool}
use Rattle.std.proofs.lemmas.List.Elements.{All-weaker}
use Rattle.outside_io.specs.Counts.{rose_by}
use Rattle.plan_core.specs.Drawing.{Drawing}
use Rattle.plan_core.specs.Values.{values_of}
use Rattle.cnf_core.specs.declared.limits.TheConstants.{VARS}
use Rattle.cnf_core.specs.Lit.{Literal}
use Rattle.cnf_core.specs.Clause.{Clauses, IsNamed}
use Rattle.cnf_core.specs.Assignment.{SatisfiesAll}
use Rattle.cnf_core.specs.Truths.{assignment}
use Rattle.cnf_core.specs.Propagation.{AreAmong}
use Rattle.refute_log.specs.Told.{Lines}
use Rattle.refute_log.specs.Log.{clause_lines}
use Rattle.drawing_cnf.specs.Encoding.{Encoding}
use Rattle.drawing_cnf.specs.Bounded.{Bound, bounds_clauses, Tells}
use Rattle.drawing_cnf.specs.Expected.{drawing_vars}
use Rattle.drawing_cnf.specs.Whole.{drawing_clauses}
use Rattle.cdcl_core.specs.declared.answer.Answer.{Answer}
use Rattle.cdcl_core.specs.declared.answer.Answer.TheVariants.{Model as ModelAnswer, Refuted as RefutedAnswer, Spent as SpentAnswer, Room as RoomAnswer}
use Rattle.cdcl_core.specs.Kept.{Kept, HasLearnt, HasModel, MakesTrue, AreGiven, IsTrueAnswer}
use Rattle.cdcl_core.specs.Belongs.{search_lines, HasSpent, HasSolved}
use Rattle.search_least.specs.declared.oracle.Below.{Below}
use Rattle.search_least.specs.declared.oracle.Reply.{Reply}
use Rattle.search_least.specs.declared.oracle.Reply.TheVariants.{Found, Refuted, Stopped}
use Rattle.refute_log.specs.declared.stop.Stop.TheVariants.{BudgetSpent, RoomFull}
use Rattle.search_least.specs.Task.{Task}
use Rattle.search_least.specs.Asked.{AreMet, IsAsked, IsReply}
use Rattle.search_least.proofs.QuestionLemmas.{asks_no_clauses}
use Rattle.lex_minimise.specs.Task.{task_of}
use Rattle.drawing_cnf.specs.Layout.{layout_of}
use Rattle.lex_minimise.specs.Known.{told_clauses, KnowsLines, IsReady}
use Rattle.refute_log.specs.Steps.{GoesOn}
use Rattle.lex_minimise.specs.Asking.{AreAssumed, TellsAnswer, IsReplyOf}
use Rattle.lex_minimise.proofs.CoverLemmas.{known_lines}
use Rattle.lex_minimise.proofs.GrowLemmas.{named_in}
use Rattle.lex_minimise.proofs.AskLemmas.{are_negated, are_named, are_met, answered, count_of_search, learnt_of_search, count_after}
use Rattle.refute_log.proofs.StepLemmas.{clause_lines_append}
use Rattle.cdcl_core.proofs.LeftLemmas.{clause_ending, within_spent}

pub formula_told : (e : Encoding) (told : List Bound) (budget room : ℕ) (k : Kept) → IsReady e told budget room k →
    e.formula.clauses ≡ told_clauses (layout_of e) told
formula_told e told budget room k ready = (ready.whole).clauses ∙ ap (λ (bs : List Bound). drawing_clauses e ++ bounds_clauses e.graph
    (drawing_vars e.graph e.grid) e.grid bs) ready.bounds

pub all_named : (e : Encoding) (told : List Bound) (budget room : ℕ) (k : Kept) (bounds : List Below) (assume : List Literal) → IsReady e told budget room k →
    AreAssumed told bounds assume → All (λ l. IsNamed k.clauses l.var) assume
all_named e told budget room k bounds assume ready h =
    All-weaker (λ l. IsNamed (told_clauses (layout_of e) told) l.var) (λ l. IsNamed k.clauses l.var)
    (λ l n. named_in (told_clauses (layout_of e) told) k.clauses l.var (subst (λ (cs : Clauses). AreAmong cs k.clauses)
    (formula_told e told budget room k ready) (ready.given).kept) n) assume
    (are_named (layout_of e) told bounds assume ready.facts h)

pub ready_after : (e : Encoding) (told : List Bound) (budget room : ℕ) (old new : Kept) (a : Answer) (cs : Clauses) → budget < 2 ^ 32 →
    IsReady e told budget room old → HasLearnt old new cs → HasSpent a (budget - old.learnt) (length cs) → AreGiven e.formula.clauses new.clauses →
    IsReady e told budget room new
ready_after e told budget room old new a cs top ready h has given =
    let n = within_spent a (budget - old.learnt) (length cs) has in
    let count = count_after old.learnt new.learnt (length cs) budget ready.spent n top h.learnt in
    record {
      whole = ready.whole;
      bounds = ready.bounds;
      facts = ready.facts;
      working = h.failed;
      vars = h.vars ∙ ready.vars;
      room_is = h.room ∙ ready.room_is;
      formula_room = ready.formula_room;
      given = given;
      spent = (let s = ready.spent in omega arith);
    }

pub search_goes : (e : Encoding) (told : List Bound) (budget room : ℕ) (old new : Kept) (bounds : List Below) (assume : List Literal) (a : Answer)
    (before now : Lines → Type 0) (n m : ℕ) → budget < 2 ^ 32 →
    IsReady e told budget room old → AreAssumed told bounds assume → HasSolved before now assume old new a (budget - old.learnt) n m →
    IsTrueAnswer a e.formula.clauses assume new → new.words ≤ room → new.vars ≤ VARS →
    GoesOn (KnowsLines (layout_of e) told budget room old) (KnowsLines (layout_of e) told budget room new) before now n m
    (λ lines more. TellsAnswer (task_of (layout_of e) budget room) lines bounds a more)
search_goes e told budget room old new bounds assume a before now n m top ready h s true_answer fits vars = λ lines k.
    let more = search_lines assume s.learnt s.ending in
    let belongs = s.belongs lines k.belongs in
    let asked : IsAsked lines bounds s.ending more = record {
      query = assume;
      negated = are_negated (layout_of e) told lines bounds assume k.told_are h;
      clauses = s.learnt;
      is = refl;
    } in
    let few = within_spent a (budget - old.learnt) (length s.learnt) s.spent in
    let count = count_after old.learnt new.learnt (length s.learnt) budget ready.spent few top (s.kept).learnt in
    record {
      more = more;
      knows = known_lines (layout_of e) told budget room new (lines ++ more) k.facts belongs
          (clause_lines_append lines more ∙ ap (λ (ls : Lines). clause_lines lines ++ ls)
          (asks_no_clauses lines bounds s.ending more asked (clause_ending a assume s.ending s.ends)) ∙ append-nil (clause_lines lines) ∙ k.told_are)
          (let c = k.learnt_are in let d = count_of_search a assume s.learnt lines s.ending s.ends in omega arith)
          (let spent = ready.spent in omega (arith, spent, few, count)) fits vars;
      told = s.told;
      counted = s.counted ∙ ap (λ c. rose_by c n) (sym (ap length (learnt_of_search a assume s.learnt s.ending s.ends)));
      does = answered (layout_of e) budget room told old new bounds assume a s.learnt lines s.ending k ready.spent ((s.kept).room ∙ ready.room_is) h belongs
          s.ends s.spent e.formula.clauses true_answer;
    }

-- ---- the model's drawing

pub model_is : (given : Clauses) (assume : List Literal) (k : Kept) (m : List Bool) → HasModel given assume k → k.model ≡ Some m →
    SatisfiesAll (assignment m) given
model_is given assume k m h is = subst (λ (x : List Bool). SatisfiesAll (assignment x) given) (let e : Some h.values ≡ Some m = sym h.model ∙ is in cc)
    h.clauses

pub model_length : (given : Clauses) (assume : List Literal) (k : Kept) (m : List Bool) → HasModel given assume k → k.model ≡ Some m → length m ≡ k.vars
model_length given assume k m h is = ap length (let e : Some m ≡ Some h.values = sym is ∙ h.model in let f : m ≡ h.values = cc in f) ∙ h.vars

pub model_met : (e : Encoding) (told : List Bound) (budget room : ℕ) (k : Kept) (bounds : List Below) (assume : List Literal) (m : List Bool) (d : Drawing) →
    IsReady e told budget room k → AreAssumed told bounds assume → HasModel e.formula.clauses assume k → k.model ≡ Some m →
    Tells (assignment m) (values_of d) e.bounds → AreMet (values_of d) bounds
model_met e told budget room k bounds assume m d ready h model is tells =
    let same : model.values ≡ m = (let e : Some (model.values) ≡ Some m = sym model.model ∙ is in cc) in
    are_met told bounds assume (assignment m) (values_of d) h (subst (λ (bs : List Bound). Tells (assignment m) (values_of d) bs) ready.bounds tells)
    (subst (λ (x : List Bool). MakesTrue (assignment x) assume) same model.assumptions)

-- ---- the reply

pub reply_lines : (p : Task) (lines : Lines) (bounds : List Below) (a : Answer) (r : Reply) (more : Lines) → IsReplyOf a r → TellsAnswer p lines bounds a more →
    IsReply p lines bounds r more
reply_lines p lines bounds ModelAnswer (Found d) more is h = h
reply_lines p lines bounds ModelAnswer Refuted more is h = absurd is
reply_lines p lines bounds ModelAnswer (Stopped stop) more is h = absurd is
reply_lines p lines bounds RefutedAnswer (Found d) more is h = absurd is
reply_lines p lines bounds RefutedAnswer Refuted more is h = h
reply_lines p lines bounds RefutedAnswer (Stopped stop) more is h = absurd is
reply_lines p lines bounds SpentAnswer (Found d) more is h = absurd is
reply_lines p lines bounds SpentAnswer Refuted more is h = absurd is
reply_lines p lines bounds SpentAnswer (Stopped BudgetSpent) more is h = h
reply_lines p lines bounds SpentAnswer (Stopped RoomFull) more is h = absurd is
reply_lines p lines bounds RoomAnswer (Found d) more is h = absurd is
reply_lines p lines bounds RoomAnswer Refuted more is h = absurd is
reply_lines p lines bounds RoomAnswer (Stopped BudgetSpent) more is h = absurd is
reply_lines p lines bounds RoomAnswer (Stopped RoomFull) more is h = h
