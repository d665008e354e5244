-- Rounds of a search, one after another.
use Rattle.std.proofs.Common.{◌≡◌, ℕ, zero, suc, ◌+◌, ◌-◌, ◌^◌, ◌<◌, ◌≤◌, true, false, min, List, [], ◌∷◌, ◌++◌, length, get_or, map, refl, sym, ◌∙◌, ap}
use Rattle.std.proofs.Common.{subst, inl, inr, arith, append-nil, length-append, Some, None}
use Rattle.std.specs.Prelude.{All, Contains, Result, Ok, Err, IfOk, OnErr, Option, MatchOption, IfSome}
use Rattle.std.proofs.lemmas.List.{append_assoc, map-append}
use Rattle.std.proofs.lemmas.List.Elements.{All-nil, All-weaker, All-contains_itself}
use Rattle.outside_io.specs.Counts.{next_count, rose_by}
use Rattle.cnf_core.specs.Lit.{Literal, negate, has}
use Rattle.cnf_core.specs.Clause.{Clauses, IsNamed}
use Rattle.cnf_core.specs.Assignment.{Assignment, truth, Satisfies, SatisfiesAll}
use Rattle.cnf_core.specs.Propagation.{Rup, AreAmong}
use Rattle.cnf_core.proofs.PropagationLemmas.{rup_sound, satisfies_one, among_left, falsifies_more, contains_first, contains_later}
use Rattle.cnf_core.proofs.ClauseLemmas.{satisfies_append, satisfies_left, satisfies_right, words_append}
use Rattle.cnf_core.proofs.QuantifierLemmas.{satisfies_from_each}
use Rattle.refute_log.specs.declared.line.LogLine.{LogLine}
use Rattle.refute_log.specs.declared.line.LogLine.TheVariants.{Formula, Learnt, Query, Refuted as RefutedLine, Model as ModelLine}
use Rattle.refute_log.specs.Lines.{MayBeTold}
use Rattle.refute_log.specs.Told.{Lines, AddsLine, TellsNoMore}
use Rattle.refute_log.specs.Log.{clause_lines, Derives}
use Rattle.refute_log.specs.Steps.{StillDerives}
use Rattle.cdcl_core.specs.declared.search.Search.{Search}
use Rattle.cdcl_core.specs.declared.fault.SolveFault.{SolveFault}
use Rattle.cdcl_core.specs.declared.answer.Answer.{Answer}
use Rattle.cdcl_core.specs.declared.answer.Answer.TheVariants.{Model, Refuted, Spent, Room}
use Rattle.cdcl_core.specs.Kept.{Kept, AreSameClauses, HasLearnt, AreGiven, IsDeduced, IsFull, more_learnt}
use Rattle.cdcl_core.specs.Belongs.{Belongs, BelongsTo, HasCounted, HasSolved, EndsWith, HasSpent, search_lines}
use Rattle.cdcl_core.specs.Search.{clauses, seen, IsSearch, IsAsking, IsAnalysed, IsLearntFrom, IsKeptOne, IsSameStore, IsSearchAnswer, IsRefuting, IsComplete}
use Rattle.cdcl_core.specs.Rounds.{BelongsAt, BreaksOffAt, BreaksOffLog, LearnsOne, EndsSo, HasGone, EndsAfter, EndsBehindQuery}
use Rattle.cdcl_core.proofs.SetLemmas.{among_more, among_append, among_itself, same_itself, same_more, same_append, same_equal}
use Rattle.cdcl_core.proofs.StoreLemmas.{store_itself, store_more, analysed_store, analysed_clauses, analysed_full, kept_learnt}
use Rattle.cdcl_core.proofs.LeftLemmas.{clause_behind, clause_searched, within_spent}
use Rattle.cdcl_core.proofs.LearnLemmas.{open_above}
use Rattle.cdcl_core.proofs.ConflictLemmas.{unrefuted}
use Rattle.cdcl_core.proofs.LogLemmas.{belongs_same, belongs_given, belongs_query, belongs_learnt, belongs_refuted, belongs_model, deduced_same}
use Rattle.refute_log.proofs.StepLemmas.{learnt_no_clauses, same_clauses}

-- a value that is there or not
pub some_of : {A : Type 0} (r : Option A) (x : A) (P : Type 0) (Q : A → Type 0) → r ≡ Some x → MatchOption r P Q → Q x
some_of {A = A} r x P Q e h = subst (λ (o : Option A). MatchOption o P Q) e h

pub none_of : {A : Type 0} (r : Option A) (P : Type 0) (Q : A → Type 0) → r ≡ None → MatchOption r P Q → P
none_of {A = A} r P Q e h = subst (λ (o : Option A). MatchOption o P Q) e h

pub if_some_of : {A : Type 0} (r : Option A) (x : A) (Q : A → Type 0) → r ≡ Some x → IfSome r Q → Q x
if_some_of {A = A} r x Q e h = subst (λ (o : Option A). IfSome o Q) e h

-- what a log tells after an error where a clause was given: nothing was told, a line was refused, or it was told before
pub still_same : (before P : Lines → Type 0) → ((a b : Lines) → before a → before b → a ≡ b) → ((lines : Lines) → P lines → Derives lines) →
    StillDerives P before before
still_same before P one derives = λ lines p told more m. subst Derives (one lines more told m) (derives lines p)

pub still_refused : (before now P : Lines → Type 0) → ((a b : Lines) → before a → before b → a ≡ b) → TellsNoMore before now →
    ((lines : Lines) → P lines → Derives lines) → StillDerives P before now
still_refused before now P one fewer derives = λ lines p told more m. subst Derives (one lines more told (fewer more m)) (derives lines p)

still_told : (before now P : Lines → Type 0) (line : LogLine) → ((a b : Lines) → now a → now b → a ≡ b) → AddsLine before now line →
    ((lines : Lines) → P lines → Derives (lines ++ line ∷ [])) → StillDerives P before now
still_told before now P line one adds derives = λ lines p told more m. subst Derives (one (lines ++ line ∷ []) more (adds lines told) m) (derives lines p)

-- satisfied, whatever the order
pub satisfied_lit : (v : Assignment) (c : List Literal) → Satisfies v c → (l : Literal) × Contains c l × (truth v l ≡ true)
satisfied_lit v [] h = absurd h
satisfied_lit v (l ∷ ls) h = elim h [
  | inl t ↦ (l, contains_first l ls, t)
  | inr r ↦ let x = satisfied_lit v ls r in (x.0, contains_later l x.0 ls x.1, x.2)
]

pub satisfied_by : (v : Assignment) (c : List Literal) (l : Literal) → Contains c l → truth v l ≡ true → Satisfies v c
satisfied_by v c l h t = at_place c h.0 h.1 h.2
  where
    at_place : (c : List Literal) (i : ℕ) → i < length c → get_or c i l ≡ l → Satisfies v c
    at_place [] i lt e = absurd (omega arith)
    at_place (k ∷ c) zero lt e = inl (ap (truth v) e ∙ t)
    at_place (k ∷ c) (suc i) lt e = inr (at_place c i (omega arith) e)

satisfies_same : (v : Assignment) (c d : List Literal) → ((l : Literal) → Contains c l → Contains d l) → Satisfies v c → Satisfies v d
satisfies_same v c d there h = let s = satisfied_lit v c h in satisfied_by v d s.0 (there s.0 s.1) s.2

pub satisfies_among : (v : Assignment) (cs more : Clauses) → AreAmong more cs → SatisfiesAll v cs → SatisfiesAll v more
satisfies_among v cs more there h = satisfies_from_each v more (All-weaker (Contains more) (Satisfies v)
    (λ c m. let d = there c m in satisfies_same v d.0 c (λ l k. (d.2 l).1 k) (satisfies_one v cs d.0 h d.1)) more (All-contains_itself more))

-- clauses that were given
pub given_same : (cs a b : Clauses) → AreSameClauses a b → AreGiven cs a → AreGiven cs b
given_same cs a b same g = record {
  kept = among_more cs a b g.kept same.there;
  follow = λ v h. satisfies_among v a b same.back (g.follow v h);
}

pub given_learnt : (cs a b : Clauses) (c : List Literal) → AreSameClauses (a ++ c ∷ []) b → Rup a c → AreGiven cs a → AreGiven cs b
given_learnt cs a b c same rup g = record {
  kept = among_more cs (a ++ c ∷ []) b (among_more cs a (a ++ c ∷ []) g.kept (among_left a (c ∷ []))) same.there;
  follow = λ v h. let all = g.follow v h in satisfies_among v (a ++ c ∷ []) b same.back (satisfies_append v a (c ∷ []) all (rup_sound v a c rup all, tt));
}

pub given_added : (cs a b : Clauses) (c : List Literal) → AreSameClauses (a ++ c ∷ []) b → AreGiven cs a → AreGiven (cs ++ c ∷ []) b
given_added cs a b c same g = record {
  kept = among_more (cs ++ c ∷ []) (a ++ c ∷ []) b (among_append cs (c ∷ []) a (c ∷ []) g.kept (among_itself (c ∷ []))) same.there;
  follow = λ v h. satisfies_among v (a ++ c ∷ []) b same.back (satisfies_append v a (c ∷ []) (g.follow v (satisfies_left v cs (c ∷ []) h))
      (satisfies_right v cs (c ∷ []) h));
}

-- clauses that were learnt
pub learnt_none : (s t : Search) → IsSameStore s t → HasLearnt (seen s) (seen t) []
learnt_none s t f = record {
  clauses = same_more (clauses s ++ []) (clauses s) (clauses t) (same_equal (clauses s ++ []) (clauses s) (append-nil (clauses s))) f.clauses;
  words = let w = f.words in omega arith;
  room = f.room;
  vars = f.vars;
  learnt = f.learnt;
  visits = f.visits;
  failed = refl;
}

learnt_times : (r n m : ℕ) → more_learnt (more_learnt r n) m ≡ more_learnt r (n + m)
learnt_times r n zero = ap (more_learnt r) (omega arith)
learnt_times r n (suc m) =
    let e = learnt_times r n m in
    let s : n + suc m ≡ suc (n + m) = omega arith in
    subst (λ k. more_learnt (more_learnt r n) (suc m) ≡ more_learnt r k) (sym s) (ap (λ k. min (k + 1) (2 ^ 32 - 1)) e)

pub learnt_more : (r s t : Kept) (cs ds : Clauses) → HasLearnt r s cs → HasLearnt s t ds → HasLearnt r t (cs ++ ds)
learnt_more r s t cs ds f g = record {
  clauses = same_more (r.clauses ++ (cs ++ ds)) (s.clauses ++ ds) t.clauses
      (same_more (r.clauses ++ (cs ++ ds)) ((r.clauses ++ cs) ++ ds) (s.clauses ++ ds)
      (same_equal (r.clauses ++ (cs ++ ds)) ((r.clauses ++ cs) ++ ds) (sym (append_assoc r.clauses cs ds)))
      (same_append (r.clauses ++ cs) ds s.clauses ds f.clauses (same_itself ds)))
      g.clauses;
  words = let a = f.words in let b = g.words in let e = words_append cs ds in omega arith;
  room = g.room ∙ f.room;
  vars = g.vars ∙ f.vars;
  learnt = g.learnt ∙ ap (λ k. more_learnt k (length ds)) f.learnt ∙ learnt_times r.learnt (length cs) (length ds)
      ∙ ap (more_learnt r.learnt) (sym (length-append cs ds));
  visits = let a = f.visits in let b = g.visits in omega arith;
  failed = g.failed;
}

-- nothing was learnt yet
pub gone_none : (before : Lines → Type 0) (count : ℕ) (query : List Literal) (s : Search) → HasGone before before count count query s s 0
gone_none before count query s = record {
  learnt = [];
  many = refl;
  kept = learnt_none s s (store_itself s);
  given = λ cs g. g;
  told = λ lines told. subst before (sym (append-nil lines)) told;
  belongs = λ lines b. subst (λ (ls : Lines). BelongsAt query ls (clauses s) s.words) (sym (append-nil lines)) b;
  counted = refl;
}

-- the same clauses stand again
pub gone_same : (before now : Lines → Type 0) (count after : ℕ) (query : List Literal) (r s t : Search) (n : ℕ) → IsSameStore s t →
    HasGone before now count after query r s n → HasGone before now count after query r t n
gone_same before now count after query r s t n f h = record {
  learnt = h.learnt;
  many = h.many;
  kept = subst (HasLearnt (seen r) (seen t)) (append-nil h.learnt) (learnt_more (seen r) (seen s) (seen t) h.learnt [] h.kept (learnt_none s t f));
  given = λ cs g. given_same cs (clauses s) (clauses t) f.clauses (h.given cs g);
  told = h.told;
  belongs = λ lines b. let x = h.belongs lines b in record {
    belongs = belongs_same (lines ++ map Learnt h.learnt) (clauses s) (clauses t) s.words t.words f.clauses f.words x.belongs;
    asked = x.asked;
  };
  counted = h.counted;
}

lines_more : (lines : Lines) (cs : Clauses) (c : List Literal) → lines ++ map Learnt (cs ++ c ∷ []) ≡ (lines ++ map Learnt cs) ++ Learnt c ∷ []
lines_more lines cs c = ap (λ (ls : Lines). lines ++ ls) (map-append Learnt cs (c ∷ [])) ∙ sym (append_assoc lines (map Learnt cs) (Learnt c ∷ []))

-- one more round
pub gone_more : (before mid now : Lines → Type 0) (count between after : ℕ) (query : List Literal) (r s t : Search) (n : ℕ) →
    HasGone before mid count between query r s n → LearnsOne mid now between after query s t → HasGone before now count after query r t (n + 1)
gone_more before mid now count between after query r s t n h one = record {
  learnt = h.learnt ++ one.clause ∷ [];
  many = let m = h.many in omega (arith, length-append h.learnt (one.clause ∷ []));
  kept = learnt_more (seen r) (seen s) (seen t) h.learnt (one.clause ∷ []) h.kept one.kept;
  given = λ cs g. given_learnt cs (clauses s) (clauses t) one.clause one.kept.clauses one.deduced.follows (h.given cs g);
  told = λ lines told. subst now (sym (lines_more lines h.learnt one.clause)) (one.told (lines ++ map Learnt h.learnt) (h.told lines told));
  belongs = λ lines b. subst (λ (ls : Lines). BelongsAt query ls (clauses t) t.words) (sym (lines_more lines h.learnt one.clause))
      (subst (BelongsAt query ((lines ++ map Learnt h.learnt) ++ Learnt one.clause ∷ []) (clauses t)) (let w = one.kept.words in omega arith)
      (belongs_learnt (lines ++ map Learnt h.learnt) (clauses s) (clauses t) s.words query one.clause one.formed one.deduced one.open_ one.kept.clauses
      (h.belongs lines b)));
  counted = one.counted ∙ ap next_count h.counted ∙ ap (λ k. rose_by k count) (suc_is n);
}
  where
    suc_is : (n : ℕ) → suc n ≡ n + 1
    suc_is n = omega arith

-- and the end
pub ends_after : (before mid now : Lines → Type 0) (count between after : ℕ) (query : List Literal) (r s t : Search) (answer : Answer) (n budget : ℕ) →
    HasSpent answer budget n → HasGone before mid count between query r s n → EndsSo mid now between after query s t answer →
    EndsAfter before now count after query r t answer budget
ends_after before mid now count between after query r s t answer n budget spent h e = record {
  learnt = h.learnt;
  kept = subst (HasLearnt (seen r) (seen t)) (append-nil h.learnt) (learnt_more (seen r) (seen s) (seen t) h.learnt [] h.kept (learnt_none s t e.store));
  spent = subst (HasSpent answer budget) (sym h.many) spent;
  given = λ cs g. given_same cs (clauses s) (clauses t) e.store.clauses (h.given cs g);
  says = e.says;
  ending = e.ending;
  ends = e.ends;
  told = λ lines told. subst now (append_assoc lines (map Learnt h.learnt) e.ending) (e.told (lines ++ map Learnt h.learnt) (h.told lines told));
  belongs = λ lines b. subst (λ (ls : Lines). BelongsTo ls (clauses t) t.words) (append_assoc lines (map Learnt h.learnt) e.ending)
      (e.belongs (lines ++ map Learnt h.learnt) (h.belongs lines b));
  counted = e.counted ∙ h.counted ∙ ap (λ k. rose_by k count) (sym h.many);
}

pub spent_all : (answer : Answer) (n : ℕ) → HasSpent answer n n
spent_all Model n = omega arith
spent_all Refuted n = omega arith
spent_all Spent n = refl
spent_all Room n = omega arith

pub spent_less : (answer : Answer) (budget n : ℕ) → (answer ≡ Spent → ⊥) → n ≤ budget → HasSpent answer budget n
spent_less Model budget n other le = le
spent_less Refuted budget n other le = le
spent_less Spent budget n other le = absurd (other refl)
spent_less Room budget n other le = le

-- the query in front
pub searched : (before mid now : Lines → Type 0) (count between after : ℕ) (query : List Literal) (s t : Search) (answer : Answer) (budget : ℕ) →
    MayBeTold (Query query) → All (λ l. IsNamed (clauses s) l.var) query → AddsLine before mid (Query query) → between ≡ count →
    EndsAfter mid now between after query s t answer budget → HasSolved before now query (seen s) (seen t) answer budget count after
searched before mid now count between after query s t answer budget formed named adds same e = record {
  learnt = e.learnt;
  ending = e.ending;
  kept = e.kept;
  spent = e.spent;
  counted = e.counted ∙ ap (rose_by (length e.learnt)) same;
  ends = e.ends;
  told = λ lines told. subst now (append_assoc lines (Query query ∷ []) (map Learnt e.learnt ++ e.ending))
      (e.told (lines ++ Query query ∷ []) (adds lines told));
  belongs = λ lines b. subst (λ (ls : Lines). BelongsTo ls (clauses t) t.words) (append_assoc lines (Query query ∷ []) (map Learnt e.learnt ++ e.ending))
      (e.belongs (lines ++ Query query ∷ []) (belongs_query lines (clauses s) s.words query formed named b));
}

-- how a search ends
pub ends_model : (before now : Lines → Type 0) (count after : ℕ) (query : List Literal) (s : Search) → AddsLine before now ModelLine → after ≡ count →
    IsComplete query s → EndsSo before now count after query s s Model
ends_model before now count after query s adds same complete = record {
  store = store_itself s;
  says = complete;
  ending = ModelLine ∷ [];
  ends = refl;
  told = adds;
  belongs = λ lines b. belongs_model lines (clauses s) s.words query b;
  counted = same;
}

pub ends_refuted : (before now : Lines → Type 0) (count after : ℕ) (query c : List Literal) (s t : Search) → IsSameStore s t → clauses t ≡ clauses s →
    MayBeTold (RefutedLine c) → All (λ l. IsNamed (clauses s) l.var) query → IsRefuting (clauses s) query c → IsRefuting (clauses s) query t.analyser.clause →
    AddsLine before now (RefutedLine c) → after ≡ count → EndsSo before now count after query s t Refuted
ends_refuted before now count after query c s t store same formed named refuting needed adds e = record {
  store = store;
  says = subst (λ (cs : Clauses). IsRefuting cs query t.analyser.clause) (sym same) needed;
  ending = RefutedLine c ∷ [];
  ends = record { clause = c; is = refl; answers = refuting.answers };
  told = adds;
  belongs = λ lines b. belongs_same (lines ++ RefutedLine c ∷ []) (clauses s) (clauses t) s.words t.words store.clauses store.words
      (belongs_refuted lines (clauses s) s.words query c formed named refuting b);
  counted = e;
}

-- nothing is told
pub ends_quietly : (before : Lines → Type 0) (count : ℕ) (query : List Literal) (s t : Search) (answer : Answer) → IsSameStore s t → EndsWith answer query [] →
    IsSearchAnswer answer query t → EndsSo before before count count query s t answer
ends_quietly before count query s t answer store ends says = record {
  store = store;
  says = says;
  ending = [];
  ends = ends;
  told = λ lines told. subst before (sym (append-nil lines)) told;
  belongs = λ lines b. subst (λ (ls : Lines). BelongsTo ls (clauses t) t.words) (sym (append-nil lines))
      (belongs_same lines (clauses s) (clauses t) s.words t.words store.clauses store.words b.belongs);
  counted = refl;
}

-- where the clauses were propagated already, a further step starts from the same
pub ends_from : (before now : Lines → Type 0) (count after : ℕ) (query : List Literal) (r s t : Search) (answer : Answer) → IsSameStore r s →
    EndsSo before now count after query s t answer → EndsSo before now count after query r t answer
ends_from before now count after query r s t answer f e = record {
  store = store_more r s t f e.store;
  says = e.says;
  ending = e.ending;
  ends = e.ends;
  told = e.told;
  belongs = λ lines b. e.belongs lines (record {
    belongs = belongs_same lines (clauses r) (clauses s) r.words s.words f.clauses f.words b.belongs;
    asked = b.asked;
  });
  counted = e.counted;
}

pub learns_from : (before now : Lines → Type 0) (count after : ℕ) (query : List Literal) (r s t : Search) → IsSameStore r s →
    LearnsOne before now count after query s t → LearnsOne before now count after query r t
learns_from before now count after query r s t f one = record {
  clause = one.clause;
  formed = one.formed;
  deduced = deduced_same (clauses s) (clauses r) one.clause f.clauses.back f.clauses.there one.deduced;
  open_ = λ h. one.open_ (falsifies_more (clauses r) (clauses s) (has query) f.clauses.there h);
  kept = learnt_more (seen r) (seen s) (seen t) [] (one.clause ∷ []) (learnt_none r s f) one.kept;
  told = one.told;
  counted = one.counted;
}

pub left_from : (before now : Lines → Type 0) (query : List Literal) (r s : Search) → IsSameStore r s → BreaksOffAt before now query s →
    BreaksOffAt before now query r
left_from before now query r s f d = λ lines told more m.
    let left = d lines told more m in
    record {
      derives = λ b. left.derives (record {
        belongs = belongs_same lines (clauses r) (clauses s) r.words s.words f.clauses f.words b.belongs;
        asked = b.asked;
      });
      gives = left.gives;
    }

-- a clause that the analyser gave is kept
pub learns_one : (before now : Lines → Type 0) (count after : ℕ) (query : List Literal) (s r t : Search) (c : List Literal) → MayBeTold (Learnt c) →
    IsAnalysed s r → IsSearch s → s.refuted ≡ false → IsAsking query s → s.levels < length s.trail.cuts → IsLearntFrom r c → IsKeptOne r t c →
    t.learnt ≡ more_learnt r.learnt 1 → AddsLine before now (Learnt c) → after ≡ next_count count → LearnsOne before now count after query s t
learns_one before now count after query s r t c formed an h un asking above learnt kept more adds counted = record {
  clause = c;
  formed = formed;
  deduced = subst (λ (cs : Clauses). IsDeduced cs c) (analysed_clauses s r an) learnt.deduced;
  open_ = open_above s.arena s.trail s.own.items query s.levels s.assumed (unrefuted s.arena s.trail s.own.items s.refuted un h.solving.grounded) above asking;
  kept = learnt_more (seen s) (seen r) (seen t) [] (c ∷ []) (learnt_none s r (analysed_store s r an)) (kept_learnt r t c kept more);
  told = adds;
  counted = counted;
}

pub learn_derives : (query : List Literal) (s r : Search) (c : List Literal) → MayBeTold (Learnt c) → IsAnalysed s r → IsSearch s → s.refuted ≡ false →
    IsAsking query s → s.levels < length s.trail.cuts → IsLearntFrom r c → (lines : Lines) → BelongsAt query lines (clauses s) s.words →
    Derives (lines ++ Learnt c ∷ [])
learn_derives query s r c formed an h un asking above learnt lines b =
    (belongs_learnt lines (clauses s) (clauses s ++ c ∷ []) s.words query c formed
    (subst (λ (cs : Clauses). IsDeduced cs c) (analysed_clauses s r an) learnt.deduced)
    (open_above s.arena s.trail s.own.items query s.levels s.assumed (unrefuted s.arena s.trail s.own.items s.refuted un h.solving.grounded) above asking)
    (same_itself (clauses s ++ c ∷ [])) b).belongs.derives

pub ends_full : (before : Lines → Type 0) (count : ℕ) (query : List Literal) (s t : Search) → IsAnalysed s t → IsFull s.room s.words (clauses s) →
    EndsSo before before count count query s t Room
ends_full before count query s t an full = ends_quietly before count query s t Room (analysed_store s t an) refl (analysed_full s t an full)

-- the query's variables stay named
pub named_same : (query : List Literal) (a b : Clauses) → AreSameClauses a b → All (λ l. IsNamed a l.var) query → All (λ l. IsNamed b l.var) query
named_same query a b same h = All-weaker (λ l. IsNamed a l.var) (λ l. IsNamed b l.var) (λ l n. let d = same.there n.clause n.among in record {
  clause = d.0;
  among = d.1;
  lit = n.lit;
  inside = (d.2 n.lit).0 n.inside;
  var = n.var;
}) query h

pub named_more : (query : List Literal) (a b c : Clauses) → AreSameClauses (a ++ c) b → All (λ l. IsNamed a l.var) query → All (λ l. IsNamed b l.var) query
named_more query a b c same h = All-weaker (λ l. IsNamed a l.var) (λ l. IsNamed b l.var)
    (λ l n. let x = among_left a c n.clause n.among in let d = same.there x.0 x.1 in record {
      clause = d.0;
      among = d.1;
      lit = n.lit;
      inside = (d.2 n.lit).0 ((x.2 n.lit).0 n.inside);
      var = n.var;
    }) query h

-- the query is open at a clash above the assumptions
pub ends_spent : (before : Lines → Type 0) (count : ℕ) (query : List Literal) (s : Search) → IsSearch s → s.refuted ≡ false → IsAsking query s →
    s.levels < length s.trail.cuts → EndsSo before before count count query s s Spent
ends_spent before count query s h un asking above = ends_quietly before count query s s Spent (store_itself s) refl
    (open_above s.arena s.trail s.own.items query s.levels s.assumed (unrefuted s.arena s.trail s.own.items s.refuted un h.solving.grounded) above asking)

-- results of a step that followed a descent
pub round_ok : (res : Result (Option Answer) SolveFault) (before now : Lines → Type 0) (count after : ℕ) (query : List Literal) (r s t : Search) →
    IsSameStore r s → IfOk res (λ o. MatchOption o (LearnsOne before now count after query s t) (λ a. EndsSo before now count after query s t a)) →
    IfOk res (λ o. MatchOption o (LearnsOne before now count after query r t) (λ a. EndsSo before now count after query r t a))
round_ok (Err e) before now count after query r s t f h = h
round_ok (Ok o) before now count after query r s t f h = by_option o h
  where
    by_option : (o : Option Answer) → MatchOption o (LearnsOne before now count after query s t) (λ a. EndsSo before now count after query s t a) →
        MatchOption o (LearnsOne before now count after query r t) (λ a. EndsSo before now count after query r t a)
    by_option None h = learns_from before now count after query r s t f h
    by_option (Some a) h = ends_from before now count after query r s t a f h

pub round_err : {T : Type 0} (res : Result T SolveFault) (before now : Lines → Type 0) (query : List Literal) (r s : Search) → IsSameStore r s →
    OnErr res (BreaksOffAt before now query s) → OnErr res (BreaksOffAt before now query r)
round_err (Ok x) before now query r s f h = tt
round_err (Err e) before now query r s f h = left_from before now query r s f h

pub last_ok : (res : Result Answer SolveFault) (before now : Lines → Type 0) (count after : ℕ) (query : List Literal) (r s t : Search) → IsSameStore r s →
    IfOk res (λ a. EndsSo before now count after query s t a) → IfOk res (λ a. EndsSo before now count after query r t a)
last_ok (Err e) before now count after query r s t f h = h
last_ok (Ok a) before now count after query r s t f h = ends_from before now count after query r s t a f h

-- the last round of a search
pub rounds_ok : (res : Result Answer SolveFault) (before mid now : Lines → Type 0) (count between after : ℕ) (query : List Literal) (r s t : Search) (n : ℕ) →
    HasGone before mid count between query r s n → IfOk res (λ a. EndsSo mid now between after query s t a) →
    IfOk res (λ a. EndsAfter before now count after query r t a n)
rounds_ok (Err e) before mid now count between after query r s t n h ends = ends
rounds_ok (Ok a) before mid now count between after query r s t n h ends = ends_after before mid now count between after query r s t a n n (spent_all a n) h
    ends

-- an error after some rounds
pub gone_err : (before mid now : Lines → Type 0) (count between : ℕ) (query : List Literal) (r s : Search) (n : ℕ) →
    HasGone before mid count between query r s n → BreaksOffAt mid now query s → BreaksOffAt before now query r
gone_err before mid now count between query r s n h d = λ lines told more m.
    let left = d (lines ++ map Learnt h.learnt) (h.told lines told) more m in
    record { derives = λ b. left.derives (h.belongs lines b); gives = left.gives ∙ clause_behind lines (map Learnt h.learnt) (learnt_no_clauses h.learnt) }

pub rounds_err : (res : Result Answer SolveFault) (before mid now : Lines → Type 0) (count between : ℕ) (query : List Literal) (r s : Search) (n : ℕ) →
    HasGone before mid count between query r s n → OnErr res (BreaksOffAt mid now query s) → OnErr res (BreaksOffAt before now query r)
rounds_err (Ok x) before mid now count between query r s n h d = tt
rounds_err (Err e) before mid now count between query r s n h d = gone_err before mid now count between query r s n h d

-- a log that a search left derives
pub searched_err : (before now : Lines → Type 0) (query : List Literal) (s t : Search) (answer : Answer) (budget count after : ℕ) →
    ((a b : Lines) → now a → now b → a ≡ b) → HasSolved before now query (seen s) (seen t) answer budget count after → BreaksOffLog before now s
searched_err before now query s t answer budget count after one h = λ lines told more m.
    let e : lines ++ search_lines query h.learnt h.ending ≡ more = one (lines ++ search_lines query h.learnt h.ending) more (h.told lines told) m in
    record {
      derives = λ b. subst Derives e (h.belongs lines b).derives;
      gives = ap clause_lines (sym e) ∙ clause_behind lines (search_lines query h.learnt h.ending) (clause_searched answer query h.learnt h.ending h.ends);
    }

pub searched_counted : (before now : Lines → Type 0) (query : List Literal) (s t : Search) (answer : Answer) (budget count after : ℕ) →
    HasSolved before now query (seen s) (seen t) answer budget count after → HasCounted budget count after
searched_counted before now query s t answer budget count after h = record {
  number = length h.learnt;
  few = within_spent answer budget (length h.learnt) h.spent;
  counted = h.counted;
}

pub searched_same : (before now : Lines → Type 0) (query : List Literal) (k : Kept) (s t : Search) (answer : Answer) (budget count after : ℕ) →
    IsSameStore s t → HasSolved before now query k (seen s) answer budget count after → HasSolved before now query k (seen t) answer budget count after
searched_same before now query k s t answer budget count after f h = record {
  learnt = h.learnt;
  ending = h.ending;
  kept = subst (HasLearnt k (seen t)) (append-nil h.learnt) (learnt_more k (seen s) (seen t) h.learnt [] h.kept (learnt_none s t f));
  spent = h.spent;
  counted = h.counted;
  ends = h.ends;
  told = h.told;
  belongs = λ lines b. belongs_same (lines ++ search_lines query h.learnt h.ending) (clauses s) (clauses t) s.words t.words f.clauses f.words
      (h.belongs lines b);
}

-- the query was told, and then an error came
pub query_err : (before mid now : Lines → Type 0) (query : List Literal) (s : Search) → MayBeTold (Query query) → All (λ l. IsNamed (clauses s) l.var) query →
    AddsLine before mid (Query query) → BreaksOffAt mid now query s → BreaksOffLog before now s
query_err before mid now query s formed named adds d = λ lines told more m.
    let left = d (lines ++ Query query ∷ []) (adds lines told) more m in
    record {
      derives = λ b. left.derives (belongs_query lines (clauses s) s.words query formed named b);
      gives = left.gives ∙ same_clauses lines (Query query) refl;
    }

pub query_err_of : (res : Result Answer SolveFault) (before mid now : Lines → Type 0) (query : List Literal) (s : Search) → MayBeTold (Query query) →
    All (λ l. IsNamed (clauses s) l.var) query → AddsLine before mid (Query query) → OnErr res (BreaksOffAt mid now query s) →
    OnErr res (BreaksOffLog before now s)
query_err_of (Ok x) before mid now query s formed named adds d = tt
query_err_of (Err e) before mid now query s formed named adds d = query_err before mid now query s formed named adds d

pub searched_ok : (res : Result Answer SolveFault) (before mid now : Lines → Type 0) (count between after : ℕ) (query : List Literal) (s t : Search)
    (budget : ℕ) → MayBeTold (Query query) → All (λ l. IsNamed (clauses s) l.var) query → AddsLine before mid (Query query) → between ≡ count →
    IfOk res (λ a. EndsAfter mid now between after query s t a budget) → IfOk res (λ a. EndsBehindQuery before now count after query s t a budget)
searched_ok (Err e) before mid now count between after query s t budget formed named adds same h = h
searched_ok (Ok a) before mid now count between after query s t budget formed named adds same h = record {
  searched = searched before mid now count between after query s t a budget formed named adds same h;
  given = h.given;
  says = h.says;
}

-- the same of a search whose clauses and counts are seen the same
pub searched_seen : (res : Result Answer SolveFault) (before now : Lines → Type 0) (count after : ℕ) (query : List Literal) (s r t : Search) (budget : ℕ) →
    seen r ≡ seen s → IfOk res (λ a. EndsBehindQuery before now count after query r t a budget) →
    IfOk res (λ a. EndsBehindQuery before now count after query s t a budget)
searched_seen (Err e) before now count after query s r t budget same h = h
searched_seen (Ok a) before now count after query s r t budget same h = record {
  searched = subst (λ (k : Kept). HasSolved before now query k (seen t) a budget count after) same h.searched;
  given = λ cs g. h.given cs (subst (λ (k : Kept). AreGiven cs k.clauses) (sym same) g);
  says = h.says;
}

-- a query of a solver that is refuted; the analyser's clause is taken away
pub searched_refuted : (before mid now : Lines → Type 0) (count between after : ℕ) (query : List Literal) (s t : Search) (budget : ℕ) → IsAnalysed s t →
    t.analyser.clause ≡ [] → IsSearch s → s.refuted ≡ true → MayBeTold (Query query) → All (λ l. IsNamed (clauses s) l.var) query →
    AddsLine before mid (Query query) → between ≡ count → AddsLine mid now (RefutedLine []) → after ≡ between →
    EndsBehindQuery before now count after query s t Refuted budget
searched_refuted before mid now count between after query s t budget an none h refuted formed named adds same ends counted =
    let refuting : IsRefuting (clauses s) query [] = record {
      follows = h.solving.grounded.falsified refuted;
      answers = All-nil (λ l. Contains query (negate l));
    } in
    let e = ends_after mid mid now between between after query s s t Refuted 0 budget (omega arith) (gone_none mid between query s)
    (ends_refuted mid now between after query [] s t (analysed_store s t an) (analysed_clauses s t an) (record {
      formed = tt;
      once = tt;
    }) named refuting (subst (IsRefuting (clauses s) query) (sym none) refuting) ends counted) in
    record { searched = searched before mid now count between after query s t Refuted budget formed named adds same e; given = e.given; says = e.says }

-- a given clause
pub given_err : (before now : Lines → Type 0) (s : Search) (c : List Literal) → MayBeTold (Formula c) → ((a b : Lines) → now a → now b → a ≡ b) →
    AddsLine before now (Formula c) → StillDerives (λ ls. Belongs ls (seen s)) before now
given_err before now s c formed one adds = still_told before now (λ (lines : Lines). BelongsTo lines (clauses s) s.words) (Formula c) one adds
    (λ lines b. (belongs_given lines (clauses s) (clauses s ++ c ∷ []) s.words c formed (same_itself (clauses s ++ c ∷ [])) b).derives)
