-- Logs that belong to a solver, line by line.
use Rattle.std.proofs.Common.{◌≡◌, ℕ, zero, suc, ◌+◌, ◌<◌, ◌≤◌, max, List, [], ◌∷◌, ◌++◌, length, take, refl, sym, ◌∙◌, ap, subst, arith, append-nil, Some}
use Rattle.std.specs.Prelude.{All, Contains, Option, MatchOption, slice_get}
use Rattle.std.proofs.lemmas.List.{take_all}
use Rattle.std.proofs.lemmas.List.Elements.{All-nil, All-weaker, All-contains}
use Rattle.plan_core.specs.declared.criterion.Criterion.{Criterion}
use Rattle.plan_core.proofs.ListFacts.{each_pushed}
use Rattle.cnf_core.specs.declared.literal.Var.{Var}
use Rattle.cnf_core.specs.Lit.{Literal, negate, has}
use Rattle.cnf_core.specs.Clause.{Clauses, words_of, IsNamed}
use Rattle.cnf_core.specs.Propagation.{Falsifies, AreAmong, greatest_in, greatest_var}
use Rattle.cnf_core.proofs.PropagationLemmas.{falsifies_more, rup_more, new_same}
use Rattle.cnf_core.proofs.GreatestLemmas.{greatest_var-append, below_greatest, clause_below_greatest, greatest_in_least}
use Rattle.refute_log.specs.declared.line.LogLine.{LogLine}
use Rattle.refute_log.specs.declared.line.LogLine.TheVariants.{Formula, Learnt, Bound, Query, Refuted, Model}
use Rattle.refute_log.specs.Lines.{MayBeTold}
use Rattle.refute_log.specs.Told.{Lines}
use Rattle.refute_log.specs.Log.{Facts, facts_of, facts_after, added, given, IsNewClause, Stands, Derives, Open}
use Rattle.refute_log.proofs.LogLemmas.{facts_more, derives_none, derives_more, due_none, due_more}
use Rattle.cdcl_core.specs.Kept.{IsDeduced, IsOpenQuery, AreSameClauses}
use Rattle.cdcl_core.specs.Belongs.{BelongsTo}
use Rattle.cdcl_core.specs.Search.{IsRefuting}
use Rattle.cdcl_core.specs.Rounds.{BelongsAt}
use Rattle.cdcl_core.proofs.SetLemmas.{among_more, among_append, among_itself, words_push}

-- a new solver and a log without lines
pub belongs_none : BelongsTo [] [] 0
belongs_none = record {
  formed = tt;
  derives = derives_none;
  due = due_none;
  told = among_itself [];
  all = among_itself [];
  words = refl;
}

-- facts after one more line
after : (P : Facts → Type 0) (lines : Lines) (line : LogLine) → P (facts_after (facts_of lines) line) → P (facts_of (lines ++ line ∷ []))
after P lines line h = subst P (sym (facts_more lines line)) h

-- the Learnt lines of a log that derives name no variable beyond those of its Formula lines
record IsGreatest (lines : Lines) : Type 0 where
  pub same : greatest_var (facts_of lines).clauses ≤ (facts_of lines).greatest

greatest_line : (lines : Lines) (line : LogLine) → Stands lines line → IsGreatest lines → IsGreatest (lines ++ line ∷ [])
greatest_line lines line stands g = record { same = after (λ f. greatest_var f.clauses ≤ f.greatest) lines line (by_kind line stands) }
  where
    by_kind : (l : LogLine) → Stands lines l → greatest_var ((facts_of lines).clauses ++ added l) ≤ max (facts_of lines).greatest (greatest_var (given l))
    by_kind (Formula c) s = let e = greatest_var-append (facts_of lines).clauses (c ∷ []) in let h = g.same in omega arith
    by_kind (Learnt c) s =
        let e = greatest_var-append (facts_of lines).clauses (c ∷ []) in
        let low : greatest_in c ≤ (facts_of lines).greatest = greatest_in_least c (facts_of lines).greatest s.named in
        let h = g.same in
        omega arith
    by_kind (Bound criterion k x) s = let h = g.same in rw append-nil (omega arith)
    by_kind (Query c) s = let h = g.same in rw append-nil (omega arith)
    by_kind (Refuted c) s = let h = g.same in rw append-nil (omega arith)
    by_kind Model s = let h = g.same in rw append-nil (omega arith)

greatest_front : (lines : Lines) → Derives lines → (n : ℕ) → n ≤ length lines → IsGreatest (take n lines)
greatest_front lines d zero le = record { same = omega arith }
greatest_front lines d (suc n) le =
    let at = line_at lines n (omega arith) in
    subst IsGreatest (sym at.2) (greatest_line (take n lines) at.0 (d n at.0 at.1) (greatest_front lines d n (omega arith)))
  where
    line_at : (lines : Lines) (n : ℕ) → n < length lines → (line : LogLine) × (slice_get lines n ≡ Some line) × (take (suc n) lines ≡ take n lines ++ line ∷ [])
    line_at [] n lt = absurd (omega arith)
    line_at (l ∷ lines) zero lt = (l, refl, refl)
    line_at (l ∷ lines) (suc n) lt = let r = line_at lines n (omega arith) in (r.0, r.1, ap (λ (ls : Lines). l ∷ ls) r.2)

pub greatest_of_log : (lines : Lines) → Derives lines → greatest_var (facts_of lines).clauses ≤ (facts_of lines).greatest
greatest_of_log lines d = let g = greatest_front lines d (length lines) (omega arith) in subst
    (λ (ls : Lines). greatest_var (facts_of ls).clauses ≤ (facts_of ls).greatest) (take_all (length lines) lines (omega arith)) g.same

pub named_below : (clauses more : Clauses) (v : ℕ) → AreAmong clauses more → IsNamed clauses v → v ≤ greatest_var more
named_below clauses more v there n =
    let d = there n.clause n.among in
    let inside : Contains d.0 n.lit = (d.2 n.lit).0 n.inside in
    let a = below_greatest d.0 n.lit inside in
    let b = clause_below_greatest more d.0 d.1 in
    let e = n.var in
    omega arith

-- a clause is given
pub belongs_given : (lines : Lines) (clauses now : Clauses) (count : ℕ) (c : List Literal) → MayBeTold (Formula c) → AreSameClauses (clauses ++ c ∷ []) now →
    BelongsTo lines clauses count → BelongsTo (lines ++ Formula c ∷ []) now (count + length c + 3)
belongs_given lines clauses now count c formed same b = record {
  formed = each_pushed MayBeTold lines (Formula c) b.formed formed;
  derives = derives_more lines (Formula c) b.derives (record {
    named = All-nil (λ l. l.var ≤ (facts_of lines).greatest);
    answers = tt;
    implied = tt;
    says_more = tt;
  });
  due = due_more lines (Formula c) b.due (λ d e. cc);
  told = after (λ f. AreAmong f.clauses now) lines (Formula c) (among_more ((facts_of lines).clauses ++ c ∷ []) (clauses ++ c ∷ []) now
      (among_append (facts_of lines).clauses (c ∷ []) clauses (c ∷ []) b.told (among_itself (c ∷ []))) same.there);
  all = after (λ f. AreAmong now f.clauses) lines (Formula c) (among_more now (clauses ++ c ∷ []) ((facts_of lines).clauses ++ c ∷ []) same.back
      (among_append clauses (c ∷ []) (facts_of lines).clauses (c ∷ []) b.all (among_itself (c ∷ []))));
  words = after (λ f. count + length c + 3 ≡ words_of f.clauses) lines (Formula c) (let w = b.words in omega (arith, words_push (facts_of lines).clauses c));
}

-- the clauses that are kept may stand in another order
pub belongs_same : (lines : Lines) (clauses now : Clauses) (count more : ℕ) → AreSameClauses clauses now → more ≡ count → BelongsTo lines clauses count →
    BelongsTo lines now more
belongs_same lines clauses now count more same e b = record {
  formed = b.formed;
  derives = b.derives;
  due = b.due;
  told = among_more (facts_of lines).clauses clauses now b.told same.there;
  all = among_more now clauses (facts_of lines).clauses same.back b.all;
  words = e ∙ b.words;
}

-- lines that add no clause
belongs_line : (lines : Lines) (clauses : Clauses) (count : ℕ) (line : LogLine) → MayBeTold line → added line ≡ [] →
    ((c : List Literal) → line ≡ Learnt c → ⊥) → Stands lines line → BelongsTo lines clauses count → BelongsTo (lines ++ line ∷ []) clauses count
belongs_line lines clauses count line formed none other stands b = record {
  formed = each_pushed MayBeTold lines line b.formed formed;
  derives = derives_more lines line b.derives stands;
  due = due_more lines line b.due (λ c e. absurd (other c e));
  told = after (λ f. AreAmong f.clauses clauses) lines line (rw none (rw append-nil b.told));
  all = after (λ f. AreAmong clauses f.clauses) lines line (rw none (rw append-nil b.all));
  words = after (λ f. count ≡ words_of f.clauses) lines line (rw none (rw append-nil b.words));
}

-- a bound
pub belongs_bound : (lines : Lines) (clauses : Clauses) (count : ℕ) (criterion : Criterion) (k : ℕ) (x : Var) → MayBeTold (Bound criterion k x) →
    BelongsTo lines clauses count → BelongsTo (lines ++ Bound criterion k x ∷ []) clauses count
belongs_bound lines clauses count criterion k x formed b =
    belongs_line lines clauses count (Bound criterion k x) formed refl (λ d e. cc) (record {
      named = All-nil (λ l. l.var ≤ (facts_of lines).greatest);
      answers = tt;
      implied = tt;
      says_more = tt;
    }) b

-- a query
pub belongs_query : (lines : Lines) (clauses : Clauses) (count : ℕ) (q : List Literal) → MayBeTold (Query q) → All (λ l. IsNamed clauses l.var) q →
    BelongsTo lines clauses count → BelongsAt q (lines ++ Query q ∷ []) clauses count
belongs_query lines clauses count q formed named b = record {
  belongs = belongs_line lines clauses count (Query q) formed refl (λ c e. cc) (record {
    named = All-weaker (λ l. IsNamed clauses l.var) (λ l. l.var ≤ (facts_of lines).greatest)
        (λ l n. let v = named_below clauses (facts_of lines).clauses l.var b.all n in let g = greatest_of_log lines b.derives in omega arith) q named;
    answers = tt;
    implied = tt;
    says_more = tt;
  }) b;
  asked = after (λ f. f.query ≡ Some q) lines (Query q) refl;
}

open_lines : (lines : Lines) (q : List Literal) → (facts_of lines).query ≡ Some q → (Falsifies (facts_of lines).clauses (has q) → ⊥) → Open lines
open_lines lines q e h = subst (λ (x : Option (List Literal)). MatchOption x ⊥ (λ p. Falsifies (facts_of lines).clauses (has p) → ⊥)) (sym e) h

new_below : (clauses : Clauses) (c : List Literal) → IsNewClause clauses c → All (λ l. l.var ≤ greatest_var clauses) c
new_below clauses [] n = absurd n
new_below clauses (first ∷ rest) n = n.named

-- what is new over clauses is new over the same sets of literals
pub new_told : (clauses more : Clauses) (c : List Literal) → AreAmong clauses more → AreAmong more clauses → IsNewClause clauses c → IsNewClause more c
new_told clauses more [] there back n = absurd n
new_told clauses more (first ∷ rest) there back n = new_same clauses more first rest rest there back (λ l. (λ m. m, λ m. m)) n

-- a learnt clause, where the query is open
pub belongs_learnt : (lines : Lines) (clauses now : Clauses) (count : ℕ) (q c : List Literal) → MayBeTold (Learnt c) → IsDeduced clauses c →
    IsOpenQuery clauses q → AreSameClauses (clauses ++ c ∷ []) now → BelongsAt q lines clauses count →
    BelongsAt q (lines ++ Learnt c ∷ []) now (count + length c + 3)
belongs_learnt lines clauses now count q c formed deduced is_open same at_query =
    let b = at_query.belongs in
    let g = greatest_of_log lines b.derives in
    let new = new_told clauses (facts_of lines).clauses c b.all b.told deduced.new in
    record {
      belongs = record {
        formed = each_pushed MayBeTold lines (Learnt c) b.formed formed;
        derives = derives_more lines (Learnt c) b.derives (record {
          named = All-weaker (λ l. l.var ≤ greatest_var (facts_of lines).clauses) (λ l. l.var ≤ (facts_of lines).greatest) (λ l h. omega arith) c
              (new_below (facts_of lines).clauses c new);
          answers = tt;
          implied = rup_more clauses (facts_of lines).clauses c b.all deduced.follows;
          says_more = new;
        });
        due = due_more lines (Learnt c) b.due (λ d e. open_lines lines q at_query.asked
            (λ f. is_open (falsifies_more (facts_of lines).clauses clauses (has q) b.told f)));
        told = after (λ f. AreAmong f.clauses now) lines (Learnt c) (among_more ((facts_of lines).clauses ++ c ∷ []) (clauses ++ c ∷ []) now
            (among_append (facts_of lines).clauses (c ∷ []) clauses (c ∷ []) b.told (among_itself (c ∷ []))) same.there);
        all = after (λ f. AreAmong now f.clauses) lines (Learnt c) (among_more now (clauses ++ c ∷ []) ((facts_of lines).clauses ++ c ∷ []) same.back
            (among_append clauses (c ∷ []) (facts_of lines).clauses (c ∷ []) b.all (among_itself (c ∷ []))));
        words = after (λ f. count + length c + 3 ≡ words_of f.clauses) lines (Learnt c)
            (let w = b.words in omega (arith, words_push (facts_of lines).clauses c));
      };
      asked = after (λ f. f.query ≡ Some q) lines (Learnt c) at_query.asked;
    }

-- the query is refuted
pub belongs_refuted : (lines : Lines) (clauses : Clauses) (count : ℕ) (q c : List Literal) → MayBeTold (Refuted c) → All (λ l. IsNamed clauses l.var) q →
    IsRefuting clauses q c → BelongsAt q lines clauses count → BelongsTo (lines ++ Refuted c ∷ []) clauses count
belongs_refuted lines clauses count q c formed named r at_query =
    let b = at_query.belongs in
    let g = greatest_of_log lines b.derives in
    belongs_line lines clauses count (Refuted c) formed refl (λ d e. cc) (record {
      named = All-weaker (λ l. Contains q (negate l)) (λ l. l.var ≤ (facts_of lines).greatest)
          (λ l among. let v = named_below clauses (facts_of lines).clauses l.var b.all (All-contains (λ k. IsNamed clauses k.var) q (negate l) named among) in
          omega
          arith) c r.answers;
      answers = subst (λ (x : Option (List Literal)). MatchOption x ⊥ (λ p. All (λ l. Contains p (negate l)) c)) (sym at_query.asked) r.answers;
      implied = rup_more clauses (facts_of lines).clauses c b.all r.follows;
      says_more = tt;
    }) b

-- the query has a model
pub belongs_model : (lines : Lines) (clauses : Clauses) (count : ℕ) (q : List Literal) → BelongsAt q lines clauses count →
    BelongsTo (lines ++ Model ∷ []) clauses count
belongs_model lines clauses count q at_query =
    let b = at_query.belongs in
    belongs_line lines clauses count Model (record {
      formed = tt;
      once = tt;
    }) refl (λ d e. cc) (record { named = All-nil (λ l. l.var ≤ (facts_of lines).greatest); answers = tt; implied = tt; says_more = tt }) b

-- deduced, whatever the order
pub deduced_same : (clauses more : Clauses) (c : List Literal) → AreAmong clauses more → AreAmong more clauses → IsDeduced clauses c → IsDeduced more c
deduced_same clauses more c there back d = record { follows = rup_more clauses more c there d.follows; new = new_told clauses more c there back d.new }
