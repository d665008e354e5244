-- Timely lines, one after another.
use Rattle.std.proofs.Common.{◌≡◌, ℕ, ◌+◌, ◌<◌, ◌≤◌, max, Bool, true, false, List, [], ◌∷◌, ◌++◌, length, take, refl, sym, ◌∙◌, ap, subst, arith, below_more}
use Rattle.std.proofs.Common.{Some}
use Rattle.std.specs.Prelude.{Option, MatchBool, slice_get}
use Rattle.std.proofs.lemmas.List.{take_more}
use Rattle.std.proofs.lemmas.Option.{slice_get_within, get_or_from_slice_get}
use Rattle.cnf_core.specs.Lit.{Literal}
use Rattle.cnf_core.specs.Propagation.{greatest_var}
use Rattle.refute_log.specs.declared.line.LogLine.{LogLine}
use Rattle.refute_log.specs.declared.line.LogLine.TheVariants.{Refuted}
use Rattle.refute_log.specs.Told.{Lines}
use Rattle.refute_log.specs.Log.{Facts, facts_of, facts_after, given, asked, Answers}
use Rattle.refute_log.proofs.LogLemmas.{facts_more}
use Rattle.refute_check.specs.Timely.{IsTimely, AreTimely}

-- the line at this place is timely
abbrev IsTimelyAt : Lines → ℕ → Type 0
IsTimelyAt lines i = (line : LogLine) → slice_get lines i ≡ Some line → IsTimely (facts_of (take i lines)) line

-- the first i lines are timely, and have this greatest variable and this query
pub record AreTimelyTo (lines : Lines) (i vars : ℕ) (query : Option (List Literal)) : Type 0 where
  pub each : (k : ℕ) → k < i → IsTimelyAt lines k
  pub greatest : (facts_of (take i lines)).greatest ≡ vars
  pub latest : (facts_of (take i lines)).query ≡ query

facts_next : (lines : Lines) (i : ℕ) (line : LogLine) → slice_get lines i ≡ Some line →
    facts_of (take (i + 1) lines) ≡ facts_after (facts_of (take i lines)) line
facts_next lines i line e =
    let next : take (i + 1) lines ≡ take i lines ++ line ∷ [] = take_more lines i line (slice_get_within lines i line e)
    ∙ ap (λ (l : LogLine). take i lines ++ l ∷ []) (get_or_from_slice_get lines i line line e) in
    ap facts_of next ∙ facts_more (take i lines) line

pub timely_more : (lines : Lines) (i vars next : ℕ) (query latest : Option (List Literal)) (line : LogLine) → AreTimelyTo lines i vars query →
    slice_get lines i ≡ Some line →
    ((facts : Facts) → facts.greatest ≡ vars → facts.query ≡ query → IsTimely facts line) → next ≡ max vars (greatest_var (given line)) →
    latest ≡ asked query line →
    AreTimelyTo lines (i + 1) next latest
timely_more lines i vars next query latest line h e judged g q =
    let facts = facts_of (take i lines) in
    let same = facts_next lines i line e in
    let here : IsTimely facts line = judged facts h.greatest h.latest in
    let is_line : (l : LogLine) → slice_get lines i ≡ Some l → line ≡ l = λ l f. cc in
    record {
      each = below_more (IsTimelyAt lines) i h.each (λ l f. subst (IsTimely facts) (is_line l f) here);
      greatest = ap (λ (f : Facts). f.greatest) same ∙ ap (λ n. max n (greatest_var (given line))) h.greatest ∙ sym g;
      latest = ap (λ (f : Facts). f.query) same ∙ ap (λ (o : Option (List Literal)). asked o line) h.latest ∙ sym q;
    }

pub timely_all : (lines : Lines) (i vars : ℕ) (query : Option (List Literal)) → AreTimelyTo lines i vars query → length lines ≤ i → AreTimely lines
timely_all lines i vars query h end = λ k line e. h.each k (let low = slice_get_within lines k line e in omega arith) line e

-- what a test of a Refuted line's literals tells of the line
pub answers_told : (query : Option (List Literal)) (line : LogLine) (c lits : List Literal) (r : Bool) → line ≡ Refuted c → lits ≡ c →
    (r ≡ true → Answers query (Refuted lits)) → (r ≡ false → Answers query (Refuted lits) → ⊥) →
    MatchBool r (Answers query line) (Answers query line → ⊥)
answers_told query line c lits r is same holds fails = subst (λ (l : LogLine). MatchBool r (Answers query l) (Answers query l → ⊥))
    (ap (λ (ls : List Literal). Refuted ls) same ∙ sym is) (by_test r holds fails)
  where
    by_test : (b : Bool) → (b ≡ true → Answers query (Refuted lits)) → (b ≡ false → Answers query (Refuted lits) → ⊥) →
        MatchBool b (Answers query (Refuted lits)) (Answers query (Refuted lits) → ⊥)
    by_test true h f = h refl
    by_test false h f = f refl
