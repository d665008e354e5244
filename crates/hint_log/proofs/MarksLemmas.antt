-- Marks in a table.
use Rattle.std.proofs.Common.{◌≡◌, ◌<◌, ◌≤◌, Bool, true, false, List, [], ◌∷◌, ◌++◌, length, set, sym, ◌∙◌, ap, subst, inl}
use Rattle.std.proofs.Common.{inr}
use Rattle.std.proofs.lemmas.Bool.{both_ways}
use Rattle.std.proofs.lemmas.List.{get_or_past}
use Rattle.cnf_core.specs.Lit.{Literal, word_of, has}
use Rattle.cnf_core.specs.Propagation.{Includes}
use Rattle.cnf_core.specs.Trail.{marked}
use Rattle.cnf_core.proofs.MarkLemmas.{marked_same, marked_other}
use Rattle.cnf_core.proofs.TrailLemmas.{has_last, has_front, same_literal_or}
use Rattle.hint_log.specs.Looks.{AreMarkedBy}

has_same : (lits : List Literal) (k l : Literal) → k ≡ l → has (lits ++ l ∷ []) k ≡ true
has_same lits k l e = ap (has (lits ++ l ∷ [])) e ∙ has_last lits l

-- one more mark
pub marked_more : (table : List Bool) (lits : List Literal) (l : Literal) → AreMarkedBy table lits → word_of l < length table →
    AreMarkedBy (set table (word_of l) true) (lits ++ l ∷ [])
marked_more table lits l m within = λ k. elim (same_literal_or k l) [
  | inl e ↦ marked_same table l k true within e ∙ sym (has_same lits k l e)
  | inr ne ↦ marked_other table l k true ne ∙ m k ∙ sym (has_front lits l k ne)
]

-- one mark less
pub unmarked_one : (table : List Bool) (lits : List Literal) (l : Literal) → Includes (has (lits ++ l ∷ [])) (marked table) → word_of l < length table →
    Includes (has lits) (marked (set table (word_of l) false))
unmarked_one table lits l m within = λ k h. elim (same_literal_or k l) [
  | inl e ↦ absurd (both_ways (marked (set table (word_of l) false) k) (marked_same table l k false within e) h)
  | inr ne ↦ sym (has_front lits l k ne) ∙ m k (sym (marked_other table l k false ne) ∙ h)
]

pub unmarked_none : (table : List Bool) (lits : List Literal) (l : Literal) → Includes (has (lits ++ l ∷ [])) (marked table) → length table ≤ word_of l →
    Includes (has lits) (marked table)
unmarked_none table lits l m past = λ k h. elim (same_literal_or k l) [
  | inl e ↦ absurd (both_ways (marked table k) (get_or_past table (word_of k) false (subst (λ (x : Literal). length table ≤ word_of x) (sym e) past)) h)
  | inr ne ↦ sym (has_front lits l k ne) ∙ m k h
]
