-- The words of a query's literals.
use Rattle.std.proofs.Common.{◌≡◌, ◌≢◌, ℕ, ◌+◌, ◌<◌, ◌≤◌, true, List, [], ◌∷◌, ◌++◌, length, take, get_or, sym, ◌∙◌, ap, subst, arith, inl, inr}
use Rattle.std.specs.Ordering.{nat_cmp}
use Rattle.std.specs.BTreeSet.{BTreeSet, contains, Updates}
use Rattle.std.proofs.lemmas.Bool.Decides.{nat_tests}
use Rattle.std.proofs.lemmas.List.{take_more, take_all}
use Rattle.cnf_core.specs.Lit.{Literal, word_of, has}
use Rattle.cnf_core.proofs.TrailLemmas.{word_once, has_last, has_front, same_literal_or}
use Rattle.refute_check.specs.Words.{HasWords}

pub words_more : (old new : BTreeSet ℕ) (lits : List Literal) (i word : ℕ) (l : Literal) → i < length lits → l ≡ get_or lits i l → word ≡ word_of l →
    HasWords old (take i lits) → Updates nat_cmp old new word true → HasWords new (take (i + 1) lits)
words_more old new lits i word l within at w has_old up = λ m.
    let next : take (i + 1) lits ≡ take i lits ++ l ∷ [] = take_more lits i l within ∙ ap (λ (k : Literal). take i lits ++ k ∷ []) (sym at) in
    elim (same_literal_or m l) [
      | inl e ↦ ap (contains nat_cmp new) (ap word_of e ∙ sym w) ∙ up.1 ∙ sym (ap (λ (ls : List Literal). has ls m) next ∙ ap (has (take i lits ++ l ∷ [])) e
          ∙ has_last (take i lits) l)
      | inr ne ↦
          let other : word ≢ word_of m = λ e. ne (word_once m l (sym e ∙ w)) in
          up.2 (word_of m) (grind (arith, nat_tests)) ∙ has_old m ∙ sym (ap (λ (ls : List Literal). has ls m) next ∙ has_front (take i lits) l m ne)
    ]

pub words_all : (words : BTreeSet ℕ) (lits : List Literal) (i : ℕ) → length lits ≤ i → HasWords words (take i lits) → HasWords words lits
words_all words lits i end h = subst (λ (ls : List Literal). HasWords words ls) (take_all i lits end) h
