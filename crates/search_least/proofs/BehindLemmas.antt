-- Lines that are so behind those before them: one more line, and those of a question.
use Rattle.std.proofs.Common.{◌≡◌, List, [], ◌∷◌, ◌++◌, map, sym, ◌∙◌, ap, subst, inl, inr, arith, append-nil, append_assoc}
use Rattle.std.proofs.lemmas.List.{take_at, take-append-le, get_or_push}
use Rattle.std.proofs.lemmas.Option.{slice_get_within, get_or_from_slice_get}
use Rattle.cnf_core.specs.Lit.{Literal}
use Rattle.cnf_core.specs.Clause.{Clauses}
use Rattle.refute_log.specs.declared.line.LogLine.{LogLine}
use Rattle.refute_log.specs.declared.line.LogLine.TheVariants.{Learnt, Query}
use Rattle.refute_log.specs.Told.{Lines}
use Rattle.refute_log.proofs.LogLemmas.{at_left, low_or_last}
use Rattle.search_least.specs.Placed.{EachBehind}

pub behind_none : (IsSo : Lines → LogLine → Type 0) → EachBehind IsSo []
behind_none IsSo = λ i line e. absurd (let lt = slice_get_within [] i line e in omega (arith, lt))

pub behind_more : (IsSo : Lines → LogLine → Type 0) (lines : Lines) (line : LogLine) → EachBehind IsSo lines → IsSo lines line →
    EachBehind IsSo (lines ++ line ∷ [])
behind_more IsSo lines line each last = λ i l e. elim (low_or_last lines line l i e) [
  | inl low ↦ subst (λ (ls : Lines). IsSo ls l) (sym (take-append-le i lines (line ∷ []) (omega arith))) (each i l (at_left lines line l i low e))
  | inr end ↦
      let is : line ≡ l = sym (get_or_push lines line l i (sym end)) ∙ get_or_from_slice_get (lines ++ line ∷ []) i l l e in
      subst (λ (ls : Lines). IsSo ls l) (sym (take_at lines (line ∷ []) i (sym end))) (subst (λ (k : LogLine). IsSo lines k) is last)
]

-- lines of one kind, which may stand anywhere
pub behind_mapped : (IsSo : Lines → LogLine → Type 0) (line : List Literal → LogLine) (now : Lines) (cs : Clauses) →
    ((before : Lines) (c : List Literal) → IsSo before (line c)) → EachBehind IsSo now → EachBehind IsSo (now ++ map line cs)
behind_mapped IsSo line now [] always h = subst (EachBehind IsSo) (sym (append-nil now)) h
behind_mapped IsSo line now (c ∷ cs) always h =
    subst (EachBehind IsSo) (append_assoc now (line c ∷ []) (map line cs)) (behind_mapped IsSo line (now ++ line c ∷ []) cs always
    (behind_more IsSo now (line c) h (always now c)))

-- a question up to its end
behind_question : (IsSo : Lines → LogLine → Type 0) (now : Lines) (query : List Literal) (cs : Clauses) →
    ((before : Lines) (c : List Literal) → IsSo before (Learnt c)) → IsSo now (Query query) → EachBehind IsSo now →
    EachBehind IsSo (now ++ Query query ∷ map Learnt cs)
behind_question IsSo now query cs always first h =
    subst (EachBehind IsSo) (append_assoc now (Query query ∷ []) (map Learnt cs))
    (behind_mapped IsSo Learnt (now ++ Query query ∷ []) cs always (behind_more IsSo now (Query query) h first))

pub behind_unended : (IsSo : Lines → LogLine → Type 0) (now more : Lines) (query : List Literal) (cs : Clauses) → more ≡ Query query ∷ (map Learnt cs ++ []) →
    ((before : Lines) (c : List Literal) → IsSo before (Learnt c)) → IsSo now (Query query) →
    EachBehind IsSo now → EachBehind IsSo (now ++ more)
behind_unended IsSo now more query cs is always first h =
    subst (λ (ls : Lines). EachBehind IsSo (now ++ ls)) (sym is)
    (subst (λ (ls : Lines). EachBehind IsSo (now ++ Query query ∷ ls)) (sym (append-nil (map Learnt cs))) (behind_question IsSo now query cs always first h))

-- the lines before a question's end, and its end
pub ended_with : (now more : Lines) (query : List Literal) (cs : Clauses) (line : LogLine) → more ≡ Query query ∷ (map Learnt cs ++ line ∷ []) →
    (now ++ Query query ∷ map Learnt cs) ++ line ∷ [] ≡ now ++ more
ended_with now more query cs line is = append_assoc now (Query query ∷ map Learnt cs) (line ∷ []) ∙ ap (λ (ls : Lines). now ++ ls) (sym is)

pub behind_ended : (IsSo : Lines → LogLine → Type 0) (now more : Lines) (query : List Literal) (cs : Clauses) (line : LogLine) →
    more ≡ Query query ∷ (map Learnt cs ++ line ∷ []) → ((before : Lines) (c : List Literal) → IsSo before (Learnt c)) →
    IsSo now (Query query) → IsSo (now ++ Query query ∷ map Learnt cs) line → EachBehind IsSo now → EachBehind IsSo (now ++ more)
behind_ended IsSo now more query cs line is always first last h =
    subst (EachBehind IsSo) (ended_with now more query cs line is) (behind_more IsSo (now ++ Query query ∷ map Learnt cs) line
    (behind_question IsSo now query cs always first h) last)
