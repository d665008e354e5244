-- Tables that mark the literals of a trail.
use Rattle.std.proofs.Common.{◌≡◌, ◌≢◌, ℕ, ◌+◌, ◌*◌, ◌<◌, ◌≤◌, Bool, true, false, List, [], ◌∷◌, ◌++◌, length, get_or, set, refl, sym, ◌∙◌, ap, subst, inl}
use Rattle.std.proofs.Common.{inr, arith, length-set, length-append}
use Rattle.std.specs.Prelude.{Contains}
use Rattle.std.proofs.lemmas.Bool.{both_ways, false_from_ne_true}
use Rattle.std.proofs.lemmas.List.{get_or-set_other, get_or_append_left, get_or_push}
use Rattle.std.proofs.lemmas.Grind.{get_or-set_at}
use Rattle.std.proofs.lemmas.List.Sums.{sum_by-set, sum_by-le}
use Rattle.cnf_core.specs.Lit.{Literal, negate, word_of, has}
use Rattle.cnf_core.specs.Clause.{IsThere}
use Rattle.cnf_core.specs.Trail.{marked, weight, IsTrail}
use Rattle.cnf_core.proofs.PropagationLemmas.{contains_from_has, has_from_contains}
use Rattle.cnf_core.proofs.QuantifierLemmas.{pairs_from_distinct}
use Rattle.cnf_core.proofs.GatherLemmas.{there_push}
use Rattle.cnf_core.proofs.TrailLemmas.{word_once, word_below, same_literal_or, same_or_negated, has_last, has_front, distinct_push, distinct_front}
use Rattle.cnf_core.proofs.TrailLemmas.{there_front, there_last}

-- marks after a write
pub marked_same : (truth : List Bool) (l k : Literal) (b : Bool) → word_of l < length truth → k ≡ l → marked (set truth (word_of l) b) k ≡ b
marked_same truth l k b within e = get_or-set_at truth (word_of l) (word_of k) b false (ap word_of e) within

pub marked_other : (truth : List Bool) (l k : Literal) (b : Bool) → (k ≡ l → ⊥) → marked (set truth (word_of l) b) k ≡ marked truth k
marked_other truth l k b ne = get_or-set_other truth (word_of l) (word_of k) b false (λ e. ne (word_once k l e))

pub unmarked_var : (vars : ℕ) (truth : List Bool) (trail : List Literal) (l : Literal) → IsTrail vars truth trail → marked truth l ≡ false →
    marked truth (negate l) ≡ false → (k : Literal) → Contains trail k → k.var ≢ l.var
unmarked_var vars truth trail l t h n = λ k among e. elim (same_or_negated k l e) [
  | inl same ↦ both_ways (marked truth l) h (t.marks l ∙ has_from_contains trail l (subst (λ (m : Literal). Contains trail m) same among))
  | inr same ↦ both_ways (marked truth (negate l)) n (t.marks (negate l) ∙ has_from_contains trail (negate l)
      (subst (λ (m : Literal). Contains trail m) same among))
]

-- one more mark
pub trail_more : (vars : ℕ) (truth : List Bool) (trail : List Literal) (l : Literal) → IsTrail vars truth trail → IsThere vars l → marked truth l ≡ false →
    marked truth (negate l) ≡ false → IsTrail vars (set truth (word_of l) true) (trail ++ l ∷ [])
trail_more vars truth trail l t there h n =
    let within : word_of l < length truth = omega (arith, t.size, word_below vars l there) in
    record {
      size = length-set truth (word_of l) true ∙ t.size;
      marks = λ k. elim (same_literal_or k l) [
        | inl e ↦ marked_same truth l k true within e ∙ sym (has_last trail l) ∙ ap (has (trail ++ l ∷ [])) (sym e)
        | inr ne ↦ marked_other truth l k true ne ∙ t.marks k ∙ sym (has_front trail l k ne)
      ];
      distinct = distinct_push trail l t.distinct (unmarked_var vars truth trail l t h n);
      there = there_push vars trail l t.there there;
      count =
          let now = sum_by-set weight truth (word_of l) true false within in
          let was : weight (get_or truth (word_of l) false) ≡ 0 = ap weight h in
          let one : weight true ≡ 1 = refl in
          omega (arith, now, was, one, t.count, length-append trail (l ∷ []));
    }

-- one mark less
pub trail_less : (vars : ℕ) (truth : List Bool) (trail : List Literal) (l : Literal) → IsTrail vars truth (trail ++ l ∷ []) →
    IsTrail vars (set truth (word_of l) false) trail
trail_less vars truth trail l t =
    let there = there_last vars trail l t.there in
    let within : word_of l < length truth = omega (arith, t.size, word_below vars l there) in
    record {
      size = length-set truth (word_of l) false ∙ t.size;
      marks = λ k. elim (same_literal_or k l) [
        | inl e ↦ marked_same truth l k false within e ∙ sym (last_once e)
        | inr ne ↦ marked_other truth l k false ne ∙ t.marks k ∙ has_front trail l k ne
      ];
      distinct = distinct_front trail l t.distinct;
      there = there_front vars trail l t.there;
      count =
          let now = sum_by-set weight truth (word_of l) false false within in
          let was : weight (get_or truth (word_of l) false) ≡ 1 = ap weight (t.marks l ∙ has_last trail l) in
          let none : weight false ≡ 0 = refl in
          omega (arith, now, was, none, t.count, length-append trail (l ∷ []));
    }
  where
    gone : has trail l ≡ true → ⊥
    gone h =
        let among = contains_from_has trail l h in
        let there : get_or (trail ++ l ∷ []) among.0 l ≡ l = get_or_append_left trail (l ∷ []) l among.0 among.1 ∙ among.2 in
        let last : get_or (trail ++ l ∷ []) (length trail) l ≡ l = get_or_push trail l l (length trail) refl in
        pairs_from_distinct (trail ++ l ∷ []) t.distinct among.0 (length trail) l among.1 (omega (arith, length-append trail (l ∷ [])))
        (ap (λ (m : Literal). m.var) there ∙ sym (ap (λ (m : Literal). m.var) last))

    last_once : {k : Literal} → k ≡ l → has trail k ≡ false
    last_once {k} e = ap (has trail) e ∙ false_from_ne_true (has trail l) gone

weight_small : (b : Bool) → weight b ≤ 1
weight_small true = omega arith
weight_small false = omega arith

-- a trail is no longer than its table
pub trail_short : (vars : ℕ) (truth : List Bool) (trail : List Literal) → IsTrail vars truth trail → length trail ≤ 2 * vars + 2
trail_short vars truth trail t = omega (arith, t.count, t.size, sum_by-le weight 1 truth (λ k d within. weight_small (get_or truth k d)))
