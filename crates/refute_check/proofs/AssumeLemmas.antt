-- The negations of a clause's literals are put on a trail.
use Rattle.std.proofs.Common.{◌≡◌, ℕ, ◌+◌, ◌<◌, ◌≤◌, Bool, List, [], ◌∷◌, ◌++◌, length, take, get_or, refl, sym, ◌∙◌, ap, subst, inl, inr, arith, length-append}
use Rattle.std.specs.Prelude.{All, Contains}
use Rattle.std.proofs.lemmas.List.{take-take, take_all, take_at}
use Rattle.std.proofs.lemmas.List.Elements.{All-contains, All-more, All-nil, All-weaker, Contains-get_or}
use Rattle.cnf_core.specs.Lit.{Literal, negate, has}
use Rattle.cnf_core.specs.Clause.{AreDistinct}
use Rattle.cnf_core.specs.Propagation.{IsIn, Includes, negations}
use Rattle.cnf_core.proofs.PropagationLemmas.{negate-negate, contains_from_has, has_from_contains}
use Rattle.cnf_core.proofs.TrailLemmas.{has_last, has_front, same_literal_or, distinct_consistent, push_keeps}
use Rattle.cnf_core.specs.Trail.{marked, IsTrail}
use Rattle.refute_check.specs.Tables.{Assumes, HasTrueLiteral}
use Rattle.refute_check.proofs.ScanLemmas.{IsFalse}

pub record Assumed (vars : ℕ) (lits old : List Literal) (truth : List Bool) (new : List Literal) (i : ℕ) : Type 0 where
  pub table : IsTrail vars truth new
  pub assumes : Assumes lits old new
  pub false_now : All (IsFalse (has new)) (take i lits)

assumes_none : (lits trail : List Literal) → Assumes lits trail trail
assumes_none lits trail = record {
  front = take_all (length trail) trail (omega arith);
  longer = omega arith;
  keeps = λ l h. h;
  only = λ l h. inl h;
}

pub assumed_none : (vars : ℕ) (lits : List Literal) (truth : List Bool) (trail : List Literal) → IsTrail vars truth trail →
    Assumed vars lits trail truth trail 0
assumed_none vars lits truth trail t = record { table = t; assumes = assumes_none lits trail; false_now = All-nil (IsFalse (has trail)) }

-- the literal is false already
pub assumed_false : (vars : ℕ) (lits old : List Literal) (truth : List Bool) (new : List Literal) (i : ℕ) (l : Literal) → i < length lits →
    l ≡ get_or lits i l → Assumed vars lits old truth new i → IsIn (marked truth) (negate l) → Assumed vars lits old truth new (i + 1)
assumed_false vars lits old truth new i l within at s h = record {
  table = s.table;
  assumes = s.assumes;
  false_now = All-more (IsFalse (has new)) lits i l within s.false_now (subst (λ (k : Literal). IsFalse (has new) k) at
      (let t = s.table in sym (t.marks (negate l)) ∙ h));
}

-- the negation is put behind the others
assumes_push : (lits old new : List Literal) (i : ℕ) (l : Literal) → i < length lits → l ≡ get_or lits i l → Assumes lits old new →
    Assumes lits old (new ++ negate l ∷ [])
assumes_push lits old new i l within at s = record {
  front = let longer = s.longer in
      sym (take-take (length old) (length new) (new ++ negate l ∷ []) longer) ∙ ap (take (length old)) (take_at new (negate l ∷ []) (length new) refl)
      ∙ s.front;
  longer = let longer = s.longer in omega (arith, longer, length-append new (negate l ∷ []));
  keeps = λ k h. push_keeps new (negate l) k (s.keeps k h);
  only = λ k h. elim (same_literal_or k (negate l)) [
    | inl e ↦ inr (ap (has lits) (ap negate e ∙ negate-negate l) ∙ has_from_contains lits l
        (subst (λ (m : Literal). Contains lits m) (sym at) (Contains-get_or lits i l within)))
    | inr ne ↦ s.only k (sym (has_front new (negate l) k ne) ∙ h)
  ];
}

pub assumed_more : (vars : ℕ) (lits old : List Literal) (truth then : List Bool) (new now : List Literal) (i : ℕ) (l n : Literal) → i < length lits →
    l ≡ get_or lits i l → Assumed vars lits old truth new i → n ≡ negate l → IsTrail vars then now → now ≡ new ++ n ∷ [] →
    Assumed vars lits old then now (i + 1)
assumed_more vars lits old truth then new now i l n within at s is t e =
    let behind : now ≡ new ++ negate l ∷ [] = e ∙ ap (λ (k : Literal). new ++ k ∷ []) is in
    record {
      table = t;
      assumes = subst (λ (ls : List Literal). Assumes lits old ls) (sym behind) (assumes_push lits old new i l within at s.assumes);
      false_now = subst (λ (ls : List Literal). All (IsFalse (has ls)) (take (i + 1) lits)) (sym behind)
          (All-more (IsFalse (has (new ++ negate l ∷ []))) lits i l within
          (All-weaker (IsFalse (has new)) (IsFalse (has (new ++ negate l ∷ []))) (λ k h. push_keeps new (negate l) (negate k) h) (take i lits) s.false_now)
          (subst (λ (k : Literal). IsFalse (has (new ++ negate l ∷ [])) k) at (has_last new (negate l))));
    }

-- a literal that is true was true before
pub assumed_clash : (vars : ℕ) (lits old : List Literal) (truth : List Bool) (new : List Literal) (i : ℕ) (l : Literal) → AreDistinct lits → i < length lits →
    l ≡ get_or lits i l → Assumed vars lits old truth new i → IsIn (marked truth) l → HasTrueLiteral lits old
assumed_clash vars lits old truth new i l distinct within at s h =
    let among : Contains lits l = subst (λ (m : Literal). Contains lits m) (sym at) (Contains-get_or lits i l within) in
    record {
      literal = l;
      among = among;
      true_now = let t = s.table in let a = s.assumes in elim (a.only l (sym (t.marks l) ∙ h)) [
        | inl o ↦ o
        | inr n ↦ absurd (distinct_consistent lits distinct l (has_from_contains lits l among) n)
      ];
    }

pub assumed_all : (vars : ℕ) (lits old : List Literal) (truth : List Bool) (new : List Literal) (i : ℕ) → length lits ≤ i → Assumed vars lits old truth new i →
    Includes (has new) (negations lits)
assumed_all vars lits old truth new i end s = λ l h.
    let all : All (IsFalse (has new)) lits = subst (λ (ls : List Literal). All (IsFalse (has new)) ls) (take_all i lits end) s.false_now in
    ap (has new) (sym (negate-negate l)) ∙ All-contains (IsFalse (has new)) lits (negate l) all (contains_from_has lits (negate l) h)
