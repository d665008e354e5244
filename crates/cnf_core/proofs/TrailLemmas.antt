-- Lists of literals of distinct variables: clauses whose variables rise, and trails.
use Rattle.std.proofs.Common.{◌≡◌, ◌≢◌, ℕ, ◌+◌, ◌*◌, ◌<◌, ◌≤◌, ◌⊎◌, Bool, true, false, not, cond, zero, suc, List, [], ◌∷◌, ◌++◌, length, take, drop, get_or}
use Rattle.std.proofs.Common.{refl, sym, ◌∙◌, ap, subst, inl, inr, arith, length-take-le}
use Rattle.std.specs.Prelude.{All, Contains}
use Rattle.std.proofs.lemmas.Bool.{false_from_ne_true}
use Rattle.std.proofs.lemmas.Bool.Decides.{eqb_tells}
use Rattle.std.proofs.lemmas.List.{take_more, take-append-drop, get_or-take, get_or_default}
use Rattle.std.proofs.lemmas.List.Elements.{Contains-push, Contains-push_cases, Contains-append_left}
use Rattle.plan_core.proofs.TruthFacts.{same_when}
use Rattle.cnf_core.specs.Lit.{Literal, negate, word_of, has}
use Rattle.cnf_core.specs.Clause.{Avoids, AreDistinct, AreRising, AreThere, IsThere}
use Rattle.cnf_core.specs.Propagation.{Includes, IsConsistent}
use Rattle.cnf_core.proofs.GatherLemmas.{avoids_push}
use Rattle.cnf_core.proofs.PropagationLemmas.{literal_same, contains_from_has, has_from_contains, contains_first, contains_later}
use Rattle.cnf_core.proofs.QuantifierLemmas.{pairs_from_distinct}

-- a literal is known by its word
record SameParts (x y : ℕ) (p q : Bool) : Type 0 where
  var : x ≡ y
  sign : p ≡ q

parts_same : (x y : ℕ) (p q : Bool) → 2 * x + cond p 0 1 ≡ 2 * y + cond q 0 1 → SameParts x y p q
parts_same x y true true e = record { var = omega arith; sign = refl }
parts_same x y true false e = absurd (omega arith)
parts_same x y false true e = absurd (omega arith)
parts_same x y false false e = record { var = omega arith; sign = refl }

pub word_once : (k l : Literal) → word_of k ≡ word_of l → k ≡ l
word_once k l e = let parts = parts_same k.var l.var k.positive l.positive e in literal_same k l parts.var parts.sign

pub word_below : (vars : ℕ) (l : Literal) → IsThere vars l → word_of l < 2 * vars + 2
word_below vars l h = below l.positive h.1
  where
    below : (p : Bool) → l.var ≤ vars → 2 * l.var + cond p 0 1 < 2 * vars + 2
    below true h = omega arith
    below false h = omega arith

-- two literals are the same or not
pub same_literal_or : (k l : Literal) → (k ≡ l) ⊎ (k ≡ l → ⊥)
same_literal_or k l = elim (eqb_tells (word_of k) (word_of l)) [
  | inl e ↦ inl (word_once k l e.1)
  | inr e ↦ inr (λ h. e.1 (ap word_of h))
]

-- a literal of the same variable is the literal itself or its negation
pub same_or_negated : (k l : Literal) → k.var ≡ l.var → (k ≡ l) ⊎ (k ≡ negate l)
same_or_negated k l e = by_sign k.positive l.positive refl refl
  where
    by_sign : (p q : Bool) → k.positive ≡ p → l.positive ≡ q → (k ≡ l) ⊎ (k ≡ negate l)
    by_sign true true a b = inl (literal_same k l e (a ∙ sym b))
    by_sign false false a b = inl (literal_same k l e (a ∙ sym b))
    by_sign true false a b = inr (literal_same k (negate l) e (a ∙ sym (ap not b)))
    by_sign false true a b = inr (literal_same k (negate l) e (a ∙ sym (ap not b)))

sign_differs : (p : Bool) → p ≡ not p → ⊥
sign_differs true e = cc
sign_differs false e = cc

pub negate_differs : (l : Literal) → l ≡ negate l → ⊥
negate_differs l e = sign_differs l.positive (ap (λ (m : Literal). m.positive) e)

-- a list with one more literal
pub has_last : (ls : List Literal) (l : Literal) → has (ls ++ l ∷ []) l ≡ true
has_last ls l = has_from_contains (ls ++ l ∷ []) l (Contains-push ls l)

pub has_front : (ls : List Literal) (l k : Literal) → (k ≡ l → ⊥) → has (ls ++ l ∷ []) k ≡ has ls k
has_front ls l k ne = same_when (has (ls ++ l ∷ []) k) (has ls k)
    (λ h. elim (Contains-push_cases ls l k (contains_from_has (ls ++ l ∷ []) k h)) [
      | inl m ↦ has_from_contains ls k m
      | inr e ↦ absurd (ne (sym e))
    ])
    (λ h. has_from_contains (ls ++ l ∷ []) k (Contains-append_left ls (l ∷ []) k (contains_from_has ls k h)))

pub push_keeps : (trail : List Literal) (l : Literal) → Includes (has (trail ++ l ∷ [])) (has trail)
push_keeps trail l = λ k h. elim (same_literal_or k l) [
  | inl e ↦ ap (has (trail ++ l ∷ [])) e ∙ has_last trail l
  | inr ne ↦ has_front trail l k ne ∙ h
]

-- lists whose variables rise, block behind block
pub rising_to : (low high : ℕ) (ls : List Literal) → AreRising low high ls → low ≤ high
rising_to low high [] h = h
rising_to low high (l ∷ ls) h = omega (arith, h.0, rising_to l.var high ls h.1)

pub rising_from : (lower low high : ℕ) (ls : List Literal) → lower ≤ low → AreRising low high ls → AreRising lower high ls
rising_from lower low high [] le h = omega (arith, h)
rising_from lower low high (l ∷ ls) le h = (omega (arith, h.0), h.1)

pub rising_append : (low middle high : ℕ) (xs ys : List Literal) → AreRising low middle xs → AreRising middle high ys → AreRising low high (xs ++ ys)
rising_append low middle high [] ys h k = rising_from low middle high ys h k
rising_append low middle high (l ∷ xs) ys h k = (h.0, rising_append l.var middle high xs ys h.1 k)

pub rising_push : (low last : ℕ) (ls : List Literal) (l : Literal) → AreRising low last ls → last < l.var → AreRising low l.var (ls ++ l ∷ [])
rising_push low last ls l h lt = rising_append low last l.var ls (l ∷ []) h (lt, omega arith)

rising_avoids : (x low high : ℕ) (ls : List Literal) → x ≤ low → AreRising low high ls → Avoids x ls
rising_avoids x low high [] le h = tt
rising_avoids x low high (l ∷ ls) le h = ((let lt = h.0 in omega arith), rising_avoids x l.var high ls (omega (arith, h.0)) h.1)

pub rising_distinct : (low high : ℕ) (ls : List Literal) → AreRising low high ls → AreDistinct ls
rising_distinct low high [] h = tt
rising_distinct low high (l ∷ ls) h = (rising_avoids l.var l.var high ls (omega arith) h.1, rising_distinct l.var high ls h.1)

pub rising_there : (low high vars : ℕ) (ls : List Literal) → high ≤ vars → AreRising low high ls → AreThere vars ls
rising_there low high vars [] le h = tt
rising_there low high vars (l ∷ ls) le h = ((omega (arith, h.0), omega (arith, rising_to l.var high ls h.1)), rising_there l.var high vars ls le h.1)

-- lists of literals of distinct variables
pub distinct_push : (ls : List Literal) (l : Literal) → AreDistinct ls → ((k : Literal) → Contains ls k → k.var ≢ l.var) → AreDistinct (ls ++ l ∷ [])
distinct_push [] l h other = (tt, tt)
distinct_push (k ∷ ls) l h other = (
  avoids_push k.var ls l h.0 (other k (contains_first k ls)),
  distinct_push ls l h.1
      (λ m among. other m (contains_later k m ls among)),
)

avoids_front : (x : ℕ) (ls : List Literal) (l : Literal) → Avoids x (ls ++ l ∷ []) → Avoids x ls
avoids_front x [] l h = tt
avoids_front x (k ∷ ls) l h = (h.0, avoids_front x ls l h.1)

pub distinct_front : (ls : List Literal) (l : Literal) → AreDistinct (ls ++ l ∷ []) → AreDistinct ls
distinct_front [] l h = tt
distinct_front (k ∷ ls) l h = (avoids_front k.var ls l h.0, distinct_front ls l h.1)

-- two literals of one variable stand at one place
pub same_place : (ls : List Literal) (k l : Literal) → AreDistinct ls → Contains ls k → Contains ls l → k.var ≡ l.var → k ≡ l
same_place ls k l distinct a b e = elim (eqb_tells a.0 b.0) [
  | inl same ↦ sym a.2 ∙ get_or_default ls a.0 k l a.1 ∙ ap (λ i. get_or ls i l) same.1 ∙ b.2
  | inr other ↦ elim (order a.0 b.0 other.1) [
    | inl lt ↦ absurd (pairs_from_distinct ls distinct a.0 b.0 k lt b.1 (ap (λ (m : Literal). m.var) a.2 ∙ e
        ∙ sym (ap (λ (m : Literal). m.var) (get_or_default ls b.0 k l b.1 ∙ b.2))))
    | inr lt ↦ absurd (pairs_from_distinct ls distinct b.0 a.0 l lt a.1 (ap (λ (m : Literal). m.var) b.2 ∙ sym e
        ∙ sym (ap (λ (m : Literal). m.var) (get_or_default ls a.0 l k a.1 ∙ a.2))))
  ]
]
  where
    order : (i j : ℕ) → i ≢ j → (i < j) ⊎ (j < i)
    order i j ne = grind (arith)

-- such a list has no literal beside its negation
pub distinct_consistent : (ls : List Literal) → AreDistinct ls → IsConsistent (has ls)
distinct_consistent ls distinct = λ l h k. negate_differs l (same_place ls l (negate l) distinct (contains_from_has ls l h) (contains_from_has ls (negate l) k)
    refl)

-- where the variables lie
pub there_front : (vars : ℕ) (ls : List Literal) (l : Literal) → AreThere vars (ls ++ l ∷ []) → AreThere vars ls
there_front vars [] l h = tt
there_front vars (m ∷ ls) l h = (h.0, there_front vars ls l h.1)

pub there_last : (vars : ℕ) (ls : List Literal) (l : Literal) → AreThere vars (ls ++ l ∷ []) → IsThere vars l
there_last vars [] l h = h.0
there_last vars (m ∷ ls) l h = there_last vars ls l h.1

pub there_get : (vars : ℕ) (c : List Literal) (i : ℕ) (d : Literal) → i < length c → AreThere vars c → IsThere vars (get_or c i d)
there_get vars [] i d within h = absurd (omega arith)
there_get vars (l ∷ c) zero d within h = h.0
there_get vars (l ∷ c) (suc i) d within h = there_get vars c i d (omega arith) h.1

pub there_all : (vars : ℕ) (c : List Literal) → AreThere vars c → All (IsThere vars) c
there_all vars c h = λ i d within. there_get vars c i d within h

-- fronts: a literal of a front isn't the next one
pub front_includes : (trail : List Literal) (n : ℕ) → Includes (has trail) (has (take n trail))
front_includes trail n = λ l h. has_from_contains trail l (subst (λ (ls : List Literal). Contains ls l) (take-append-drop n trail)
    (Contains-append_left (take n trail) (drop n trail) l (contains_from_has (take n trail) l h)))

pub front_differs : (c : List Literal) (i : ℕ) (u d : Literal) → AreDistinct c → i < length c → Contains (take i c) u → get_or c i d ≡ u → ⊥
front_differs c i u d distinct within among e =
    let size : length (take i c) ≡ i = length-take-le i c (omega arith) in
    let j = among.0 in
    let below : j < i = let lt = among.1 in omega (arith, size, lt) in
    let at : get_or c j u ≡ u = sym (get_or-take i c j u below) ∙ among.2 in
    let same : get_or c i u ≡ u = get_or_default c i u d within ∙ e in
    pairs_from_distinct c distinct j i u below within (ap (λ (l : Literal). l.var) at ∙ sym (ap (λ (l : Literal). l.var) same))

pub front_lacks : (trail : List Literal) (front : ℕ) (l : Literal) → AreDistinct trail → front < length trail → get_or trail front l ≡ l →
    has (take front trail) l ≡ false
front_lacks trail front l distinct within e = false_from_ne_true (has (take front trail) l)
    (λ h. front_differs trail front l l distinct within (contains_from_has (take front trail) l h) e)

pub next_front : (trail : List Literal) (front : ℕ) (l : Literal) → front < length trail → get_or trail front l ≡ l →
    take (front + 1) trail ≡ take front trail ++ l ∷ []
next_front trail front l within e = take_more trail front l within ∙ ap (λ (k : Literal). take front trail ++ k ∷ []) e
