-- The literal of the latest level is put first.
use Rattle.std.proofs.Common.{◌≡◌, ℕ, ◌<◌, ◌≤◌, ◌⊎◌, cond, nat_eq, zero, suc, take, List, [], ◌∷◌, length, get_or, set, refl, sym, ◌∙◌, ap, subst, inl, inr}
use Rattle.std.proofs.Common.{arith, length-set, length-take-le}
use Rattle.std.specs.Prelude.{All, Contains}
use Rattle.std.proofs.lemmas.Bool.{cases_eq, cases_order, eq-eqb, ne_eqb}
use Rattle.std.proofs.lemmas.List.{get_or_default, get_or-set_same, get_or-set_other, get_or-take}
use Rattle.std.proofs.lemmas.List.Elements.{All-contains, All-contains_itself, All-weaker, All-cons, All-head, All-tail}
use Rattle.cnf_core.specs.Lit.{Literal, negate, has}
use Rattle.cnf_core.specs.Clause.{AreDistinct, IsNamed}
use Rattle.cnf_core.specs.Propagation.{negations, IsIn}
use Rattle.cnf_core.proofs.PropagationLemmas.{contains_from_has, has_from_contains, closure_start, falsifies_again, contains_first, contains_later}
use Rattle.cnf_core.proofs.QuantifierLemmas.{pairs_from_distinct, distinct_from_pairs}
use Rattle.cdcl_learn.specs.Sight.{Sight, level_of, clauses_in, known, IsSound}
use Rattle.cdcl_learn.specs.Cut.{IsLearnt, IsBack, IsShuffle, IsLatest}
use Rattle.cdcl_learn.proofs.LiteralLemmas.{avoids_all, there_contains}

-- the literals of one list stand in the other
abbrev pub Within : List Literal → List Literal → Type 0
Within now old = (k : Literal) → Contains now k → Contains old k

pub all_within : (P : Literal → Type 0) (now old : List Literal) → Within now old → All P old → All P now
all_within P now old w h = All-weaker (Contains now) P (λ k among. All-contains P old k h (w k among)) now (All-contains_itself now)

pub with_within : (P : Literal → Type 0) (first : Literal) (old now : List Literal) → Within now old → All P (first ∷ old) → All P (first ∷ now)
with_within P first old now w h = All-cons P first now (All-head P first old h) (all_within P now old w (All-tail P first old h))

pub contains_rest : (first k : Literal) (ls : List Literal) → Contains (first ∷ ls) k → (first ≡ k) ⊎ Contains ls k
contains_rest first k ls c = by_place c.0 c.1 c.2
  where
    by_place : (i : ℕ) → i < length (first ∷ ls) → get_or (first ∷ ls) i k ≡ k → (first ≡ k) ⊎ Contains ls k
    by_place zero lt e = inl e
    by_place (suc i) lt e = inr (i, omega arith, e)

-- the order of a learnt clause's further literals doesn't matter
pub learnt_same : (s : Sight) (first : Literal) (old now : List Literal) → Within now old → Within old now → AreDistinct now → IsLearnt s first old →
    IsLearnt s first now
learnt_same s first old now into from distinct l = record {
  falsified = with_first (λ k. IsIn (has s.lits) (negate k)) l.falsified;
  above = with_first (λ k. 0 < level_of s k) l.above;
  present = l.present;
  lower = all_within (λ k. level_of s k < s.level) now old into l.lower;
  distinct = (
    avoids_all first.var now (λ k among same.
        let below : level_of s k < s.level = All-contains (λ m. level_of s m < s.level) old k l.lower (into k among) in
        let e = l.present in
        let lvl : level_of s first ≡ level_of s k = ap (λ v. get_or s.levels v 0) same in
        absurd (omega arith)),
    distinct,
  );
  named = with_first (λ k. IsNamed (clauses_in s) k.var) l.named;
  rup = falsifies_again (known s) (negations (first ∷ now)) (negations (first ∷ old)) (λ k h. closure_start (known s) (negations (first ∷ now)) k
      (has_from_contains (first ∷ now) (negate k) (elim (contains_rest first (negate k) old (contains_from_has (first ∷ old) (negate k) h)) [
        | inl e ↦ subst (λ (m : Literal). Contains (first ∷ now) m) e (contains_first first now)
        | inr c ↦ contains_later first (negate k) now (from (negate k) c)
      ]))) l.rup;
}
  where
    with_first : (P : Literal → Type 0) → All P (first ∷ old) → All P (first ∷ now)
    with_first P h = All-cons P first now (All-head P first old h) (all_within P now old into (All-tail P first old h))

pub shuffle_into : (old now : List Literal) → IsShuffle old now → Within now old
shuffle_into old now s k c =
    let lt = c.1 in
    let size = s.size in
    (s.to c.0, s.within c.0 (omega arith), sym (s.same c.0 k (omega arith)) ∙ c.2)

pub shuffle_from : (old now : List Literal) → IsShuffle old now → Within old now
shuffle_from old now s k c =
    let lt = c.1 in
    let size = s.size in
    let there = s.within c.0 lt in
    (s.to c.0, omega arith, s.same (s.to c.0) k there ∙ ap (λ i. get_or old i k) (s.again c.0 lt) ∙ c.2)

pub shuffle_distinct : (old now : List Literal) → IsShuffle old now → AreDistinct old → AreDistinct now
shuffle_distinct old now s distinct = distinct_from_pairs now (λ i j d lt within e.
    let size = s.size in
    let a = s.within i (omega arith) in
    let b = s.within j (omega arith) in
    let same : (get_or old (s.to i) d).var ≡ (get_or old (s.to j) d).var = sym (ap (λ (m : Literal). m.var) (s.same i d (omega arith))) ∙ e
    ∙ ap (λ (m : Literal). m.var) (s.same j d (omega arith)) in
    elim (cases_order (s.to i) (s.to j)) [
      | inl x ↦ let y : i ≡ j = sym (s.again i (omega arith)) ∙ ap s.to x ∙ s.again j (omega arith) in absurd (omega arith)
      | inr o ↦ elim o [
        | inl x ↦ absurd (pairs_from_distinct old distinct (s.to i) (s.to j) d x b same)
        | inr x ↦ absurd
            (pairs_from_distinct old distinct (s.to j) (s.to i) d x a (sym same))
      ]
    ])

-- the first and another literal change places
swap_of : ℕ → ℕ → ℕ
swap_of j i = cond (nat_eq i 0) j (cond (nat_eq i j) 0 i)

swap_first : (j : ℕ) → swap_of j 0 ≡ j
unfolding swap_of
swap_first j = refl

swap_at : (j i : ℕ) → i ≡ j → swap_of j i ≡ 0
unfolding swap_of
swap_at j i e = elim (cases_eq i 0) [
  | inl z ↦ rw (eq-eqb i 0 z) (sym e ∙ z)
  | inr nz ↦ rw (ne_eqb i 0 nz, eq-eqb i j e) refl
]

swap_other : (j i : ℕ) → (i ≡ 0 → ⊥) → (i ≡ j → ⊥) → swap_of j i ≡ i
unfolding swap_of
swap_other j i nz nj = rw (ne_eqb i 0 nz, ne_eqb i j nj) refl

swap_get : (old : List Literal) (j i : ℕ) (a b d : Literal) → j < length old → i < length old → a ≡ get_or old 0 a → b ≡ get_or old j b →
    get_or (set (set old 0 b) j a) i d ≡ get_or old (swap_of j i) d
swap_get old j i a b d lt h ea eb = elim (cases_eq i j) [
  | inl e ↦
      let size = length-set old 0 b in
      ap (λ x. get_or (set (set old 0 b) j a) x d) e ∙ get_or-set_same (set old 0 b) j a d (omega arith) ∙ ea ∙ get_or_default old 0 a d (omega arith)
      ∙ sym (ap (λ x. get_or old x d) (swap_at j i e))
  | inr ne ↦ get_or-set_other (set old 0 b) j i a d ne ∙ elim (cases_eq i 0) [
    | inl z ↦ ap (λ x. get_or (set old 0 b) x d) z ∙ get_or-set_same old 0 b d (omega arith) ∙ eb ∙ get_or_default old j b d lt
        ∙ sym (ap (λ x. get_or old x d) (ap (swap_of j) z ∙ swap_first j))
    | inr nz ↦ get_or-set_other old 0 i b d nz ∙ sym (ap (λ x. get_or old x d) (swap_other j i nz ne))
  ]
]

swap_inside : (j i len : ℕ) → j < len → i < len → swap_of j i < len
swap_inside j i len lt h = elim (cases_eq i 0) [
  | inl z ↦ let e : swap_of j i ≡ j = ap (swap_of j) z ∙ swap_first j in omega arith
  | inr nz ↦ elim (cases_eq i j) [ inl e ↦ let f = swap_at j i e in omega arith | inr ne ↦ let f = swap_other j i nz ne in omega arith ]
]

swap_again : (j i : ℕ) → swap_of j (swap_of j i) ≡ i
swap_again j i = elim (cases_eq i 0) [
  | inl z ↦ ap (λ x. swap_of j (swap_of j x)) z ∙ ap (swap_of j) (swap_first j) ∙ swap_at j j refl ∙ sym z
  | inr nz ↦ elim (cases_eq i j) [
    | inl e ↦ ap (swap_of j) (swap_at j i e) ∙ swap_first j ∙ sym e
    | inr ne ↦ ap (swap_of j) (swap_other j i nz ne)
        ∙ swap_other j i nz ne
  ]
]

pub swap_shuffle : (old : List Literal) (j len : ℕ) (a b : Literal) → j < len → len ≤ length old → a ≡ get_or old 0 a → b ≡ get_or old j b →
    IsShuffle (take len old) (take len (set (set old 0 b) j a))
swap_shuffle old j len a b lt le ea eb =
    let size1 = length-set old 0 b in
    let size2 = length-set (set old 0 b) j a in
    let len1 = length-take-le len old le in
    let len2 = length-take-le len (set (set old 0 b) j a) (omega arith) in
    record {
      size = omega arith;
      to = swap_of j;
      within = λ i h. let x = swap_inside j i len lt (omega arith) in omega arith;
      again = λ i h. swap_again j i;
      same = λ i d h.
          let x = swap_inside j i len lt (omega arith) in
          get_or-take len (set (set old 0 b) j a) i d (omega arith) ∙ swap_get old j i a b d (omega arith) (omega arith) ea eb
          ∙ sym (get_or-take len old (swap_of j i) d x);
    }

-- the first has the latest level
pub swap_back : (s : Sight) (old : List Literal) (j len : ℕ) (a b : Literal) (back : ℕ) → j < len → len ≤ length old → a ≡ get_or old 0 a → b ≡ get_or old j b →
    level_of s b ≡ back → ((i : ℕ) (d : Literal) → i < len → level_of s (get_or old i d) ≤ back) → IsBack s (take len (set (set old 0 b) j a)) back
swap_back s old j len a b back lt le ea eb e most =
    let size1 = length-set old 0 b in
    let size2 = length-set (set old 0 b) j a in
    let len2 = length-take-le len (set (set old 0 b) j a) (omega arith) in
    record {
      first = λ l ls is.
          let read : get_or (take len (set (set old 0 b) j a)) 0 l ≡ l = ap (λ (xs : List Literal). get_or xs 0 l) is in
          let same : l ≡ get_or old j l = sym read ∙ get_or-take len (set (set old 0 b) j a) 0 l (omega arith)
          ∙ swap_get old j 0 a b l (omega arith) (omega arith) ea eb ∙ ap (λ x. get_or old x l) (swap_first j) in
          ap (level_of s) (same ∙ get_or_default old j l b (omega arith) ∙ sym eb) ∙ e;
      none = λ is. let z : length (take len (set (set old 0 b) j a)) ≡ 0 = ap length is in absurd (omega arith);
      latest = λ i d h.
          let x = swap_inside j i len lt (omega arith) in
          let m = most (swap_of j i) d x in
          let same : get_or (take len (set (set old 0 b) j a)) i d ≡ get_or old (swap_of j i) d = get_or-take len (set (set old 0 b) j a) i d (omega arith)
          ∙ swap_get old j i a b d (omega arith) (omega arith) ea eb in
          subst (λ (k : Literal). level_of s k ≤ back) (sym same) m;
    }

pub shuffle_none : (xs : List Literal) → IsShuffle xs xs
shuffle_none xs = record { size = refl; to = λ i. i; within = λ i h. h; again = λ i h. refl; same = λ i d h. refl }

pub latest_at : (s : Sight) (items slice : List Literal) (len best : ℕ) (b : Literal) (back : ℕ) → slice ≡ items → IsLatest s.levels slice len best →
    best < len → len ≤ length items → b ≡ get_or items best b → level_of s b ≡ back → (i : ℕ) (d : Literal) → i < len → level_of s (get_or items i d) ≤ back
latest_at s items slice len best b back same latest below le eb e i d lt =
    let h : level_of s (get_or items i d) ≤ level_of s (get_or items best d) = subst
    (λ (ls : List Literal). level_of s (get_or ls i d) ≤ level_of s (get_or ls best d)) same (latest i d lt) in
    let is : level_of s (get_or items best d) ≡ back = ap (level_of s) (get_or_default items best d b (omega arith) ∙ sym eb) ∙ e in
    omega arith

pub back_none : (s : Sight) (rest : List Literal) → length rest ≡ 0 → IsBack s rest 0
back_none s [] z = record {
  first = λ l ls e. absurd (let f : length (l ∷ ls) ≡ 0 = sym (ap length e) in omega arith);
  none = λ _. refl;
  latest = λ k d lt. absurd (omega arith);
}
back_none s (l ∷ ls) z = absurd (omega arith)

-- the clause once the literal of the latest level was put first
pub learnt_shuffled : (s : Sight) (first : Literal) (old now : List Literal) → IsShuffle old now → IsLearnt s first old → IsLearnt s first now
learnt_shuffled s first old now h l = learnt_same s first old now (shuffle_into old now h) (shuffle_from old now h) (shuffle_distinct old now h l.distinct.1) l

pub learnt_vars : (s : Sight) (first : Literal) (rest : List Literal) → IsSound s → IsLearnt s first rest → All (λ k. k.var ≤ s.vars) rest
learnt_vars s first rest r l = All-weaker (λ k. IsIn (has s.lits) (negate k)) (λ k. k.var ≤ s.vars)
    (λ k on. (there_contains s.vars s.lits (negate k) r.there (contains_from_has s.lits (negate k) on)).1) rest
    (All-tail (λ k. IsIn (has s.lits) (negate k)) first rest l.falsified)
