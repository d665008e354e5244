-- What each move of the trail leaves of the literals up to a level.
use Rattle.std.proofs.Common.{◌≡◌, ℕ, zero, suc, ◌+◌, ◌<◌, ◌≤◌, ◌⊎◌, true, List, [], ◌∷◌, length, take, get_or, refl, sym, ◌∙◌, ap, subst, inl, inr, arith}
use Rattle.std.proofs.Common.{length-append, length-take-le}
use Rattle.std.proofs.lemmas.Bool.{cases_lt}
use Rattle.std.proofs.lemmas.List.{take_at, take-take, get_or-take, get_or_past, get_or_default}
use Rattle.plan_core.proofs.TruthFacts.{same_when}
use Rattle.cnf_core.specs.Lit.{Literal, literal, has}
use Rattle.cnf_core.specs.Propagation.{IsIn}
use Rattle.cnf_core.proofs.PropagationLemmas.{has_from_contains}
use Rattle.watch_arena.specs.Trail.{Marks, IsMarks, IsLonger, trail_level, level_end, undone, opened, with_lit}
use Rattle.watch_arena.specs.Arena.{Attached}
use Rattle.watch_arena.proofs.WalkLemmas.{longer_unit}
use Rattle.watch_arena.proofs.CutLemmas.{level_past, level_push_before, level_of_new, level_take, level_most}
use Rattle.cdcl_learn.specs.Sight.{sight, nth, level_of}
use Rattle.cdcl_learn.specs.Levels.{upto, SameUpto}
use Rattle.cdcl_learn.proofs.LiteralLemmas.{placed_anywhere, front_in, stands}
use Rattle.cdcl_learn.proofs.LevelLemmas.{upto_parts, upto_from}

-- no literal is of a later level than the present one
pub level_low : (a : Attached) (m : Marks) (l : Literal) → IsMarks m → IsIn (has m.lits) l → level_of (sight a m) l ≤ length m.cuts
level_low a m l marks on =
    let p = placed_anywhere (sight a m) l on in
    subst (λ (k : Literal). level_of (sight a m) k ≤ length m.cuts) p.is (subst (λ n. n ≤ length m.cuts) (sym (marks.levels p.place (literal 0 true) p.within))
    (level_most m.cuts p.place))

-- up to the present level all literals count
pub upto_all : (a : Attached) (m : Marks) → IsMarks m → (l : Literal) → upto (sight a m) (length m.cuts) l ≡ has m.lits l
upto_all a m marks l = same_when (upto (sight a m) (length m.cuts) l) (has m.lits l) (λ h. (upto_parts (sight a m) (length m.cuts) l h).0)
    (λ h. upto_from (sight a m) (length m.cuts) l h (level_low a m l marks h))

-- the literals of the first trail stand in front on the second one, at the same levels; the others
-- are of level q or a later one
pub record IsFurther (m n : Marks) (q : ℕ) : Type 0 where
  pub before : IsMarks m
  pub after : IsMarks n
  pub front : take (length m.lits) n.lits ≡ m.lits
  pub longer : length m.lits ≤ length n.lits
  pub same : (i : ℕ) → i < length m.lits → trail_level n.cuts i ≡ trail_level m.cuts i
  pub later : (i : ℕ) → length m.lits ≤ i → i < length n.lits → q ≤ trail_level n.cuts i

module _ (a b : Attached) (m n : Marks) (q : ℕ) (f : IsFurther m n q) where
  pub further_nth : (i : ℕ) → i < length m.lits → nth (sight b n) i ≡ nth (sight a m) i
  further_nth i lt = sym (get_or-take (length m.lits) n.lits i (literal 0 true) lt) ∙ ap (λ (ls : List Literal). get_or ls i (literal 0 true)) f.front

  pub further_take : (i : ℕ) → i ≤ length m.lits → take i n.lits ≡ take i m.lits
  further_take i le = sym (take-take i (length m.lits) n.lits le) ∙ ap (take i) f.front

  pub further_level : (i : ℕ) → i < length m.lits → level_of (sight b n) (nth (sight b n) i) ≡ level_of (sight a m) (nth (sight a m) i)
  further_level i lt =
      let le = f.longer in
      f.after.levels i (literal 0 true) (omega arith) ∙ f.same i lt ∙ sym (f.before.levels i (literal 0 true) lt)

  pub further_later : (i : ℕ) → length m.lits ≤ i → i < length n.lits → q ≤ level_of (sight b n) (nth (sight b n) i)
  further_later i le lt = subst (λ x. q ≤ x) (sym (f.after.levels i (literal 0 true) lt)) (f.later i le lt)

  pub further_in : (l : Literal) → IsIn (has m.lits) l → IsIn (has n.lits) l
  further_in l on = front_in (sight b n) (length m.lits) l (subst (λ (ls : List Literal). IsIn (has ls) l) (sym f.front) on)

  pub further_old : (l : Literal) → IsIn (has m.lits) l → level_of (sight b n) l ≡ level_of (sight a m) l
  further_old l on =
      let p = placed_anywhere (sight a m) l on in
      ap (level_of (sight b n)) (sym (further_nth p.place p.within ∙ p.is)) ∙ further_level p.place p.within ∙ ap (level_of (sight a m)) p.is

  -- an old literal, or one of a later level
  pub record FromFurther (l : Literal) : Type 0 where
    pub cases : IsIn (has m.lits) l ⊎ (q ≤ level_of (sight b n) l)

  pub further_cases : (l : Literal) → IsIn (has n.lits) l → FromFurther l
  further_cases l on =
      let p = placed_anywhere (sight b n) l on in
      elim (cases_lt p.place (length m.lits)) [
        | inl lt ↦ record {
          cases = inl (subst (λ (k : Literal). IsIn (has m.lits) k) (sym (further_nth p.place lt)
              ∙ p.is) (has_from_contains m.lits (nth (sight a m) p.place) (stands (sight a m) p.place lt)));
        }
        | inr ge ↦ record { cases = inr (subst (λ (k : Literal). q ≤ level_of (sight b n) k) p.is (further_later p.place ge p.within)) }
      ]

  pub further_upto : (p : ℕ) (l : Literal) → IsIn (upto (sight a m) p) l → IsIn (upto (sight b n) p) l
  further_upto p l h =
      let x = upto_parts (sight a m) p l h in
      let low = x.1 in
      let e = further_old l x.0 in
      upto_from (sight b n) p l (further_in l x.0) (omega arith)

  pub back_upto : (p : ℕ) (l : Literal) → p < q → IsIn (upto (sight b n) p) l → IsIn (upto (sight a m) p) l
  back_upto p l lt h =
      let x = upto_parts (sight b n) p l h in
      let low = x.1 in
      let f = further_cases l x.0 in
      elim f.cases [
        | inl old ↦ let e = further_old l old in upto_from (sight a m) p l old (omega arith)
        | inr later ↦ absurd (omega arith)
      ]

  pub further_same : SameUpto (sight a m) (sight b n) q
  further_same = record { same = λ p l lt. same_when (upto (sight b n) p l) (upto (sight a m) p l) (λ h. back_upto p l lt h) (λ h. further_upto p l h) }

  pub back_same : (level : ℕ) → level ≤ q → SameUpto (sight b n) (sight a m) level
  back_same level le = record {
    same = λ p l lt. same_when (upto (sight a m) p l) (upto (sight b n) p l) (λ h. further_upto p l h) (λ h. back_upto p l (omega arith) h);
  }

-- further literals of the present level
pub further_longer : (m n : Marks) → IsMarks m → IsMarks n → IsLonger m n → IsFurther m n (length m.cuts)
further_longer m n before after more = record {
  before = before;
  after = after;
  front = more.front;
  longer = more.longer;
  same = λ i lt. ap (λ (cs : List ℕ). trail_level cs i) more.cuts;
  later = λ i le lt.
      let cuts = before.cuts in
      let e : trail_level m.cuts i ≡ length m.cuts = level_past m.cuts i (λ k within. let low = cuts.below k within in omega arith) in
      let same : trail_level n.cuts i ≡ trail_level m.cuts i = ap (λ (cs : List ℕ). trail_level cs i) more.cuts in
      omega arith;
}

pub further_lit : (m : Marks) (l : Literal) (reason : ℕ) → IsMarks m → IsMarks (with_lit m l reason) → IsFurther m (with_lit m l reason) (length m.cuts)
further_lit m l reason before after = further_longer m (with_lit m l reason) before after (longer_unit m l reason)

-- a decision
pub further_decided : (m : Marks) (l : Literal) → IsMarks m → IsMarks (with_lit (opened m) l 0) → IsFurther m (with_lit (opened m) l 0) (length m.cuts + 1)
further_decided m l before after = record {
  before = before;
  after = after;
  front = take_at m.lits (l ∷ []) (length m.lits) refl;
  longer = omega (arith, length-append m.lits (l ∷ []));
  same = λ i lt. level_push_before m.cuts (length m.lits) i lt;
  later = λ i le lt.
      let cuts = before.cuts in
      let e : trail_level m.cuts i ≡ length m.cuts = level_past m.cuts i (λ k within. let low = cuts.below k within in omega arith) in
      let more = level_of_new m.cuts (length m.lits) i le in
      omega arith;
}

-- undoing
pub undone_size : (m : Marks) (level : ℕ) → IsMarks m → level ≤ length m.cuts → length (undone m level).lits ≡ level_end m level
undone_size m level marks le = length-take-le (level_end m level) m.lits within
  where
    within : level_end m level ≤ length m.lits
    within = elim (cases_lt level (length m.cuts)) [
      | inl lt ↦
          let cuts = marks.cuts in
          let below = cuts.below level lt in
          let same : get_or m.cuts level (length m.lits) ≡ get_or m.cuts level 0 = get_or_default m.cuts level (length m.lits) 0 lt in
          omega arith
      | inr ge ↦ let e : level_end m level ≡ length m.lits = get_or_past m.cuts level (length m.lits) ge in omega arith
    ]

-- a place from which on levels are later
pub level_behind : (m : Marks) (level i : ℕ) → IsMarks m → level ≤ length m.cuts → level_end m level ≤ i → i < length m.lits → level + 1 ≤ trail_level m.cuts i
level_behind m level i marks le from lt = elim (cases_lt level (length m.cuts)) [
  | inl below ↦
      let cuts = marks.cuts in
      let same : get_or m.cuts level (length m.lits) ≡ get_or m.cuts level 0 = get_or_default m.cuts level (length m.lits) 0 below in
      let front : trail_level (take (level + 1) m.cuts) i ≡ length (take (level + 1) m.cuts) = level_past (take (level + 1) m.cuts) i (λ k within.
      let size = length-take-le (level + 1) m.cuts (omega arith) in
      let read : get_or (take (level + 1) m.cuts) k 0 ≡ get_or m.cuts k 0 = get_or-take (level + 1) m.cuts k 0 (omega arith) in
      elim (cases_lt k level) [
        | inl low ↦ let up = cuts.rise k level low below in omega arith
        | inr ge ↦ let is : level ≡ k = omega arith in let at : get_or m.cuts level 0 ≡ get_or m.cuts k 0 = ap (λ j. get_or m.cuts j 0) is in omega arith
      ]) in
      let size = length-take-le (level + 1) m.cuts (omega arith) in
      let more = taken_less (level + 1) m.cuts i in
      omega arith
  | inr ge ↦ let e : level_end m level ≡ length m.lits = get_or_past m.cuts level (length m.lits) ge in absurd (omega arith)
]
  where
    taken_less : (n : ℕ) (cuts : List ℕ) (i : ℕ) → trail_level (take n cuts) i ≤ trail_level cuts i
    taken_less zero cuts i = omega arith
    taken_less (suc n) [] i = omega arith
    taken_less (suc n) (c ∷ cuts) i = omega (arith, taken_less n cuts i)

pub further_undone : (m : Marks) (level : ℕ) → IsMarks m → IsMarks (undone m level) → level ≤ length m.cuts → IsFurther (undone m level) m (level + 1)
further_undone m level marks after le =
    let size = undone_size m level marks le in
    record {
      before = after;
      after = marks;
      front = ap (λ n. take n m.lits) size;
      longer = (let w = length-take-short (level_end m level) m.lits in omega arith);
      same = λ i lt. sym (level_take m.cuts level i (λ k from within.
          let cuts = marks.cuts in
          elim (cases_lt level k) [
            | inl low ↦
                let up = cuts.rise level k low within in
                let same : get_or m.cuts level (length m.lits) ≡ get_or m.cuts level 0 = get_or_default m.cuts level (length m.lits) 0 (omega arith) in
                omega arith
            | inr ge ↦
                let is : level ≡ k = omega arith in
                let at : get_or m.cuts level 0 ≡ get_or m.cuts k 0 = ap (λ j. get_or m.cuts j 0) is in
                let same : get_or m.cuts level (length m.lits) ≡ get_or m.cuts level 0 = get_or_default m.cuts level (length m.lits) 0 (omega arith) in
                omega arith
          ]));
      later = λ i from lt. level_behind m level i marks le (omega arith) lt;
    }
  where
    length-take-short : (n : ℕ) (ls : List Literal) → length (take n ls) ≤ length ls
    length-take-short zero ls = omega arith
    length-take-short (suc n) [] = omega arith
    length-take-short (suc n) (l ∷ ls) = omega (arith, length-take-short n ls)
