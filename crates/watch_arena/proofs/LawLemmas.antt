-- What levels say of a trail, and which literals may be watched.
use Rattle.std.proofs.Common.{◌≡◌, ℕ, ◌+◌, ◌<◌, ◌≤◌, ◌⊎◌, zero, suc, List, [], ◌∷◌, length, take, get_or, true, false, sym, ◌∙◌, ap, subst, inl, inr, arith}
use Rattle.std.proofs.Common.{length-take-le}
use Rattle.std.specs.Prelude.{◌↔◌}
use Rattle.std.proofs.lemmas.Bool.{cases_lt}
use Rattle.std.proofs.lemmas.List.{get_or-take, get_or_past, get_or_default}
use Rattle.cnf_core.specs.Lit.{Literal, negate, has}
use Rattle.cnf_core.specs.Propagation.{IsIn}
use Rattle.cnf_core.proofs.PropagationLemmas.{contains_from_has, has_from_contains}
use Rattle.cnf_core.proofs.TrailLemmas.{front_includes}
use Rattle.watch_arena.specs.Trail.{Marks, IsMarks, level_end, undone, trail_level, with_lit}
use Rattle.watch_arena.specs.Walk.{AreRight}
use Rattle.watch_arena.specs.Arena.{AreOpen, MayBeWatched, IsHeldBy, IsAsserting}
use Rattle.watch_arena.proofs.CutLemmas.{level_rise, level_most, level_past, level_take}
use Rattle.watch_arena.proofs.LevelLemmas.{end_within, right_open, right_other, right_held, right_set, held_by_level, late_by_level}

pub never_fall : (m : Marks) (i j : ℕ) (d : Literal) → IsMarks m → i ≤ j → j < length m.lits →
    get_or m.levels (get_or m.lits i d).var 0 ≤ get_or m.levels (get_or m.lits j d).var 0
never_fall m i j d marks le lt =
    let here = marks.levels i d (omega arith) in
    let there = marks.levels j d lt in
    let rise = level_rise m.cuts i j le in
    omega arith

taken_less : (n : ℕ) (cuts : List ℕ) (i : ℕ) → trail_level (take n cuts) i ≤ trail_level cuts i
taken_less zero cuts i = omega arith
taken_less (suc n) [] i = omega arith
taken_less (suc n) (c ∷ cuts) i = omega (arith, taken_less n cuts i)

module _ (m : Marks) (level : ℕ) (marks : IsMarks m) (le : level ≤ length m.cuts) where
  -- levels that begin after this one begin no earlier than its end
  begins_late : (k : ℕ) → level ≤ k → k < length m.cuts → level_end m level ≤ get_or m.cuts k 0
  begins_late k from within =
      let cuts = marks.cuts in
      let below : level < length m.cuts = omega arith in
      let same : get_or m.cuts level (length m.lits) ≡ get_or m.cuts level 0 = get_or_default m.cuts level (length m.lits) 0 below in
      elim (cases_lt level k) [
        | inl low ↦ let up = cuts.rise level k low within in omega arith
        | inr ge ↦ let is : level ≡ k = omega arith in let at : get_or m.cuts level 0 ≡ get_or m.cuts k 0 = ap (λ j. get_or m.cuts j 0) is in omega arith
      ]

  -- and those up to the next one no later
  begins_early : (k : ℕ) → k < level + 1 → level < length m.cuts → get_or m.cuts k 0 ≤ level_end m level
  begins_early k lt below =
      let cuts = marks.cuts in
      let same : get_or m.cuts level (length m.lits) ≡ get_or m.cuts level 0 = get_or_default m.cuts level (length m.lits) 0 below in
      elim (cases_lt k level) [
        | inl low ↦ let up = cuts.rise k level low below in omega arith
        | inr ge ↦ let is : level ≡ k = omega arith in let at : get_or m.cuts level 0 ≡ get_or m.cuts k 0 = ap (λ j. get_or m.cuts j 0) is in omega arith
      ]

  level_before : (i : ℕ) → i < level_end m level → trail_level m.cuts i ≤ level
  level_before i lt =
      let same = level_take m.cuts level i (λ k from within. let late = begins_late k from within in omega arith) in
      let most = level_most (take level m.cuts) i in
      let size = length-take-le level m.cuts le in
      omega arith

  level_after : (i : ℕ) → level_end m level ≤ i → i < length m.lits → level < trail_level m.cuts i
  level_after i from lt = elim (cases_lt level (length m.cuts)) [
    | inl below ↦
        let size = length-take-le (level + 1) m.cuts (omega arith) in
        let all : trail_level (take (level + 1) m.cuts) i ≡ length (take (level + 1) m.cuts) = level_past (take (level + 1) m.cuts) i (λ k within.
        let read : get_or (take (level + 1) m.cuts) k 0 ≡ get_or m.cuts k 0 = get_or-take (level + 1) m.cuts k 0 (omega arith) in
        let early = begins_early k (omega arith) below in
        omega arith) in
        let less = taken_less (level + 1) m.cuts i in
        omega arith
    | inr ge ↦ let e : level_end m level ≡ length m.lits = get_or_past m.cuts level (length m.lits) ge in absurd (omega arith)
  ]

  left_is_low : (l : Literal) → IsIn (has (take (level_end m level) m.lits)) l → IsIn (has m.lits) l × (get_or m.levels l.var 0 ≤ level)
  left_is_low l h =
      let c = contains_from_has (take (level_end m level) m.lits) l h in
      let within = end_within m level marks le in
      let size = length-take-le (level_end m level) m.lits within in
      let lt = c.1 in
      let at : get_or m.lits c.0 l ≡ l = sym (get_or-take (level_end m level) m.lits c.0 l (omega arith)) ∙ c.2 in
      let of : get_or m.levels l.var 0 ≡ trail_level m.cuts c.0 = ap (λ (k : Literal). get_or m.levels k.var 0) (sym at) ∙ marks.levels c.0 l (omega arith) in
      let low = level_before c.0 (omega arith) in
      (front_includes m.lits (level_end m level) l h, omega arith)

  low_is_left : (l : Literal) → IsIn (has m.lits) l → get_or m.levels l.var 0 ≤ level → IsIn (has (take (level_end m level) m.lits)) l
  low_is_left l on low =
      let c = contains_from_has m.lits l on in
      let within = end_within m level marks le in
      let size = length-take-le (level_end m level) m.lits within in
      let lt = c.1 in
      let of : get_or m.levels l.var 0 ≡ trail_level m.cuts c.0 = ap (λ (k : Literal). get_or m.levels k.var 0) (sym c.2) ∙ marks.levels c.0 l lt in
      elim (cases_lt c.0 (level_end m level)) [
        | inl small ↦ has_from_contains (take (level_end m level) m.lits) l (c.0, omega arith, get_or-take (level_end m level) m.lits c.0 l small ∙ c.2)
        | inr big ↦ let high = level_after c.0 big lt in absurd (omega arith)
      ]

pub undone_low : (m : Marks) (level : ℕ) (l : Literal) → IsMarks m → level ≤ length m.cuts →
    (IsIn (has (undone m level).lits) l ↔ (IsIn (has m.lits) l × (get_or m.levels l.var 0 ≤ level)))
undone_low m level l marks le = (left_is_low m level marks le l, λ h. low_is_left m level marks le l h.0 h.1)

pub may_open : (m : Marks) (k l : Literal) → AreOpen m k l → AreRight m k l
may_open m k l open_ = right_open m k l open_.first open_.second

pub may_held : (m : Marks) (k l : Literal) → IsMarks m → (IsHeldBy m k l ⊎ IsHeldBy m l k) → AreRight m k l
may_held m k l marks (inl h) = right_held m k l marks (held_by_level m k l marks h)
may_held m k l marks (inr h) = right_other m k l (right_held m l k marks (held_by_level m l k marks h))

pub may_asserted : (m : Marks) (k l : Literal) (reason : ℕ) → IsMarks m → IsAsserting m k l → AreRight (with_lit m k reason) k l
may_asserted m k l reason marks asserts = right_set m k l reason marks asserts.first (late_by_level m l marks asserts.level)

-- on a trail without literals no literal is false
none_false : (lits : List Literal) (l : Literal) → lits ≡ [] → IsIn (has lits) l → ⊥
none_false lits l e h = clash (subst (λ (ls : List Literal). has ls l ≡ true) e h)
  where
    clash : false ≡ true → ⊥
    clash x = cc

-- on a trail without literals any two may be watched
pub may_be_watched : (m : Marks) (lits : List Literal) → m.lits ≡ [] → 2 ≤ length lits → MayBeWatched m lits
may_be_watched m [] e two = absurd (omega arith)
may_be_watched m (k ∷ []) e two = absurd (omega arith)
may_be_watched m (k ∷ l ∷ lits) e two = may_open m k l (record { first = none_false m.lits (negate k) e; second = none_false m.lits (negate l) e })
