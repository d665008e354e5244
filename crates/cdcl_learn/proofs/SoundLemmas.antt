-- What learning takes from the contracts of the arena and of the trail.
use Rattle.std.proofs.Common.{◌≡◌, ℕ, ◌<◌, ◌≤◌, zero, true, List, [], ◌∷◌, length, take, get_or, refl, sym, ◌∙◌, subst, inl, inr, arith}
use Rattle.std.specs.Prelude.{Contains}
use Rattle.std.proofs.lemmas.Bool.{cases_lt}
use Rattle.std.proofs.lemmas.List.{get_or_default}
use Rattle.std.proofs.lemmas.List.Elements.{Contains-get_or}
use Rattle.cnf_core.specs.Lit.{Literal, literal, negate, has}
use Rattle.cnf_core.specs.Clause.{AreThere}
use Rattle.cnf_core.specs.Propagation.{IsIn, IsUnit}
use Rattle.cnf_core.proofs.PropagationLemmas.{contains_from_has}
use Rattle.watch_arena.specs.Trail.{Marks, IsMarks, trail_level}
use Rattle.watch_arena.specs.Arena.{Attached, AreAttached, AreReasoned, attached_at}
use Rattle.watch_arena.proofs.CutLemmas.{level_most, level_rise, level_step, level_take}
use Rattle.cdcl_learn.specs.Sight.{sight, IsSound}

not_zero : (p : ℕ) → 1 ≤ p → p ≡ 0 → ⊥
not_zero p some z = absurd (omega arith)

-- before the first level above 0
level_zero : (cuts : List ℕ) (i : ℕ) → ((n : ℕ) → Contains cuts n → i < n) → trail_level cuts i ≡ 0
level_zero [] i h = refl
level_zero (n ∷ cuts) i h = sym (level_take (n ∷ cuts) zero i (λ k _ lt. h (get_or (n ∷ cuts) k 0) (Contains-get_or (n ∷ cuts) k 0 lt)))

stands_there : (m : Marks) (i : ℕ) → i < length m.lits → get_or m.lits i (get_or m.lits i (literal 0 true)) ≡ get_or m.lits i (literal 0 true)
stands_there m i lt = sym (get_or_default m.lits i (literal 0 true) (get_or m.lits i (literal 0 true)) lt)

-- the levels, reasons and clauses are sound
pub sound_texts : (a : Attached) (m : Marks) → ((p : ℕ) → Contains a.places p → AreThere m.vars (attached_at a p)) → IsMarks m → AreReasoned a m →
    IsSound (sight a m)
sound_texts a m texts marks reasoned = record {
  distinct = marks.distinct;
  there = marks.there;
  clauses = texts;
  present = λ i lt. subst (λ n. n ≤ length m.cuts) (sym (marks.levels i (literal 0 true) lt)) (level_most m.cuts i);
  rise = λ i j lt within.
      subst (λ n. n ≤ get_or m.levels (get_or m.lits j (literal 0 true)).var 0) (sym (marks.levels i (literal 0 true) (omega arith)))
      (subst (λ n. trail_level m.cuts i ≤ n) (sym (marks.levels j (literal 0 true) within)) (level_rise m.cuts i j (omega arith)));
  reason = λ i p lt e some.
      let r = reasoned.reason i (get_or m.lits i (literal 0 true)) lt (stands_there m i lt) (λ z. not_zero p some (sym e ∙ z)) in
      record {
        place = subst (λ n. Contains a.places n) e r.place;
        unit = subst (λ n. IsUnit (has (take i m.lits)) (attached_at a n) (get_or m.lits i (literal 0 true))) e r.unit;
      };
  decided = λ i j lt within same above.
      elim (cases_lt 0 (get_or m.reasons (get_or m.lits j (literal 0 true)).var 0)) [
        | inl some ↦ some
        | inr none ↦
            let here = marks.levels i (literal 0 true) (omega arith) in
            let there = marks.levels j (literal 0 true) within in
            let z : get_or m.reasons (get_or m.lits j (literal 0 true)).var 0 ≡ 0 = omega arith in
            elim (reasoned.decided j (get_or m.lits j (literal 0 true)) within (stands_there m j within) z) [
              | inl begins ↦ let up = level_step m.cuts j i j begins lt (omega arith) in absurd
                  (differ (trail_level m.cuts i) (trail_level m.cuts j) up (sym here ∙ same ∙ there))
              | inr later ↦ absurd (differ 0 (trail_level m.cuts j) (subst (λ n. 0 < n) there above) (sym (level_zero m.cuts j later)))
            ]
      ];
}
  where
    differ : (p q : ℕ) → p < q → p ≡ q → ⊥
    differ p q lt e = absurd (omega arith)

pub sound_sight : (a : Attached) (m : Marks) → a.vars ≡ m.vars → AreAttached a → IsMarks m → AreReasoned a m → IsSound (sight a m)
sound_sight a m vars attached marks reasoned = sound_texts a m (λ p at. let c = attached p at in subst (λ n. AreThere n (attached_at a p)) vars c.there) marks
    reasoned

-- the reason of a false literal is a clause
pub reason_place : (a : Attached) (m : Marks) (l : Literal) (p : ℕ) → AreReasoned a m → IsIn (has m.lits) (negate l) → get_or m.reasons l.var 0 ≡ p → 1 ≤ p →
    Contains a.places p
reason_place a m l p reasoned on e some =
    let c = contains_from_has m.lits (negate l) on in
    let r = reasoned.reason c.0 (negate l) c.1 c.2 (λ z. not_zero p some (sym e ∙ z)) in
    subst (λ n. Contains a.places n) e r.place
