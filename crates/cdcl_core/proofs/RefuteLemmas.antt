-- Clauses of negated assumptions.
use Rattle.std.proofs.Common.{◌≡◌, ℕ, ◌+◌, ◌<◌, ◌≤◌, Bool, true, List, [], ◌∷◌, ◌++◌, length, get_or, sym, ◌∙◌, ap, subst, inl, inr, arith}
use Rattle.std.specs.Prelude.{Contains}
use Rattle.std.proofs.lemmas.Bool.{cases_lt}
use Rattle.std.proofs.lemmas.List.{get_or_default}
use Rattle.std.proofs.lemmas.List.Elements.{All-cons, All-weaker, All-contains_itself, Contains-push, Contains-push_cases, Contains-append_left}
use Rattle.cnf_core.specs.Lit.{Literal, literal, negate}
use Rattle.cnf_core.specs.Clause.{Clauses, AreDistinct, AreThere, IsThere}
use Rattle.cnf_core.proofs.PropagationLemmas.{negate-negate, contains_from_has, has_from_contains, among_left}
use Rattle.cnf_core.proofs.TrailLemmas.{distinct_push}
use Rattle.watch_arena.specs.Trail.{Marks, IsMarks}
use Rattle.watch_arena.specs.Arena.{Attached, IsClashOf, attached_clauses}
use Rattle.cdcl_learn.specs.Sight.{Sight, sight, IsSound}
use Rattle.cdcl_learn.specs.Trace.{IsDecision, IsTraced, IsTracedOf}
use Rattle.cdcl_learn.specs.Analysis.{IsImpliedFalse}
use Rattle.cdcl_learn.proofs.LiteralLemmas.{same_place, placed_anywhere, there_contains}
use Rattle.cdcl_learn.proofs.TraceLemmas.{decisions_rup}
use Rattle.cdcl_core.specs.Roots.{all_of, IsGrounded, IsAssuming}
use Rattle.cdcl_core.specs.Search.{AreDenied, IsDeniedAt, DeniedUpto, IsFalse, IsRefuting}
use Rattle.cdcl_core.proofs.MoveLemmas.{level_low}
use Rattle.cdcl_core.proofs.RootLemmas.{rup_down}
use Rattle.cdcl_core.proofs.SolvingLemmas.{grounded_sound}
use Rattle.cdcl_core.proofs.LearnLemmas.{there_by}

-- a decided literal is an assumption
assumed : (a : Attached) (m : Marks) (query : List Literal) (q n : ℕ) (k : Literal) → IsMarks m → length m.cuts ≤ q → IsFalse m k →
    get_or m.reasons k.var 0 ≡ 0 → 0 < get_or m.levels k.var 0 → IsAssuming query (sight a m) q n → Contains query (negate k)
assumed a m query q n k marks low off none above asking = asking.only (negate k) off none above (let most = level_low a m (negate k) marks off in omega arith)

pub denied_refuting : (a : Attached) (m : Marks) (own : Clauses) (refuted : Bool) (query c : List Literal) (q n p : ℕ) → IsGrounded a m own refuted →
    IsAssuming query (sight a m) q n → length m.cuts ≤ q → IsClashOf a m p → AreDenied m c → IsRefuting (all_of a own) query c
denied_refuting a m own refuted query c q n p g asking low clash d = record {
  follows = rup_down (sight a m) (all_of a own) sound g.rooted c (among_left (attached_clauses a) own)
      (decisions_rup (sight a m) sound c (λ k on none above. d.all k on none above) p clash.place clash.all_false);
  answers = λ i x lt. assumed a m query q n (get_or c i x) g.marks low (d.falsified i x lt) (d.decided i x lt) (d.above i x lt) asking;
}
  where
    sound : IsSound (sight a m)
    sound = grounded_sound a m own refuted g

-- what tracing back a false assumption leaves
pub record HasTraced (s : Sight) (l : Literal) (c : List Literal) : Type 0 where
  pub rest : List Literal
  pub is : c ≡ negate l ∷ rest
  pub traced : IsTraced s (negate l ∷ []) rest

pub traced_parts : (s : Sight) (l : Literal) (c : List Literal) → IsTracedOf s l c → HasTraced s l c
traced_parts s l [] h = absurd h
traced_parts s l (first ∷ rest) h = record {
  rest = rest;
  is = ap (λ (x : Literal). x ∷ rest) h.0;
  traced = subst (λ (x : Literal). IsTraced s (x ∷ []) rest) h.0 h.1;
}

pub traced_refuting : (a : Attached) (m : Marks) (own : Clauses) (refuted : Bool) (query c : List Literal) (q n : ℕ) (l : Literal) →
    IsGrounded a m own refuted → IsAssuming query (sight a m) q n → length m.cuts ≤ q → Contains query l → IsTracedOf (sight a m) l c →
    IsRefuting (all_of a own) query c
traced_refuting a m own refuted query c q n l g asking low among h =
    let t = traced_parts (sight a m) l c h in
    let traced = t.traced in
    subst (IsRefuting (all_of a own) query) (sym t.is) (record {
      follows = rup_down (sight a m) (all_of a own) (grounded_sound a m own refuted g) g.rooted (negate l ∷ t.rest) (among_left (attached_clauses a) own)
          traced.rup;
      answers = All-cons (λ k. Contains query (negate k)) (negate l) t.rest (subst (λ (x : Literal). Contains query x) (sym (negate-negate l)) among)
          (All-weaker (IsDecision (sight a m)) (λ k. Contains query (negate k)) (λ k d. assumed a m query q n k g.marks low d.falsified d.decided d.above
          asking) t.rest traced.decisions);
    })

-- what tracing back a clause that is false leaves
pub clash_refuting : (a : Attached) (m : Marks) (own : Clauses) (refuted : Bool) (query c : List Literal) (q n : ℕ) → IsGrounded a m own refuted →
    IsAssuming query (sight a m) q n → length m.cuts ≤ q → IsTraced (sight a m) [] c → IsRefuting (all_of a own) query c
clash_refuting a m own refuted query c q n g asking low traced = record {
  follows = rup_down (sight a m) (all_of a own) (grounded_sound a m own refuted g) g.rooted c (among_left (attached_clauses a) own) traced.rup;
  answers = All-weaker (IsDecision (sight a m)) (λ k. Contains query (negate k)) (λ k d. assumed a m query q n k g.marks low d.falsified d.decided d.above
      asking) c traced.decisions;
}

pub traced_distinct : (s : Sight) (l : Literal) (c v : List Literal) → v ≡ c → IsTracedOf s l c → AreDistinct v
traced_distinct s l c v e h = let t = traced_parts s l c h in subst AreDistinct (sym (e ∙ t.is)) t.traced.distinct

-- a false literal is of a variable that is there
pub false_there : (m : Marks) (k : Literal) → IsMarks m → IsFalse m k → IsThere m.vars k
false_there m k marks off = there_contains m.vars m.lits (negate k) marks.there (contains_from_has m.lits (negate k) off)

pub traced_there : (a : Attached) (m : Marks) (l : Literal) (c v : List Literal) → v ≡ c → IsMarks m → IsFalse m l → IsTracedOf (sight a m) l c →
    AreThere m.vars v
traced_there a m l c v e marks off h =
    let t = traced_parts (sight a m) l c h in
    subst (AreThere m.vars) (sym (e ∙ t.is)) (
      false_there m l marks off,
      there_by m.vars t.rest
          (All-weaker (IsDecision (sight a m)) (IsThere m.vars) (λ k d. false_there m k marks d.falsified) t.rest t.traced.decisions),
    )

-- of the arena nothing is asked here
pub no_arena : Attached
no_arena = record { vars = 0; room = 0; words = []; places = []; visits = 0 }

pub denied_none : (m : Marks) → DeniedUpto m 0 []
denied_none m = record { all = λ j lt. absurd (omega arith); each = λ k h. absurd (let lt = h.1 in omega (arith, lt)); distinct = tt }

later_at : (m : Marks) (i : ℕ) (k : Literal) → IsDeniedAt m i k → IsDeniedAt m (i + 1) k
later_at m i k d = record { place = d.place; below = let b = d.below in omega arith; within = d.within; is = d.is; decided = d.decided; above = d.above }

pub denied_skip : (m : Marks) (i : ℕ) (l : Literal) (c : List Literal) → i < length m.lits → get_or m.lits i l ≡ l →
    (get_or m.reasons l.var 0 ≡ 0 → get_or m.levels l.var 0 ≡ 0) → DeniedUpto m i c → DeniedUpto m (i + 1) c
denied_skip m i l c lt at none d = record {
  all = λ j below within z above. elim (cases_lt j i) [
    | inl old ↦ d.all j old within z above
    | inr ge ↦
        let same : j ≡ i = omega arith in
        let is : get_or m.lits j (literal 0 true) ≡ l = ap (λ n. get_or m.lits n (literal 0 true)) same ∙ get_or_default m.lits i (literal 0 true) l lt ∙ at in
        let y = none (ap (λ (x : Literal). get_or m.reasons x.var 0) (sym is) ∙ z) in
        let e : get_or m.levels (get_or m.lits j (literal 0 true)).var 0 ≡ get_or m.levels l.var 0 = ap (λ (x : Literal). get_or m.levels x.var 0) is in
        absurd (omega arith)
  ];
  each = λ k h. later_at m i k (d.each k h);
  distinct = d.distinct;
}

pub denied_more : (a : Attached) (m : Marks) (i : ℕ) (l x : Literal) (c now : List Literal) → IsMarks m → i < length m.lits → get_or m.lits i l ≡ l →
    x ≡ negate l → get_or m.reasons l.var 0 ≡ 0 → 0 < get_or m.levels l.var 0 → now ≡ c ++ x ∷ [] → DeniedUpto m i c → DeniedUpto m (i + 1) now
denied_more a m i l x c now marks lt at neg z above e d = subst (DeniedUpto m (i + 1)) (sym (e ∙ ap (λ (y : Literal). c ++ y ∷ []) neg)) (record {
  all = λ j below within none high. elim (cases_lt j i) [
    | inl old ↦ Contains-append_left c (negate l ∷ []) (negate (get_or m.lits j (literal 0 true))) (d.all j old within none high)
    | inr ge ↦
        let same : j ≡ i = omega arith in
        let is : get_or m.lits j (literal 0 true) ≡ l = ap (λ n. get_or m.lits n (literal 0 true)) same ∙ get_or_default m.lits i (literal 0 true) l lt ∙ at in
        subst (λ (y : Literal). Contains (c ++ negate l ∷ []) (negate y)) (sym is) (Contains-push c (negate l))
  ];
  each = λ k h. elim (Contains-push_cases c (negate l) k h) [
    | inl old ↦ later_at m i k (d.each k old)
    | inr same ↦ subst (IsDeniedAt m (i + 1)) same (record {
      place = i;
      below = omega arith;
      within = lt;
      is = get_or_default m.lits i (literal 0 true) l lt ∙ at ∙ sym (negate-negate l);
      decided = z;
      above = above;
    })
  ];
  distinct = distinct_push c (negate l) d.distinct (λ k h same.
      let p = d.each k h in
      let is : get_or m.lits i (literal 0 true) ≡ l = get_or_default m.lits i (literal 0 true) l lt ∙ at in
      let one : p.place ≡ i = same_place (sight a m) p.place i marks.distinct p.within lt
      (ap (λ (y : Literal). y.var) p.is ∙ same ∙ ap (λ (y : Literal). y.var) (sym is)) in
      let below = p.below in
      absurd (omega arith));
})

false_at : (m : Marks) (i : ℕ) (k : Literal) → IsDeniedAt m i k → IsFalse m k
false_at m i k d = has_from_contains m.lits (negate k) (d.place, d.within, get_or_default m.lits d.place (negate k) (literal 0 true) d.within ∙ d.is)

pub denied_end : (a : Attached) (m : Marks) (c : List Literal) → DeniedUpto m (length m.lits) c → AreDenied m c
denied_end a m c d = record {
  all = λ k on none above.
      let p = placed_anywhere (sight a m) k on in
      subst (λ (x : Literal). Contains c (negate x)) p.is (d.all p.place p.within p.within
      (ap (λ (x : Literal). get_or m.reasons x.var 0) p.is ∙ none) (subst (λ (x : Literal). 0 < get_or m.levels x.var 0) (sym p.is) above));
  falsified = All-weaker (Contains c) (IsFalse m) (λ k h. false_at m (length m.lits) k (d.each k h)) c (All-contains_itself c);
  decided = All-weaker (Contains c) (λ k. get_or m.reasons k.var 0 ≡ 0) (λ k h. (d.each k h).decided) c (All-contains_itself c);
  above = All-weaker (Contains c) (λ k. 0 < get_or m.levels k.var 0) (λ k h. (d.each k h).above) c (All-contains_itself c);
}

pub denied_all_there : (m : Marks) (c : List Literal) → IsMarks m → AreDenied m c → AreThere m.vars c
denied_all_there m c marks d = there_by m.vars c (All-weaker (IsFalse m) (IsThere m.vars) (λ k off. false_there m k marks off) c d.falsified)

pub denied_at_end : (m : Marks) (i : ℕ) (c : List Literal) → c ≡ [] → DeniedUpto m 0 c
denied_at_end m i c e = subst (DeniedUpto m 0) (sym e) (denied_none m)

pub denied_refuting_upto : (a : Attached) (m : Marks) (own : Clauses) (refuted : Bool) (query c : List Literal) (q n p : ℕ) → IsGrounded a m own refuted →
    IsAssuming query (sight a m) q n → length m.cuts ≤ q → IsClashOf a m p → DeniedUpto m (length m.lits) c → IsRefuting (all_of a own) query c
denied_refuting_upto a m own refuted query c q n p g asking low clash d = denied_refuting a m own refuted query c q n p g asking low clash (denied_end a m c d)

pub denied_upto_there : (a : Attached) (m : Marks) (c : List Literal) → IsMarks m → DeniedUpto m (length m.lits) c → AreThere m.vars c
denied_upto_there a m c marks d = denied_all_there m c marks (denied_end a m c d)

-- a false assumption is there
pub implied_there : (a : Attached) (m : Marks) (l : Literal) → IsMarks m → IsImpliedFalse a m l → IsThere m.vars l
implied_there a m l marks i = false_there m l marks i.falsified
