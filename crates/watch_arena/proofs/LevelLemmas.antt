-- What each call of a trail leaves of the watches of a clause, and of the reasons.
use Rattle.std.proofs.Common.{◌≡◌, ℕ, ◌<◌, ◌≤◌, ◌⊎◌, List, [], ◌∷◌, ◌++◌, length, take, get_or, refl, sym, ◌∙◌, ap, subst, inl, inr, arith, length-take-le}
use Rattle.std.specs.Prelude.{Contains, min, Option, Some, None}
use Rattle.cnf_core.specs.Clause.{IsThere}
use Rattle.std.proofs.lemmas.Bool.{both_ways, cases_lt, cases_eq}
use Rattle.std.proofs.lemmas.List.{take-take, take_all, get_or_default, get_or-take, get_or_past, take-append-le}
use Rattle.std.proofs.lemmas.List.Elements.{Contains-push_cases}
use Rattle.cnf_core.specs.Lit.{Literal, negate, has}
use Rattle.cnf_core.specs.Propagation.{LiteralSet, IsIn}
use Rattle.cnf_core.proofs.PropagationLemmas.{contains_from_has, has_from_contains}
use Rattle.cnf_core.proofs.TrailLemmas.{front_includes, push_keeps, distinct_consistent, has_last}
use Rattle.watch_arena.specs.Trail.{Marks, IsMarks, opened, level_end, undone, widened, with_lit, trail_level, place_of, IsUnset}
use Rattle.watch_arena.specs.Walk.{past_of, IsTrueNoLater, IsReasonFor, IsReasoned, AreRight}
use Rattle.watch_arena.specs.declared.clause_ref.ClauseRef.{ClauseRef}
use Rattle.watch_arena.specs.Arena.{Attached, IsKept, AreWatched, AreReasoned, MayBeSet, IsHeldBy, attached_at, watch_at}
use Rattle.watch_arena.proofs.CutLemmas.{level_step, level_most}
use Rattle.watch_arena.proofs.WalkLemmas.{held_more}
use Rattle.watch_arena.proofs.ReasonLemmas.{reasoned_root, reasoned_unit}
use Rattle.watch_arena.proofs.TrailLemmas.{get_padded}

-- levels are undone
contains_front : (cuts : List ℕ) (level n : ℕ) → level ≤ length cuts → Contains (take level cuts) n → (j : ℕ) × (j < level) × (get_or cuts j n ≡ n)
contains_front cuts level n le c =
    let size = length-take-le level cuts le in
    let lt = c.1 in
    (c.0, omega arith, sym (get_or-take level cuts c.0 n (omega arith)) ∙ c.2)

module _ (m : Marks) (level : ℕ) (marks : IsMarks m) (le : level ≤ length m.cuts) where
  pub end_within : level_end m level ≤ length m.lits
  end_within = elim (cases_lt level (length m.cuts)) [
    | inl lt ↦
        let cuts = marks.cuts in
        let below = cuts.below level lt in
        let same : get_or m.cuts level (length m.lits) ≡ get_or m.cuts level 0 = get_or_default m.cuts level (length m.lits) 0 lt in
        omega arith
    | inr ge ↦ let e : level_end m level ≡ length m.lits = get_or_past m.cuts level (length m.lits) ge in omega arith
  ]

  pub end_or : (level_end m level ≡ length m.lits) ⊎ (Contains m.cuts (level_end m level) × (level_end m level ≤ m.front))
  end_or = elim (cases_lt level (length m.cuts)) [
    | inl lt ↦
        let cuts = marks.cuts in
        let before = cuts.propagated level lt in
        let same : get_or m.cuts level (length m.lits) ≡ get_or m.cuts level 0 = get_or_default m.cuts level (length m.lits) 0 lt in
        inr ((level, lt, get_or_default m.cuts level (level_end m level) (length m.lits) lt), omega arith)
    | inr ge ↦ inl (get_or_past m.cuts level (length m.lits) ge)
  ]

  -- the places where the levels that are left begin
  cuts_before : (n : ℕ) → Contains (take level m.cuts) n → Contains m.cuts n × (n < level_end m level)
  cuts_before n c =
      let j = contains_front m.cuts level n le c in
      let lt = j.1 in
      let cuts = marks.cuts in
      let lj : j.0 < length m.cuts = omega arith in
      let is : get_or m.cuts j.0 0 ≡ n = get_or_default m.cuts j.0 0 n lj ∙ j.2 in (
        (j.0, lj, j.2),
        elim (cases_lt level (length m.cuts)) [
          | inl l ↦
              let rise = cuts.rise j.0 level j.1 l in
              let same : get_or m.cuts level (length m.lits) ≡ get_or m.cuts level 0 = get_or_default m.cuts level (length m.lits) 0 l in
              omega arith
          | inr ge ↦
              let below = cuts.below j.0 lj in
              let e : level_end m level ≡ length m.lits = get_or_past m.cuts level (length m.lits) ge in
              omega arith
        ],
      )

  pub kept_undone : (c : List Literal) (a : Literal) → IsKept m c a → IsKept (undone m level) c a
  kept_undone c a k = record { kept = λ f. let h = k.kept (was_past (negate a) f) in (h.0, h.1, held (negate a) h.0 h.2 f) }
    where
      -- what is left of the propagated literals was propagated
      was_past : (l : Literal) → IsIn (past_of (undone m level)) l → IsIn (past_of m) l
      was_past l f =
          let least : min m.front (level_end m level) ≤ level_end m level = omega arith in
          let cut : take (min m.front (level_end m level)) (take (level_end m level) m.lits) ≡ take (min m.front (level_end m level)) m.lits = take-take
          (min m.front (level_end m level)) (level_end m level) m.lits least in
          let g : IsIn (has (take (min m.front (level_end m level)) m.lits)) l = subst (λ (ls : List Literal). IsIn (has ls) l) cut f in
          front_includes (take m.front m.lits) (min m.front (level_end m level)) l
          (subst (λ (ls : List Literal). IsIn (has ls) l) (sym (take-take (min m.front (level_end m level)) m.front m.lits (omega arith))) g)

      is_left : (l : Literal) → IsIn (past_of (undone m level)) l → IsIn (has (take (level_end m level) m.lits)) l
      is_left l f = front_includes (take (level_end m level) m.lits) (min m.front (level_end m level)) l f

      held : (f o : Literal) → IsTrueNoLater m f o → IsIn (past_of (undone m level)) f → IsTrueNoLater (undone m level) f o
      held f o h g = record {
        now = elim end_or [
          | inl e ↦ subst (λ (ls : List Literal). IsIn (has ls) o) (sym (take_all (level_end m level) m.lits (omega arith))) h.now
          | inr c ↦ h.back (level_end m level) c.0 (is_left f g)
        ];
        back = λ j c i.
            let b = cuts_before j c in
            let lt2 = b.1 in
            let same : take j (take (level_end m level) m.lits) ≡ take j m.lits = take-take j (level_end m level) m.lits (omega arith) in
            subst (λ (ls : List Literal). IsIn (has ls) o) (sym same) (h.back j b.0 (subst (λ (ls : List Literal). IsIn (has ls) f) same i));
      }

-- reasons after levels are undone
module _ (m : Marks) (level : ℕ) (marks : IsMarks m) (le : level ≤ length m.cuts) where
  pub reasoned_undone : (ws places : List ℕ) → IsReasoned m ws places → IsReasoned (undone m level) ws places
  reasoned_undone ws places r = record {
    reason = λ i k lt is some.
        let x = r.reason i k (old_place i lt) (old_lit i k lt ∙ is) some in
        let size = length-take-le (level_end m level) m.lits (end_within m level marks le) in
        subst (λ (ls : List Literal). IsReasonFor ws places ls k (get_or m.reasons k.var 0)) (sym (take-take i (level_end m level) m.lits (omega arith))) x;
    decided = λ i k lt is none. elim (r.decided i k (old_place i lt) (old_lit i k lt ∙ is) none) [
      | inl c ↦ still i lt c
      | inr first ↦ inr (λ n c. let b = cuts_before m level marks le n c in first n b.0)
    ];
    begins = λ n k c is.
        let b = cuts_before m level marks le n c in
        let lt2 = b.1 in
        r.begins n k b.0 (sym (get_or-take (level_end m level) m.lits n k lt2) ∙ is);
  }
    where
      old_place : (i : ℕ) → i < length (take (level_end m level) m.lits) → i < length m.lits
      old_place i lt = let size = length-take-le (level_end m level) m.lits (end_within m level marks le) in let e = end_within m level marks le in omega arith

      old_lit : (i : ℕ) (k : Literal) → i < length (take (level_end m level) m.lits) → get_or m.lits i k ≡ get_or (take (level_end m level) m.lits) i k
      old_lit i k lt = let size = length-take-le (level_end m level) m.lits (end_within m level marks le) in sym
          (get_or-take (level_end m level) m.lits i k (omega arith))

      still : (i : ℕ) → i < length (take (level_end m level) m.lits) → Contains m.cuts i →
          Contains (take level m.cuts) i ⊎ ((n : ℕ) → Contains (take level m.cuts) n → i < n)
      still i lt c = elim (cases_lt c.0 level) [
        | inl small ↦
            let size = length-take-le level m.cuts le in
            inl (c.0, omega arith, get_or-take level m.cuts c.0 i small ∙ c.2)
        | inr big ↦
            let lj = c.1 in
            let cuts = marks.cuts in
            let at_i : get_or m.cuts c.0 0 ≡ i = get_or_default m.cuts c.0 0 i c.1 ∙ c.2 in
            let size = length-take-le (level_end m level) m.lits (end_within m level marks le) in
            let l : level < length m.cuts = omega arith in
            let same : get_or m.cuts level (length m.lits) ≡ get_or m.cuts level 0 = get_or_default m.cuts level (length m.lits) 0 l in
            elim (cases_eq c.0 level) [
              | inl e ↦ let x : get_or m.cuts c.0 0 ≡ get_or m.cuts level 0 = ap (λ n. get_or m.cuts n 0) e in absurd (omega arith)
              | inr ne ↦ let x = cuts.rise level c.0 (omega arith) c.1 in absurd (omega arith)
            ]
      ]

-- a literal is set
past_with : (m : Marks) (l : Literal) (reason : ℕ) → IsMarks m → past_of (with_lit m l reason) ≡ past_of m
past_with m l reason marks = ap has (take-append-le m.front m.lits (l ∷ []) marks.front)

pub kept_with : (m : Marks) (l : Literal) (reason : ℕ) (c : List Literal) (a : Literal) → IsMarks m → IsKept m c a → IsKept (with_lit m l reason) c a
kept_with m l reason c a marks k = record {
  kept = λ f.
      let h = k.kept (subst (λ (s : LiteralSet). IsIn s (negate a)) (past_with m l reason marks) f) in
      (h.0, h.1, held_more m l (negate a) h.0 reason marks h.2);
}

past_within : (m : Marks) (l : Literal) → IsIn (past_of m) l → IsIn (has m.lits) l
past_within m l f = front_includes m.lits m.front l f

-- the three cases in which a clause is attached: no watch is false;
pub right_open : (m : Marks) (a b : Literal) → (IsIn (has m.lits) (negate a) → ⊥) → (IsIn (has m.lits) (negate b) → ⊥) → AreRight m a b
right_open m a b na nb = record { first = λ f. absurd (na (past_within m (negate a) f)); second = λ f. absurd (nb (past_within m (negate b) f)) }

-- the first is false, and the second true at no later level;
pub right_held : (m : Marks) (a b : Literal) → IsMarks m → IsTrueNoLater m (negate a) b → AreRight m a b
right_held m a b marks h = record { first = λ _. h; second = λ f. absurd (distinct_consistent m.lits marks.distinct b h.now (past_within m (negate b) f)) }

-- the first is unset and set at once, and the second is false since the present level began
pub right_set : (m : Marks) (a b : Literal) (reason : ℕ) → IsMarks m → IsUnset m.lits a →
    ((n : ℕ) → Contains m.cuts n → IsIn (has (take n m.lits)) (negate b) → ⊥) → AreRight (with_lit m a reason) a b
right_set m a b reason marks unset late = record {
  first = λ f. let g : IsIn (has m.lits) (negate a) = past_within m (negate a) (subst (λ (s : LiteralSet). IsIn s (negate a)) (past_with m a reason marks) f) in
      absurd (both_ways (has m.lits (negate a)) unset.1 g);
  second = λ _. record {
    now = has_last m.lits a;
    back = λ n c g.
        let cuts = marks.cuts in
        let at_n : get_or m.cuts c.0 0 ≡ n = get_or_default m.cuts c.0 0 n c.1 ∙ c.2 in
        let lt = cuts.below c.0 c.1 in
        let same : take n (m.lits ++ a ∷ []) ≡ take n m.lits = take-append-le n m.lits (a ∷ []) (omega arith) in
        absurd (late n c (subst (λ (ls : List Literal). IsIn (has ls) (negate b)) same g));
  };
}

-- a level begins with a literal
pub kept_decided : (m : Marks) (l : Literal) (c : List Literal) (a : Literal) → IsMarks m → IsKept m c a → IsKept (with_lit (opened m) l 0) c a
kept_decided m l c a marks k = record {
  kept = λ f.
      let h = k.kept (subst (λ (s : LiteralSet). IsIn s (negate a)) (past_with m l 0 marks) f) in
      (h.0, h.1, held (negate a) h.0 h.2);
}
  where
    held : (f o : Literal) → IsTrueNoLater m f o → IsTrueNoLater (with_lit (opened m) l 0) f o
    held f o h = record {
      now = push_keeps m.lits l o h.now;
      back = λ n c g. elim (Contains-push_cases m.cuts (length m.lits) n c) [
        | inl old ↦
            let cuts = marks.cuts in
            let at_n : get_or m.cuts old.0 0 ≡ n = get_or_default m.cuts old.0 0 n old.1 ∙ old.2 in
            let lt = cuts.below old.0 old.1 in
            let same : take n (m.lits ++ l ∷ []) ≡ take n m.lits = take-append-le n m.lits (l ∷ []) (omega arith) in
            subst (λ (ls : List Literal). IsIn (has ls) o) (sym same) (h.back n old (subst (λ (ls : List Literal). IsIn (has ls) f) same g))
        | inr e ↦
            let same : take n (m.lits ++ l ∷ []) ≡ m.lits = take-append-le n m.lits (l ∷ []) (omega arith) ∙ take_all n m.lits (omega arith) in
            subst (λ (ls : List Literal). IsIn (has ls) o) (sym same) h.now
      ];
    }

-- further variables come
pub kept_widened : (m : Marks) (n : ℕ) (c : List Literal) (a : Literal) → IsKept m c a → IsKept (widened m n) c a
kept_widened m n c a k = record { kept = λ f. let h = k.kept f in let x = h.2 in (h.0, h.1, record { now = x.now; back = x.back }) }

-- the other of two literals, by their levels
pub right_other : (m : Marks) (a b : Literal) → AreRight m b a → AreRight m a b
right_other m a b r = record { first = r.second; second = r.first }

pub held_by_level : (m : Marks) (a b : Literal) → IsMarks m → IsHeldBy m a b → IsTrueNoLater m (negate a) b
held_by_level m a b marks h = record {
  now = h.second;
  back = λ n c g. back n c (contains_from_has (take n m.lits) (negate a) g) (contains_from_has m.lits b h.second);
}
  where
    back : (n : ℕ) → Contains m.cuts n → Contains (take n m.lits) (negate a) → Contains m.lits b → IsIn (has (take n m.lits)) b
    back n c x y =
        let cuts = marks.cuts in
        let at_n : get_or m.cuts c.0 0 ≡ n = get_or_default m.cuts c.0 0 n c.1 ∙ c.2 in
        let below = cuts.below c.0 c.1 in
        let size = length-take-le n m.lits (omega arith) in
        let lt = x.1 in
        let ltb = y.1 in
        let at_a : get_or m.lits x.0 (negate a) ≡ negate a = sym (get_or-take n m.lits x.0 (negate a) (omega arith)) ∙ x.2 in
        let of_a : get_or m.levels a.var 0 ≡ trail_level m.cuts x.0 = ap (λ (l : Literal). get_or m.levels l.var 0) (sym at_a)
        ∙ marks.levels x.0 (negate a) (omega arith) in
        let of_b : get_or m.levels b.var 0 ≡ trail_level m.cuts y.0 = ap (λ (l : Literal). get_or m.levels l.var 0) (sym y.2) ∙ marks.levels y.0 b ltb in
        elim (cases_lt y.0 n) [
          | inl small ↦ has_from_contains (take n m.lits) b (y.0, omega arith, get_or-take n m.lits y.0 b small ∙ y.2)
          | inr big ↦ let rise = level_step m.cuts n x.0 y.0 c (omega arith) big in let le = h.level in absurd (omega arith)
        ]

-- what is false at the present level wasn't so before it began
pub late_by_level : (m : Marks) (b : Literal) → IsMarks m → get_or m.levels b.var 0 ≡ length m.cuts → (n : ℕ) → Contains m.cuts n →
    IsIn (has (take n m.lits)) (negate b) → ⊥
late_by_level m b marks level n c g =
    let x = contains_from_has (take n m.lits) (negate b) g in
    let cuts = marks.cuts in
    let at_n : get_or m.cuts c.0 0 ≡ n = get_or_default m.cuts c.0 0 n c.1 ∙ c.2 in
    let below = cuts.below c.0 c.1 in
    let size = length-take-le n m.lits (omega arith) in
    let lt = x.1 in
    let at_b : get_or m.lits x.0 (negate b) ≡ negate b = sym (get_or-take n m.lits x.0 (negate b) (omega arith)) ∙ x.2 in
    let of_b : get_or m.levels b.var 0 ≡ trail_level m.cuts x.0 = ap (λ (l : Literal). get_or m.levels l.var 0) (sym at_b)
    ∙ marks.levels x.0 (negate b) (omega arith) in
    let rise = level_step m.cuts n x.0 n c (omega arith) (omega arith) in
    let most = level_most m.cuts n in
    omega arith

pub reasoned_widened : (m : Marks) (n : ℕ) (ws places : List ℕ) → IsReasoned m ws places → IsReasoned (widened m n) ws places
reasoned_widened m n ws places r = record {
  reason = λ i l lt is some. subst (λ p. IsReasonFor ws places (take i m.lits) l p) (sym (get_padded m.reasons n 0 l.var))
      (r.reason i l lt is (λ e. some (get_padded m.reasons n 0 l.var ∙ e)));
  decided = λ i l lt is none. r.decided i l lt is (sym (get_padded m.reasons n 0 l.var) ∙ none);
  begins = λ i l c is. get_padded m.reasons n 0 l.var ∙ r.begins i l c is;
}

-- the same of all clauses of an arena
pub watched_with : (a : Attached) (m : Marks) (l : Literal) (reason : ℕ) → IsMarks m → AreWatched a m → AreWatched a (with_lit m l reason)
watched_with a m l reason marks w = record {
  first = λ p c. kept_with m l reason (attached_at a p) (watch_at a p 0) marks (w.first p c);
  second = λ p c. kept_with m l reason (attached_at a p) (watch_at a p 1) marks (w.second p c);
}

pub watched_decided : (a : Attached) (m : Marks) (l : Literal) → IsMarks m → AreWatched a m → AreWatched a (with_lit (opened m) l 0)
watched_decided a m l marks w = record {
  first = λ p c. kept_decided m l (attached_at a p) (watch_at a p 0) marks (w.first p c);
  second = λ p c. kept_decided m l (attached_at a p) (watch_at a p 1) marks (w.second p c);
}

pub watched_undone : (a : Attached) (m : Marks) (level : ℕ) → IsMarks m → level ≤ length m.cuts → AreWatched a m → AreWatched a (undone m level)
watched_undone a m level marks le w = record {
  first = λ p c. kept_undone m level marks le (attached_at a p) (watch_at a p 0) (w.first p c);
  second = λ p c. kept_undone m level marks le (attached_at a p) (watch_at a p 1) (w.second p c);
}

pub watched_widened : (a : Attached) (m : Marks) (n : ℕ) → AreWatched a m → AreWatched a (widened m n)
watched_widened a m n w = record {
  first = λ p c. kept_widened m n (attached_at a p) (watch_at a p 0) (w.first p c);
  second = λ p c. kept_widened m n (attached_at a p) (watch_at a p 1) (w.second p c);
}

pub reasoned_set : (a : Attached) (m : Marks) (l : Literal) (r : Option ClauseRef) → IsMarks m → IsThere m.vars l → IsUnset m.lits l → MayBeSet a m l r →
    AreReasoned a m → AreReasoned a (with_lit m l (place_of r))
reasoned_set a m l None marks there unset root r = reasoned_root m l 0 marks there unset a.words a.places r refl root
reasoned_set a m l (Some c) marks there unset why r = reasoned_unit m l c.0 marks there unset a.words a.places r why.from why.unit
