-- What follows with the help of the literals of level 0 follows from the clauses alone.
use Rattle.std.proofs.Common.{◌≡◌, ℕ, zero, suc, ◌+◌, ◌<◌, ◌≤◌, ◌⊎◌, Bool, true, false, cond, nat_eq, List, [], ◌∷◌, ◌++◌, length, take, refl, sym, ◌∙◌, ap}
use Rattle.std.proofs.Common.{subst, inl, inr, arith}
use Rattle.std.specs.Prelude.{All, Contains}
use Rattle.std.proofs.lemmas.Bool.{cases_lt, eqb-true}
use Rattle.std.proofs.lemmas.List.Elements.{All-nil, All-cons, All-contains}
use Rattle.cnf_core.specs.Lit.{Literal, negate, has}
use Rattle.cnf_core.specs.Clause.{Clauses}
use Rattle.cnf_core.specs.Propagation.{LiteralSet, IsIn, HasReason, Closure, Falsifies, Rup, units, nothing, AreAmong}
use Rattle.cnf_core.proofs.PropagationLemmas.{unit_same, reason_follows, falsifies_more, has_from_contains, contains_first, contains_later}
use Rattle.cnf_core.proofs.ForcedLemmas.{falsifies_without_known}
use Rattle.watch_arena.specs.Trail.{Marks}
use Rattle.watch_arena.specs.Arena.{Attached}
use Rattle.cdcl_learn.specs.Sight.{Sight, sight, nth, level_of, clauses_in, roots, known, IsSound}
use Rattle.cdcl_learn.specs.Levels.{upto, IsStable}
use Rattle.cdcl_learn.proofs.LiteralLemmas.{placed, placed_anywhere, consistent}
use Rattle.cdcl_learn.proofs.LevelLemmas.{upto_parts, upto_from}
use Rattle.cdcl_core.specs.Roots.{HasRoots, IsTrueAtRoot}
use Rattle.cdcl_core.proofs.SetLemmas.{among_append, among_itself}
use Rattle.cdcl_core.proofs.MoveLemmas.{IsFurther, further_nth, further_take, further_level, further_in, further_old, further_cases}

pub reason_among : (cs more : Clauses) (set : LiteralSet) (l : Literal) → AreAmong cs more → HasReason cs set l → HasReason more set l
reason_among cs more set l there r =
    let d = there r.reason r.among in
    record { reason = d.0; among = d.1; unit = unit_same set r.reason d.0 l d.2 r.unit }

-- the literals of level 0, as a list
abbrev pub root_lits : Sight → List Literal → List Literal
root_lits s [] = []
root_lits s (l ∷ ls) = cond (nat_eq (level_of s l) 0) (l ∷ root_lits s ls) (root_lits s ls)

roots_are_units : (s : Sight) (ls : List Literal) → roots s ls ≡ units (root_lits s ls)
roots_are_units s [] = refl
roots_are_units s (l ∷ ls) = by_test (nat_eq (level_of s l) 0) (roots_are_units s ls)
  where
    by_test : (b : Bool) → roots s ls ≡ units (root_lits s ls) → cond b ((l ∷ []) ∷ roots s ls) (roots s ls) ≡ units
        (cond b (l ∷ root_lits s ls) (root_lits s ls))
    by_test true e = ap (λ (cs : Clauses). (l ∷ []) ∷ cs) e
    by_test false e = e

root_all : (s : Sight) (P : Literal → Type 0) (ls : List Literal) → ((l : Literal) → Contains ls l → level_of s l ≡ 0 → P l) → All P (root_lits s ls)
root_all s P [] h = All-nil P
root_all s P (l ∷ ls) h = by_test (nat_eq (level_of s l) 0) (eqb-true (level_of s l) 0) (root_all s P ls (λ k c. h k (contains_later l k ls c)))
  where
    by_test : (b : Bool) → (b ≡ true → level_of s l ≡ 0) → All P (root_lits s ls) → All P (cond b (l ∷ root_lits s ls) (root_lits s ls))
    by_test true e rest = All-cons P l (root_lits s ls) (h l (contains_first l ls) (e refl)) rest
    by_test false e rest = rest

module _ (s : Sight) (clauses : Clauses) (sound : IsSound s) (rooted : HasRoots s clauses) where
  -- each literal of level 0 follows from the clauses alone
  pub roots_follow : (n i : ℕ) → i < n → i < length s.lits → level_of s (nth s i) ≡ 0 → Closure clauses nothing (nth s i)
  roots_follow zero i lt within z = absurd (omega arith)
  roots_follow (suc n) i lt within z = reason_follows clauses nothing (has (take i s.lits)) (nth s i) (λ k on.
      let p = placed s i k (omega arith) on in
      let before = p.below in
      let low = sound.rise p.place i before within in
      subst (λ (x : Literal). Closure clauses nothing x) p.is (roots_follow n p.place (omega arith) p.within (omega arith))) (rooted i within z)

  pub root_follows : (l : Literal) → IsIn (has s.lits) l → level_of s l ≡ 0 → Closure clauses nothing l
  root_follows l on z =
      let p = placed_anywhere s l on in
      subst (λ (x : Literal). Closure clauses nothing x) p.is (roots_follow (p.place + 1) p.place (omega arith) p.within (ap (level_of s) p.is ∙ z))

  -- what follows from the arena's clauses and the literals of level 0
  pub falsifies_down : (start : LiteralSet) → AreAmong (clauses_in s) clauses → Falsifies (known s) start → Falsifies clauses start
  falsifies_down start there f = falsifies_without_known clauses (root_lits s s.lits) start
      (root_all s (Closure clauses nothing) s.lits (λ l among z. root_follows l (has_from_contains s.lits l among) z))
      (falsifies_more (known s) (clauses ++ units (root_lits s s.lits)) start
      (subst (λ (cs : Clauses). AreAmong (known s) (clauses ++ cs)) (roots_are_units s s.lits)
      (among_append (clauses_in s) (roots s s.lits) clauses (roots s s.lits) there (among_itself (roots s s.lits)))) f)

  pub rup_down : (c : List Literal) → AreAmong (clauses_in s) clauses → Rup (known s) c → Rup clauses c
  rup_down c there f = falsifies_down (λ l. has c (negate l)) there f

module _ (a b : Attached) (m n : Marks) (q : ℕ) (f : IsFurther m n q) where
  -- literals of level 0 keep their reasons
  pub roots_further : (cs more : Clauses) → AreAmong cs more → HasRoots (sight a m) cs →
      ((i : ℕ) → length m.lits ≤ i → i < length n.lits → level_of (sight b n) (nth (sight b n) i) ≡ 0 →
      HasReason more (has (take i n.lits)) (nth (sight b n) i)) → HasRoots (sight b n) more
  roots_further cs more there rooted new = λ i lt z. elim (cases_lt i (length m.lits)) [
    | inl old ↦
        let r = reason_among cs more (has (take i m.lits)) (nth (sight a m) i) there (rooted i old (sym (further_level a b m n q f i old) ∙ z)) in
        subst (λ (ls : List Literal). HasReason more (has ls) (nth (sight b n) i)) (sym (further_take a b m n q f i (omega arith)))
        (subst (λ (l : Literal). HasReason more (has (take i m.lits)) l) (sym (further_nth a b m n q f i old)) r)
    | inr ge ↦ new i ge lt z
  ]

  pub roots_back : (cs : Clauses) → HasRoots (sight b n) cs → HasRoots (sight a m) cs
  roots_back cs rooted = λ i lt z.
      let le = f.longer in
      let r = rooted i (omega arith) (further_level a b m n q f i lt ∙ z) in
      subst (λ (ls : List Literal). HasReason cs (has ls) (nth (sight a m) i)) (further_take a b m n q f i (omega arith))
      (subst (λ (l : Literal). HasReason cs (has (take i n.lits)) l) (further_nth a b m n q f i lt) r)

  pub true_further : (c : List Literal) → IsTrueAtRoot (sight a m) c → IsTrueAtRoot (sight b n) c
  true_further c t = record {
    lit = t.lit;
    inside = t.inside;
    true_ = further_in a b m n q f t.lit t.true_;
    root = further_old a b m n q f t.lit t.true_ ∙ t.root;
  }

  pub true_back : (c : List Literal) → 0 < q → IsTrueAtRoot (sight b n) c → IsTrueAtRoot (sight a m) c
  true_back c above t =
      let z = t.root in
      let cases = further_cases a b m n q f t.lit t.true_ in
      elim cases.cases [
        | inl old ↦ record { lit = t.lit; inside = t.inside; true_ = old; root = sym (further_old a b m n q f t.lit old) ∙ t.root }
        | inr later ↦ absurd (omega arith)
      ]

-- what is quiet for the arena is quiet for all kept clauses
pub quiet_kept : (s : Sight) (clauses own : Clauses) (q : ℕ) → IsSound s → All (IsTrueAtRoot s) own → IsStable clauses (upto s q) → IsStable own (upto s q)
quiet_kept s clauses own q sound held quiet = record {
  closed = λ c among k unit.
      let t = All-contains (IsTrueAtRoot s) own c held among in
      elim (All-contains (λ m. (m ≡ k) ⊎ IsIn (upto s q) (negate m)) c t.lit unit.others t.inside) [
        | inl e ↦ subst (λ (m : Literal). IsIn (upto s q) m) e (let z = t.root in upto_from s q t.lit t.true_ (omega arith))
        | inr f ↦ absurd (consistent s t.lit sound.distinct t.true_ (upto_parts s q (negate t.lit) f).0)
      ];
  unfalsified = λ f.
      let t = All-contains (IsTrueAtRoot s) own f.clause held f.among in
      consistent s t.lit sound.distinct t.true_ (upto_parts s q (negate t.lit) (All-contains (λ m. IsIn (upto s q) (negate m)) f.clause t.lit f.each
      t.inside)).0;
}
