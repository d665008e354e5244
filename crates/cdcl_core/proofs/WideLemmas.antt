-- Further variables.
use Rattle.std.proofs.Common.{◌≡◌, ℕ, ◌+◌, ◌<◌, ◌≤◌, Bool, true, false, [], length, get_or, sym, ◌∙◌, ap, subst, inl, inr, arith}
use Rattle.std.specs.Prelude.{replicate}
use Rattle.std.proofs.lemmas.Bool.{cases_lt}
use Rattle.std.proofs.lemmas.List.{get_or_append_left, get_or_past}
use Rattle.std.proofs.lemmas.List.Elements.{All-weaker}
use Rattle.cnf_core.specs.Clause.{Clauses, AreThere}
use Rattle.cnf_core.proofs.ClauseLemmas.{there_more}
use Rattle.cnf_core.proofs.PropagationLemmas.{has_from_contains}
use Rattle.watch_arena.specs.Trail.{Marks, IsMarks, IsUnset, widened}
use Rattle.watch_arena.specs.Arena.{Attached, AreWatched, AreReasoned, attached_at, spread}
use Rattle.pick_heap.specs.Heap.{Ranked, IsHeld, with_fresh}
use Rattle.cdcl_learn.specs.Sight.{sight, nth}
use Rattle.cdcl_learn.proofs.LiteralLemmas.{stands}
use Rattle.cdcl_core.specs.Roots.{IsTrueAtRoot, IsGrounded, IsSolving, AreOffered}
use Rattle.cdcl_core.proofs.SetLemmas.{not_both}
use Rattle.cdcl_core.proofs.GivenLemmas.{root_level}

grounded_wide : (a : Attached) (m : Marks) (own : Clauses) (refuted : Bool) (n : ℕ) → m.cuts ≡ [] → IsMarks (widened m n) →
    AreReasoned (spread a n) (widened m n) → IsGrounded a m own refuted → IsGrounded (spread a n) (widened m n) own refuted
grounded_wide a m own refuted n none marks reasoned g = record {
  vars = ap (λ k. k + n) g.vars;
  texts = λ p c. there_more m.vars (m.vars + n) (attached_at a p) (omega arith) (g.texts p c);
  marks = marks;
  reasoned = reasoned;
  levels = λ q lt. absurd (let z : length m.cuts ≡ 0 = ap length none in omega arith);
  rooted = λ i lt z. g.rooted i lt (root_level a m (nth (sight a m) i) g.marks none (has_from_contains m.lits (nth (sight a m) i) (stands (sight a m) i lt)));
  there = All-weaker (AreThere m.vars) (AreThere (m.vars + n)) (λ c h. there_more m.vars (m.vars + n) c (omega arith) h) own g.there;
  own_true = λ r. All-weaker (IsTrueAtRoot (sight a m)) (IsTrueAtRoot (sight (spread a n) (widened m n))) (λ c t. record {
    lit = t.lit;
    inside = t.inside;
    true_ = t.true_;
    root = root_level (spread a n) (widened m n) t.lit marks none t.true_;
  }) own (g.own_true r);
  falsified = g.falsified;
}

pub solving_wide : (a b : Attached) (m t : Marks) (own : Clauses) (refuted : Bool) (n : ℕ) → b ≡ spread a n → t ≡ widened m n → m.cuts ≡ [] → IsMarks t →
    AreWatched b t → AreReasoned b t → IsGrounded a m own refuted → IsSolving b t own refuted
solving_wide a b m t own refuted n same e none marks watched reasoned g = record {
  watched = watched;
  grounded = subst (λ (x : Attached). IsGrounded x t own refuted) (sym same) (subst (λ (x : Marks). IsGrounded (spread a n) x own refuted) (sym e)
      (grounded_wide a m own refuted n none (subst IsMarks e marks) (subst (λ (x : Marks). AreReasoned (spread a n) x) e
      (subst (λ (x : Attached). AreReasoned x t) same reasoned)) g));
}

-- the new variables are offered too
pub offered_wide : (h k : Ranked) (m t : Marks) (n : ℕ) → k ≡ with_fresh h n → t ≡ widened m n → h.vars ≡ m.vars →
    ((v : ℕ) → h.vars < v → v ≤ k.vars → IsHeld k v) → AreOffered h m → AreOffered k t
offered_wide h k m t n same e vars fresh offered = λ l there un. elim (cases_lt m.vars l.var) [
  | inl more ↦
      let high = there.1 in
      let size : t.vars ≡ m.vars + n = ap (λ (x : Marks). x.vars) e in
      let width : k.vars ≡ h.vars + n = ap (λ (x : Ranked). x.vars) same in
      fresh l.var (omega arith) (omega arith)
  | inr old ↦
      subst (λ (x : Ranked). IsHeld x l.var) (sym same) (still l.var (offered l (there.0, old) (subst (λ (x : Marks). IsUnset x.lits l) e un)))
]
  where
    still : (v : ℕ) → IsHeld h v → IsHeld (with_fresh h n) v
    still v held = elim (cases_lt v (length h.held)) [
      | inl lt ↦ get_or_append_left h.held (replicate n true) false v lt ∙ held
      | inr past ↦ absurd (not_both (get_or h.held v false) held (get_or_past h.held v false past))
    ]
