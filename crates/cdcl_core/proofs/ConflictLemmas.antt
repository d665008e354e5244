-- From a falsified clause to the clause that is learnt.
use Rattle.std.proofs.Common.{◌≡◌, ℕ, ◌+◌, ◌<◌, Bool, false, List, ◌∷◌, length, sym, ◌∙◌, subst, arith}
use Rattle.cnf_core.specs.Lit.{Literal}
use Rattle.cnf_core.specs.Clause.{Clauses, AreDistinct, AreThere}
use Rattle.watch_arena.specs.Trail.{Marks, IsMarks, undone}
use Rattle.watch_arena.specs.Arena.{Attached, IsClashOf}
use Rattle.cdcl_learn.specs.Sight.{sight}
use Rattle.cdcl_learn.specs.Cut.{IsConflict, IsLearntOf}
use Rattle.cnf_core.proofs.ClauseLemmas.{there_more}
use Rattle.refute_log.specs.declared.line.LogLine.TheVariants.{Formula, Learnt, Query, Refuted}
use Rattle.cnf_core.specs.declared.limits.TheConstants.{LAST_VAR}
use Rattle.refute_log.specs.Lines.{MayBeTold}
use Rattle.cdcl_core.specs.declared.search.Search.{Search}
use Rattle.cdcl_core.specs.Kept.{IsFull, IsDeduced}
use Rattle.cdcl_core.specs.Roots.{IsGrounded}
use Rattle.cdcl_core.specs.Search.{clauses, IsSearch, IsAssertedClause}
use Rattle.cdcl_core.proofs.LearnLemmas.{learnt_parts, conflict_of, deduced_all, asserted_back, back_below, learnt_there, vars_low}

pub unrefuted : (a : Attached) (m : Marks) (own : Clauses) (refuted : Bool) → refuted ≡ false → IsGrounded a m own refuted → IsGrounded a m own false
unrefuted a m own refuted e g = subst (λ b. IsGrounded a m own b) e g

pub conflict_here : (s : Search) (p : ℕ) → IsSearch s → IsClashOf s.arena s.trail p → 0 < length s.trail.cuts → IsConflict (sight s.arena s.trail) p
conflict_here s p h clash above = conflict_of s.arena s.trail s.own.items s.refuted p h.solving.grounded clash above

pub deduced_here : (s : Search) (c : List Literal) (back : ℕ) → IsSearch s → s.refuted ≡ false → IsLearntOf (sight s.arena s.trail) c back →
    IsDeduced (clauses s) c
deduced_here s c back h un learnt =
    let p = learnt_parts (sight s.arena s.trail) c back learnt in
    subst (IsDeduced (clauses s)) (sym p.is) (deduced_all s.arena s.trail s.own.items p.first p.rest
    (unrefuted s.arena s.trail s.own.items s.refuted un h.solving.grounded) p.learnt)

-- the clause may be told
pub learnt_told : (s : Search) (c : List Literal) (back : ℕ) → IsSearch s → IsLearntOf (sight s.arena s.trail) c back → MayBeTold (Learnt c)
learnt_told s c back h learnt =
    let p = learnt_parts (sight s.arena s.trail) c back learnt in
    let marks = h.solving.grounded.marks in
    subst (λ (x : List Literal). MayBeTold (Learnt x)) (sym p.is) (record {
      formed = (
        there_more s.trail.vars LAST_VAR (p.first ∷ p.rest) (vars_low s.trail.vars marks.limit)
            (learnt_there s.trail p.first p.rest marks p.learnt.falsified),
        omega arith,
      );
      once = p.learnt.distinct;
    })

pub learnt_full : (s : Search) (c : List Literal) (back : ℕ) → IsSearch s → s.refuted ≡ false → IsLearntOf (sight s.arena s.trail) c back →
    s.room < s.words + length c + 3 → IsFull s.room s.words (clauses s)
learnt_full s c back h un learnt passes = record {
  clause = c;
  formed = learnt_told s c back h learnt;
  deduced = deduced_here s c back h un learnt;
  passes = passes;
}

pub learnt_distinct : (s : Search) (c : List Literal) (back : ℕ) (v : List Literal) → v ≡ c → IsLearntOf (sight s.arena s.trail) c back → AreDistinct v
learnt_distinct s c back v e learnt =
    let p = learnt_parts (sight s.arena s.trail) c back learnt in
    subst AreDistinct (sym (e ∙ p.is)) p.learnt.distinct

pub learnt_asserted : (s : Search) (b : Attached) (t : Marks) (c : List Literal) (back : ℕ) → IsSearch s → IsLearntOf (sight s.arena s.trail) c back →
    b ≡ s.arena → t ≡ undone s.trail back → IsMarks t → IsAssertedClause b t c
learnt_asserted s b t c back h learnt same e after =
    let p = learnt_parts (sight s.arena s.trail) c back learnt in
    subst (λ (a : Attached). IsAssertedClause a t c) (sym same) (subst (λ (m : Marks). IsAssertedClause s.arena m c) (sym e)
    (subst (IsAssertedClause s.arena (undone s.trail back)) (sym p.is) (asserted_back s.arena s.trail s.own.items s.refuted p.first p.rest back
    h.solving.grounded p.learnt p.jump (subst IsMarks e after))))

pub learnt_back : (s : Search) (c : List Literal) (back : ℕ) → IsLearntOf (sight s.arena s.trail) c back → back < length s.trail.cuts
learnt_back s c back learnt =
    let p = learnt_parts (sight s.arena s.trail) c back learnt in
    back_below (sight s.arena s.trail) p.first p.rest back p.learnt p.jump

pub refuted_told : (s : Search) (c : List Literal) → IsSearch s → AreThere s.trail.vars c → AreDistinct c → MayBeTold (Refuted c)
refuted_told s c h there distinct = record {
  formed = there_more s.trail.vars LAST_VAR c (vars_low s.trail.vars h.solving.grounded.marks.limit) there;
  once = distinct;
}

pub query_told : (s : Search) (c : List Literal) → IsSearch s → AreThere s.trail.vars c → AreDistinct c → MayBeTold (Query c)
query_told s c h there distinct = record {
  formed = there_more s.trail.vars LAST_VAR c (vars_low s.trail.vars h.solving.grounded.marks.limit) there;
  once = distinct;
}

pub formula_told : (s : Search) (c : List Literal) → IsSearch s → AreThere s.trail.vars c → AreDistinct c → MayBeTold (Formula c)
formula_told s c h there distinct = record {
  formed = there_more s.trail.vars LAST_VAR c (vars_low s.trail.vars h.solving.grounded.marks.limit) there;
  once = distinct;
}
