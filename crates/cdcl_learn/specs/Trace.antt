-- A false literal, or a clause that is false, traced back to decisions.
use Rattle.std.specs.Prelude.{◌≡◌, ◌≤◌, ◌<◌, ℕ, ◌+◌, true, cond, nat_eq, List, [], ◌∷◌, ◌++◌, All, Contains, length}
use Rattle.cnf_core.specs.Lit.{Literal, negate, has}
use Rattle.cnf_core.specs.Clause.{AreDistinct}
use Rattle.cnf_core.specs.Propagation.{LiteralSet, IsIn, negations, Falsifies, Rup}
use Rattle.cdcl_learn.specs.Sight.{Sight, level_of, reason_of, known}
use Rattle.cdcl_learn.specs.Cut.{Cut, is_seen, IsSeen, with_open, with_lower, working}

-- the cut with one more false literal: one that was decided is kept, another one is to be resolved
abbrev pub trace_with : Sight → Cut → Literal → Cut
trace_with s w k = cond (is_seen w.seen k.var) w
    (cond (nat_eq (level_of s k) 0) w
    (cond (nat_eq (reason_of s k) 0) (with_lower w k) (with_open w k)))

abbrev pub trace_with_all : Sight → Cut → List Literal → Cut
trace_with_all s w [] = w
trace_with_all s w (k ∷ ks) = trace_with_all s (trace_with s w k) ks

-- the negation of a literal that was decided at a level above 0
pub record IsDecision (s : Sight) (k : Literal) : Type 0 where
  pub falsified : IsIn (has s.lits) (negate k)
  pub above : 0 < level_of s k
  pub decided : reason_of s k ≡ 0

-- what is kept fits the trail; it and the literals in front, which stay in the clause, are seen
pub record IsTrace (s : Sight) (w : Cut) (front : List Literal) : Type 0 where
  pub size : length w.seen ≡ s.vars + 1
  pub decisions : All (IsDecision s) w.rest
  pub marks : All (λ k. IsSeen w k.var) (front ++ w.rest)
  pub all : (k : Literal) → IsIn (has s.lits) k → IsSeen w k.var → reason_of s k ≡ 0 → Contains w.rest (negate k)
  pub distinct : AreDistinct (front ++ w.rest)

-- the seen literals before a place, and the negations of those in front and of the decided ones that are kept
abbrev pub tracing : Sight → Cut → List Literal → ℕ → LiteralSet
tracing s w front end x = cond (negations (front ++ w.rest) x) true (working s w end x)

pub record IsTracing (s : Sight) (w : Cut) (front : List Literal) (end : ℕ) : Type 0 where
  pub trace : IsTrace s w front
  pub within : end ≤ length s.lits
  pub rup : Falsifies (known s) (tracing s w front end)

-- the clause of the literals in front and of negated decisions follows by unit propagation; none are in
-- front where a false clause is traced back
pub record IsTraced (s : Sight) (front rest : List Literal) : Type 0 where
  pub distinct : AreDistinct (front ++ rest)
  pub decisions : All (IsDecision s) rest
  pub rup : Rup (known s) (front ++ rest)

-- the clause has the negation of each decided literal
abbrev pub HasDecisions : Sight → List Literal → Type 0
HasDecisions s c = (k : Literal) → IsIn (has s.lits) k → reason_of s k ≡ 0 → 0 < level_of s k → Contains c (negate k)

-- the clause that tracing a false literal back leaves
abbrev pub IsTracedOf : Sight → Literal → List Literal → Type 0
IsTracedOf s l [] = ⊥
IsTracedOf s l (first ∷ rest) = (first ≡ negate l) × IsTraced s (first ∷ []) rest
