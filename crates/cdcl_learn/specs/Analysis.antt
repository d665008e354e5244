-- What the analyser leaves.
use Rattle.std.specs.Prelude.{◌≡◌, ◌≢◌, ◌≤◌, ◌<◌, ◌⊎◌, ℕ, ◌+◌, Bool, cond, List, ◌∷◌, All, Contains, length}
use Rattle.std.specs.Prelude.{slice_index, take}
use Rattle.cnf_core.specs.Clause.{IsNamed}
use Rattle.cnf_core.specs.declared.limits.TheConstants.{VARS}
use Rattle.cnf_core.specs.Lit.{Literal, negate, has}
use Rattle.cnf_core.specs.Propagation.{IsIn}
use Rattle.watch_arena.specs.Trail.{Marks}
use Rattle.watch_arena.specs.Arena.{Attached}
use Rattle.cdcl_learn.specs.Sight.{sight, level_of, reason_of, clauses_in, IsSetAbove}
use Rattle.cdcl_learn.specs.Cut.{Cut}

-- the number of variables, the clause that the latest call left, the level to jump back to with it,
-- and the variables on the conflict side of the latest analysis
pub record Analysis : Type 0 where
  pub vars : ℕ
  pub clause : List Literal
  pub back : ℕ
  pub seen : List ℕ

-- an analyser seen so: its clause has the first literal in front, where it is headed, and the variables
-- that were met are the first `len` of the table
abbrev pub analysis_of : Cut → Bool → Literal → ℕ → List ℕ → ℕ → Analysis
analysis_of w headed first back side len = record {
  vars = w.vars;
  clause = cond headed (first ∷ w.rest) w.rest;
  back =
      back;
  seen = take len side;
}

-- both tables have a place for each variable; the variables in front are distinct and in range
pub record IsAnalyser (w : Cut) (implied : List Bool) (side : List ℕ) (len : ℕ) : Type 0 where
  pub limit : w.vars ≤ VARS
  pub short : length w.rest ≤ w.vars + 1
  pub size : w.vars + 1 ≤ length side
  pub tables : w.vars + 1 ≤ length implied
  pub within : len ≤ w.vars + 1
  pub there : (i : ℕ) → i < len → (1 ≤ slice_index side i) × (slice_index side i ≤ w.vars)
  pub apart : (i j : ℕ) → i < j → j < len → slice_index side i ≢ slice_index side j

-- distinct variables in range
pub record AreVars (vars : ℕ) (seen : List ℕ) : Type 0 where
  pub there : (i : ℕ) → i < length seen → (1 ≤ slice_index seen i) × (slice_index seen i ≤ vars)
  pub apart : (i j : ℕ) → i < j → j < length seen → slice_index seen i ≢ slice_index seen j

-- the seen variables stand in clauses of the arena and are set at levels above 0; those of the clause
-- are among them
pub record AreSeen (a : Attached) (m : Marks) (clause : List Literal) (seen : List ℕ) : Type 0 where
  pub named : All (IsNamed (clauses_in (sight a m))) seen
  pub above : All (IsSetAbove (sight a m)) seen
  pub all : All (λ k. Contains seen k.var) clause

-- false, and not decided
pub record IsImpliedFalse (a : Attached) (m : Marks) (l : Literal) : Type 0 where
  pub falsified : IsIn (has m.lits) (negate l)
  pub undecided : (level_of (sight a m) l ≡ 0) ⊎ (1 ≤ reason_of (sight a m) l)
