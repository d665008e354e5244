-- Literals that a learnt clause doesn't need.
use Rattle.std.specs.Prelude.{◌≡◌, ◌≤◌, ◌<◌, ◌⊎◌, ℕ, Bool, true, nat_eq, List, All, Contains, length, map}
use Rattle.std.specs.Prelude.{slice_index}
use Rattle.cnf_core.specs.Lit.{Literal, negate, has}
use Rattle.cnf_core.specs.Clause.{AreDistinct}
use Rattle.cnf_core.specs.Propagation.{IsIn}
use Rattle.cdcl_learn.specs.Sight.{Sight, level_of, reason_of, clause_in}
use Rattle.cdcl_learn.specs.Cut.{is_seen}

-- a variable was found to follow in this round where the table has the round
abbrev pub implied_in : ℕ → List ℕ → List Bool
implied_in round implied = map (nat_eq round) implied

-- no variable was found to follow in a later round
pub record AreRounds (round : ℕ) (implied refused : List ℕ) : Type 0 where
  pub size : length implied ≤ length refused
  pub within : (v : ℕ) → slice_index implied v ≤ round

-- the literal is false, and of a level below the present one
pub record IsFalseBelow (s : Sight) (k : Literal) : Type 0 where
  pub falsified : IsIn (has s.lits) (negate k)
  pub below : level_of s k < s.level

-- the variable is seen, found to follow, or of level 0
abbrev pub IsFounded : List Bool → List Bool → List ℕ → ℕ → Type 0
IsFounded seen implied levels v = (is_seen seen v ≡ true) ⊎ ((is_seen implied v ≡ true) ⊎ (slice_index levels v ≡ 0))

-- the variable has a reason each of whose other literals is seen, found to follow, or of level 0
pub record IsRedundant (s : Sight) (seen implied : List Bool) (k : Literal) : Type 0 where
  pub place : ℕ
  pub from : 1 ≤ place
  pub reason : reason_of s k ≡ place
  pub others : All (λ m. (m.var ≡ k.var) ⊎ IsFounded seen implied s.levels m.var) (clause_in s place)

-- whatever was found to follow is of a lower level, and follows from what is seen and from what was
-- found, which stands before it on the trail
abbrev pub AreImplied : Sight → List Bool → List Bool → Type 0
AreImplied s seen implied = (k : Literal) → IsIn (has s.lits) (negate k) → is_seen implied k.var ≡ true →
    IsFalseBelow s k × IsRedundant s seen implied k

-- what was found to follow still is
pub record KeepsImplied (old new : List Bool) : Type 0 where
  pub size : length new ≡ length old
  pub keeps : (v : ℕ) → is_seen old v ≡ true → is_seen new v ≡ true

-- some literals that aren't needed were dropped
pub record IsShortenedBy (s : Sight) (seen implied : List Bool) (old new : List Literal) : Type 0 where
  pub within : (k : Literal) → Contains new k → Contains old k
  pub dropped : (k : Literal) → Contains old k → Contains new k ⊎ IsRedundant s seen implied k
  pub distinct : AreDistinct new

-- the same, by some variables that follow
pub record IsShortened (s : Sight) (seen : List Bool) (old new : List Literal) : Type 0 where
  pub implied : List Bool
  pub follow : AreImplied s seen implied
  pub short : IsShortenedBy s seen implied old new

-- each seen literal of a lower level stands in the clause
abbrev pub AreMarked : Sight → List Bool → List Literal → Type 0
AreMarked s seen rest = (l : Literal) → IsIn (has s.lits) l → is_seen seen l.var ≡ true → level_of s l < s.level →
    Contains rest (negate l)
