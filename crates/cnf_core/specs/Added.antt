-- What a call that adds clauses leaves behind, whatever it answers.
use Rattle.std.specs.Prelude.{◌≡◌, ◌≤◌, ◌<◌, ◌⊎◌, ℕ, ◌+◌, ◌++◌, Result, OnOk, IsErrOf}
use Rattle.cnf_core.specs.declared.fault.CnfFault.{CnfFault}
use Rattle.cnf_core.specs.declared.fault.CnfFault.TheVariants.{Room}
use Rattle.cnf_core.specs.declared.limits.TheConstants.{VARS}
use Rattle.cnf_core.specs.Clause.{Clauses, words_of}
use Rattle.cnf_core.specs.Formula.{Cnf, Passes, Full}

-- Ok: exactly these clauses were added. Room: the words of all of them pass the room, and so do
-- those at return with one more clause of the longest length. On each outcome variables and room
-- are as before, and the words aren't more than with all of them. After an error the formula isn't
-- used further, and nothing else is said of its clauses.
pub record AddsClauses {T : Type 0} (result : Result T CnfFault) (old new : Cnf) (clauses : Clauses) (longest : ℕ) :
    Type 0 where
  pub added : OnOk result (new.clauses ≡ old.clauses ++ clauses)
  pub passes : IsErrOf result Room → Passes old clauses
  pub full : IsErrOf result Room → Full new longest
  pub words : words_of new.clauses ≤ words_of old.clauses + words_of clauses
  pub vars : new.vars ≡ old.vars
  pub room : new.room ≡ old.room

-- with so many further variables there are more than there may be
abbrev pub TooMany : Cnf → ℕ → Type 0
TooMany f count = VARS < f.vars + count

-- the same of a call that makes count further variables first, or as it goes
pub record AddsBlock {T : Type 0} (result : Result T CnfFault) (old new : Cnf) (count : ℕ) (clauses : Clauses)
    (longest : ℕ) : Type 0 where
  pub made : OnOk result (new.vars ≡ old.vars + count)
  pub added : OnOk result (new.clauses ≡ old.clauses ++ clauses)
  pub passes : IsErrOf result Room → TooMany old count ⊎ Passes old clauses
  pub full : IsErrOf result Room → TooMany old count ⊎ Full new longest
  pub words : words_of new.clauses ≤ words_of old.clauses + words_of clauses
  pub from : old.vars ≤ new.vars
  pub vars : new.vars ≤ old.vars + count
  pub room : new.room ≡ old.room
