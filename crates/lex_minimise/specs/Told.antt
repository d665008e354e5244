-- What a solver has when it and a log were told lines: the same list for both.
use Rattle.std.specs.Prelude.{◌≡◌, ◌+◌, false, ◌++◌, length, flat_map}
use Rattle.cnf_core.specs.Clause.{Clauses, words_of}
use Rattle.refute_log.specs.Told.{Lines}
use Rattle.refute_log.specs.Log.{learnt}
use Rattle.cdcl_core.specs.Kept.{Kept, AreGiven}
use Rattle.cdcl_core.specs.Belongs.{Belongs}

-- the solver was given these clauses, and nothing else is other than it was
pub record HasTaken (old new : Kept) (cs : Clauses) : Type 0 where
  pub given : (given : Clauses) → AreGiven given old.clauses → AreGiven (given ++ cs) new.clauses
  pub words : new.words ≡ old.words + words_of cs
  pub room : new.room ≡ old.room
  pub vars : new.vars ≡ old.vars
  pub learnt : new.learnt ≡ old.learnt
  pub working : new.failed ≡ false

-- the lines belong to the solver, which has learnt as many clauses as there are Learnt lines
pub record IsLogOfSolver (k : Kept) (lines : Lines) : Type 0 where
  pub belongs : Belongs lines k
  pub learnt : k.learnt ≡ length (flat_map learnt lines)
