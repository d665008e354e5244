-- Which lines of a log are accepted, one after another.
use Rattle.std.specs.Prelude.{◌≡◌, ◌≢◌, ◌≤◌, ℕ, List, [], ◌++◌, flat_map}
use Rattle.cnf_core.specs.declared.limits.TheConstants.{ROOM}
use Rattle.cnf_core.specs.Clause.{words_of}
use Rattle.refute_log.specs.Lines.{log_text, MayAllBeTold}
use Rattle.refute_log.specs.Told.{Lines}
use Rattle.refute_log.specs.Log.{added, Derives, clause_lines, BeginsLines}
use Rattle.log_check.specs.Expectation.{Expectation, PassesLimits}

-- the Formula and Bound lines begin what is expected, which is within the limits where there is such a line; the lines
-- derive; and their clauses have room
pub record AreAccepted (e : Expectation) (lines : Lines) : Type 0 where
  pub front : BeginsLines (clause_lines lines) e.lines
  pub within : clause_lines lines ≢ [] → PassesLimits e → ⊥
  pub derives : Derives lines
  pub room : words_of (flat_map added lines) ≤ ROOM

-- the bytes begin the log of these lines, all of them accepted, and this much is left
pub record AcceptsFront (e : Expectation) (bytes : List ℕ) (lines : Lines) (rest : List ℕ) : Type 0 where
  pub formed : MayAllBeTold lines
  pub spelled : bytes ≡ log_text lines ++ rest
  pub accepted : AreAccepted e lines
