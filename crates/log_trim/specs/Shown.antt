-- What is known of a log while it is trimmed, for private contracts alone.
use Rattle.std.specs.Prelude.{◌≡◌, ◌≢◌, ◌≤◌, ℕ, Bool, List, [], ◌++◌, MatchBool, map, flat_map}
use Rattle.cnf_core.specs.declared.limits.TheConstants.{ROOM}
use Rattle.cnf_core.specs.Clause.{Clauses, words_of}
use Rattle.refute_log.specs.declared.line.LogLine.TheVariants.{Formula}
use Rattle.refute_log.specs.Told.{Lines}
use Rattle.refute_log.specs.Log.{added, given, clause_lines, BeginsLines}
use Rattle.log_check.specs.Expectation.{Expectation, PassesLimits}
use Rattle.log_check.specs.Accepted.{AreAccepted}
use Rattle.hint_log.specs.HintedLines.{HintLines}
use Rattle.log_trim.specs.Trimmed.{IsTrimmed}
use Rattle.log_trim.specs.TrimmedLog.{IsSpelledLog}
use Rattle.log_trim.specs.HintRoom.{AreTried}

-- the bytes are the text of some log
abbrev pub IsSomeLog : List ℕ → Type 0
IsSomeLog bytes = (lines : Lines) × IsSpelledLog bytes lines

-- the lines begin what is expected, within its limits, and have room, so that they are accepted if they derive; and
-- they were completed, or left as they are where none is wanted and only there
pub record MayBeTrimmed (e : Expectation) (old : Lines) (wanted : List ℕ) (new : Lines) : Type 0 where
  pub front : BeginsLines (clause_lines old) e.lines
  pub within : clause_lines old ≢ [] → PassesLimits e → ⊥
  pub room : words_of (flat_map added old) ≤ ROOM
  pub completed : AreTried e old wanted new

-- where they are ready, they may be trimmed so; where they aren't, they aren't accepted, whether they derive or not
abbrev pub IsReadied : Expectation → Lines → List ℕ → Lines → Bool → Type 0
IsReadied e old wanted new ready = MatchBool ready (MayBeTrimmed e old wanted new) (AreAccepted e old → ⊥)

-- the lines are accepted, and with the missing clauses at their end they are trimmed to these
pub record IsKeptOf (e : Expectation) (lines : Lines) (wanted : List ℕ) (kept : HintLines) : Type 0 where
  pub accepted : AreAccepted e lines
  pub missing : Clauses
  pub whole : flat_map given e.lines ≡ flat_map given lines ++ missing
  pub trimmed : IsTrimmed (lines ++ map Formula missing) wanted kept
