-- How many variables and words a log may have in which hints are found.
use Rattle.std.specs.Prelude.{◌≡◌, ◌≢◌, ◌≤◌, ◌⊎◌, ℕ, ⊤, ◌+◌, ◌-◌, ◌++◌, max, List, [], All, length, map, flat_map}
use Rattle.std.specs.List.{sum_by}
use Rattle.plan_core.specs.declared.criterion.Criterion.{Criterion}
use Rattle.plan_core.specs.Values.{limit_of}
use Rattle.cnf_core.specs.declared.limits.TheConstants.{ROOM, VARS}
use Rattle.cnf_core.specs.Clause.{Clauses, AreThere}
use Rattle.refute_log.specs.declared.line.LogLine.{LogLine}
use Rattle.refute_log.specs.declared.line.LogLine.TheVariants.{Formula, Learnt, Refuted}
use Rattle.refute_log.specs.Told.{Lines}
use Rattle.refute_log.specs.Log.{given}
use Rattle.refute_log.specs.Expected.{caps}
use Rattle.drawing_cnf.specs.Layout.{Layout}
use Rattle.log_check.specs.declared.claim.Claim.{Claim}
use Rattle.log_check.specs.Expectation.{Expectation, expectation}
use Rattle.log_trim.specs.TrimmedLog.{IsSpelledLog}
use Rattle.log_trim.specs.Wanted.{AreWanted}

-- the line's clause has no greater variable
abbrev pub IsLineWithin : ℕ → LogLine → Type 0
IsLineWithin vars (Formula c) = AreThere vars c
IsLineWithin vars (Learnt c) = AreThere vars c
IsLineWithin vars (Refuted c) = AreThere vars c
IsLineWithin vars line = ⊤

-- the words of a Formula or Learnt line's clause, where one of fewer than two literals counts as one of two
abbrev pub line_words : LogLine → ℕ
line_words (Formula c) = max 2 (length c) + 3
line_words (Learnt c) = max 2 (length c) + 3
line_words line = 0

-- hints are found in lines of so many variables, two fewer than elsewhere, and of so many words
pub record AllowHints (lines : Lines) : Type 0 where
  pub vars : All (IsLineWithin (VARS - 2)) lines
  pub words : sum_by line_words lines ≤ ROOM

-- Formula lines of the clauses that were missing stand at the end
pub record IsCompleted (e : Expectation) (old new : Lines) : Type 0 where
  pub missing : Clauses
  pub whole : flat_map given e.lines ≡ flat_map given old ++ missing
  pub added : new ≡ old ++ map Formula missing

-- the lines in which hints are looked for: those of before where no line is wanted, else with the missing Formula lines
abbrev pub AreTried : Expectation → (old : Lines) → (wanted : List ℕ) → (new : Lines) → Type 0
AreTried e old wanted new = ((wanted ≡ []) × (new ≡ old)) ⊎ ((wanted ≢ []) × IsCompleted e old new)

-- these have too many variables or words
pub record LinesPassLimits (e : Expectation) (lines : Lines) (wanted : List ℕ) : Type 0 where
  pub tried : Lines
  pub which : AreTried e lines wanted tried
  pub passes : AllowHints tried → ⊥

-- the log's lines have too many variables or words, where Refuted ones are wanted with those that are missing of what
-- is expected for their caps
pub record LogPassesLimits (y : Layout) (order : List Criterion) (claim : Claim) (log : List ℕ) : Type 0 where
  pub lines : Lines
  pub is_log : IsSpelledLog log lines
  pub wanted : List ℕ
  pub are_wanted : AreWanted (limit_of y.graph y.grid) lines order claim wanted
  pub cap : Criterion → ℕ
  pub caps_are : (c : Criterion) → cap c ≡ caps (limit_of y.graph y.grid) lines c
  pub pass : LinesPassLimits (expectation y order cap) lines wanted
