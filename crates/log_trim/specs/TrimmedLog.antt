-- What is left of the text of a log that certifies a claim.
use Rattle.std.specs.Prelude.{◌≡◌, ℕ, List, ◌++◌, length, map, flat_map}
use Rattle.plan_core.specs.declared.criterion.Criterion.{Criterion}
use Rattle.plan_core.specs.Values.{value_of, limit_of}
use Rattle.cnf_core.specs.Clause.{Clauses}
use Rattle.refute_log.specs.declared.line.LogLine.TheVariants.{Formula}
use Rattle.refute_log.specs.Lines.{log_text, MayAllBeTold}
use Rattle.refute_log.specs.Told.{Lines}
use Rattle.refute_log.specs.Log.{given, learnt, clause_lines, BeginsLines}
use Rattle.refute_log.specs.Expected.{caps}
use Rattle.drawing_cnf.specs.Layout.{Layout}
use Rattle.log_check.specs.declared.claim.Claim.{Claim}
use Rattle.log_check.specs.Expectation.{Expectation, expectation}
use Rattle.log_trim.specs.Trimmed.{IsTrimmed}
use Rattle.log_trim.specs.declared.trimming.TrimmedLog.{TrimmedLog}
use Rattle.log_trim.specs.Wanted.{AreWanted}

-- the bytes are the text of these lines
pub record IsSpelledLog (bytes : List ℕ) (lines : Lines) : Type 0 where
  pub formed : MayAllBeTold lines
  pub spelled : bytes ≡ log_text lines

-- what is expected for the caps of what is left
abbrev pub expected_by : Layout → List Criterion → TrimmedLog → Expectation
expected_by y order r = expectation y order (value_of r.caps)

-- the log's lines, with Formula lines at their end where they lack some of what is expected for their caps, are trimmed
-- to the lines that are left, of which the Refuted ones are those by which the claim is certified
pub record IsTrimmedLog (y : Layout) (order : List Criterion) (claim : Claim) (log : List ℕ) (r : TrimmedLog) : Type 0
  where
    pub lines : Lines
    pub is_log : IsSpelledLog log lines
    pub caps_are : (c : Criterion) → value_of r.caps c ≡ caps (limit_of y.graph y.grid) lines c
    pub begins : BeginsLines (clause_lines lines) (expected_by y order r).lines
    pub missing : Clauses
    pub whole : flat_map given (expected_by y order r).lines ≡ flat_map given lines ++ missing
    pub wanted : List ℕ
    pub are_wanted : AreWanted (limit_of y.graph y.grid) lines order claim wanted
    pub trimmed : IsTrimmed (lines ++ map Formula missing) wanted r.kept
    pub learnt_is : r.learnt ≡ length (flat_map learnt lines)
