-- Which lines of a log are timely: their variables came in Formula lines before, and a Refuted line answers the latest
-- query.
-- This is all that StandsOn asks of a line besides that its clause follows and is new.
use Rattle.std.specs.Prelude.{◌≡◌, ℕ, Some, slice_get, take}
use Rattle.refute_log.specs.declared.line.LogLine.{LogLine}
use Rattle.refute_log.specs.Told.{Lines}
use Rattle.refute_log.specs.Log.{Facts, facts_of, Answers}
use Rattle.refute_check.specs.Kept.{NamesNoNew}

-- a Learnt, Query or Refuted line names no variable greater than all in the Formula lines before it, and a Refuted line
-- answers the latest query
pub record IsTimely (facts : Facts) (line : LogLine) : Type 0 where
  pub named : NamesNoNew facts line
  pub answers : Answers facts.query line

-- each line after those before it
abbrev pub AreTimely : Lines → Type 0
AreTimely lines = (i : ℕ) (line : LogLine) → slice_get lines i ≡ Some line → IsTimely (facts_of (take i lines)) line
