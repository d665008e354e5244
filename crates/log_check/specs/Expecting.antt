-- What is expected, built up criterion by criterion.
use Rattle.std.specs.Prelude.{◌≡◌, ℕ, List, length, flat_map}
use Rattle.plan_core.specs.declared.criterion.Criterion.{Criterion}
use Rattle.cnf_core.specs.declared.limits.TheConstants.{ROOM}
use Rattle.refute_log.specs.Log.{given}
use Rattle.drawing_cnf.specs.Encoding.{Encoding}
use Rattle.drawing_cnf.specs.Whole.{IsWhole}
use Rattle.drawing_cnf.specs.Layout.{Layout, layout_of}
use Rattle.log_check.specs.declared.awaited.Part.{Part}
use Rattle.log_check.specs.Expectation.{expectation}
use Rattle.log_check.specs.Awaited.{lines_from, clause_after, AreParts}

-- the formula and the parts are those of these criteria, with so many bounds of each
pub record IsExpecting (y : Layout) (order : List Criterion) (cap : Criterion → ℕ) (e : Encoding) (parts : List Part) :
    Type 0 where
  pub layout : layout_of e ≡ y
  pub whole : IsWhole e
  pub room : e.formula.room ≡ ROOM
  pub vars : e.formula.vars ≡ (expectation y order cap).vars
  pub clauses : e.formula.clauses ≡ flat_map given (expectation y order cap).lines
  pub each : AreParts e.formula.clauses parts
  pub after : clause_after parts 0 ≡ length e.formula.clauses
  pub lines : lines_from e.formula.clauses parts 0 0 ≡ (expectation y order cap).lines
