-- What is expected of a log.
use Rattle.std.specs.Prelude.{◌≡◌, ◌<◌, ◌⊎◌, ℕ, List, flat_map}
use Rattle.plan_core.specs.declared.criterion.Criterion.{Criterion}
use Rattle.plan_core.specs.Values.{limit_of}
use Rattle.cnf_core.specs.declared.limits.TheConstants.{ROOM, VARS}
use Rattle.cnf_core.specs.Clause.{words_of}
use Rattle.refute_log.specs.Told.{Lines}
use Rattle.refute_log.specs.Log.{given}
use Rattle.refute_log.specs.Expected.{caps, expected_lines, expected_vars}
use Rattle.drawing_cnf.specs.Layout.{Layout, problem_of}
use Rattle.log_check.specs.TextLines.{HasToldBounds}

-- Formula and Bound lines, and how many variables there are with them
pub record Expectation : Type 0 where
  pub lines : Lines
  pub vars : ℕ

-- those of a layout's drawings, with so many bounds of each criterion of an order
abbrev pub expectation : Layout → List Criterion → (Criterion → ℕ) → Expectation
expectation y order cap = record {
  lines = expected_lines (problem_of y) order cap;
  vars = expected_vars (problem_of y) order cap;
}

-- each criterion has as many bounds as the whole text has Bound lines of it without a fault, up to its greatest value
pub record IsExpectedOf (y : Layout) (order : List Criterion) (bytes : List ℕ) (e : Expectation) : Type 0 where
  pub lines : Lines
  pub bounds : HasToldBounds bytes lines
  pub expected_is : e ≡ expectation y order (caps (limit_of y.graph y.grid) lines)

-- there are too many variables, or too many words
abbrev pub PassesLimits : Expectation → Type 0
PassesLimits e = (VARS < e.vars) ⊎ (ROOM < words_of (flat_map given e.lines))
