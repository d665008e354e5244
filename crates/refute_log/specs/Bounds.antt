-- What the Bound lines of a log say of values, and which values meet a log.
use Rattle.std.specs.Prelude.{◌≡◌, ◌≤◌, ◌↔◌, ℕ, Bool, true, Contains, flat_map}
use Rattle.plan_core.specs.declared.criterion.Values.{Values}
use Rattle.plan_core.specs.declared.criterion.Criterion.{Criterion}
use Rattle.plan_core.specs.Grid.{GridSize}
use Rattle.plan_core.specs.Graph.{Graph}
use Rattle.plan_core.specs.Drawing.{Drawing}
use Rattle.plan_core.specs.Lawful.{Lawful}
use Rattle.plan_core.specs.Values.{values_of, value_of}
use Rattle.cnf_core.specs.declared.literal.Var.{Var}
use Rattle.cnf_core.specs.Lit.{Literal, positive_of}
use Rattle.cnf_core.specs.Assignment.{Assignment, SatisfiesAll}
use Rattle.refute_log.specs.declared.line.LogLine.TheVariants.{Bound}
use Rattle.refute_log.specs.Told.{Lines}
use Rattle.refute_log.specs.Log.{given}

-- the literal is the bound "the value of c is at least k": the variable of the log's Bound line for c and k.
-- A bound above the greatest value of c, or without a Bound line, is no literal
pub record SaysAtLeast (greatest : Criterion → ℕ) (lines : Lines) (c : Criterion) (k : ℕ) (l : Literal) : Type 0 where
  pub within : k ≤ greatest c
  pub variable : Var
  pub told : Contains lines (Bound c k variable)
  pub is : l ≡ positive_of variable.0

-- some assignment satisfies all Formula lines and makes the variable of each Bound line true exactly where
-- the value of its criterion is at least its number
pub record MeetsLog (lines : Lines) (v : Values) : Type 0 where
  pub assignment : Assignment
  pub formula : SatisfiesAll assignment (flat_map given lines)
  pub bounds : (c : Criterion) (k : ℕ) (x : Var) → Contains lines (Bound c k x) → (assignment x.0 ≡ true)
      ↔ (k ≤ value_of v c)

-- the values of every lawful drawing meet the log
abbrev pub CoversDrawings : Graph → (ℕ → ℕ → Bool) → GridSize → Lines → Type 0
CoversDrawings g above grid lines = (d : Drawing) → Lawful g above grid d → MeetsLog lines (values_of d)
