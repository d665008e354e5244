use Rattle.std.proofs.Common.{◌≡◌, ℕ, ◌<◌, false}
use Rattle.plan_core.specs.Line.{height, west_end}
use Rattle.edge_shape.specs.Columns.{is_level_step}
use Rattle.edge_shape.specs.Columns.{steps_of}
use Rattle.edge_shape.proofs.line_columns.is_level_by.Given as goal

abbrev pub invariant-loop-k : goal.invariant-loop-k
invariant-loop-k l = (j : ℕ) → j < l.k → is_level_step (height l.line) (west_end l.line).x (steps_of l.line) j ≡ false
