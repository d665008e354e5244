use Rattle.std.specs.Prelude.{ℕ, ◌<◌, slice_index_or}
use Rattle.plan_core.specs.declared.point.Point.{Point}
use Rattle.plan_core.specs.Laws.{IsOnGrid}
use Rattle.lawful_check.proofs.grid_law.is_line_on_grid.Given as goal

abbrev pub invariant-loop-p : goal.invariant-loop-p
invariant-loop-p l = (k : ℕ) (d : Point) → k < l.p-index → IsOnGrid l.grid (slice_index_or l.p-items k d)
