use Rattle.std.specs.Prelude.{◌<◌, length}
use Rattle.plan_core.specs.Laws.{LineIsOnGrid}
use Rattle.lawful_check.specs.Holding.{HoldsTo}
use Rattle.lawful_check.proofs.grid_law.line_off_grid.Given as goal

abbrev pub invariant-loop-e : goal.invariant-loop-e
invariant-loop-e l = HoldsTo (λ e. e < length l.d.lines) (LineIsOnGrid l.grid l.d) l.e
