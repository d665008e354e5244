use Rattle.std.specs.Prelude.{◌<◌, length}
use Rattle.plan_core.specs.Laws.{NodeIsOnGrid}
use Rattle.lawful_check.specs.Holding.{HoldsTo}
use Rattle.lawful_check.proofs.grid_law.node_off_grid.Given as goal

abbrev pub invariant-loop-n : goal.invariant-loop-n
invariant-loop-n l = HoldsTo (λ n. n < length l.d.places) (NodeIsOnGrid l.grid l.d) l.n
