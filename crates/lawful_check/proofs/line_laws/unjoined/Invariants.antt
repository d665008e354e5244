use Rattle.std.specs.Prelude.{◌<◌, length}
use Rattle.plan_core.specs.Laws.{LineJoinsItsNodes}
use Rattle.lawful_check.specs.Holding.{HoldsTo}
use Rattle.lawful_check.proofs.line_laws.unjoined.Given as goal

abbrev pub invariant-loop-e : goal.invariant-loop-e
invariant-loop-e l = HoldsTo (λ e. e < length l.g.edges) (LineJoinsItsNodes l.g l.grid l.d) l.e
