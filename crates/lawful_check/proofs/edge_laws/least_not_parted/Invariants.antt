use Rattle.plan_core.specs.Laws.{EdgesAreParted}
use Rattle.plan_core.specs.Lawful.{IsOtherPair}
use Rattle.track_order.specs.Order.{is_above}
use Rattle.lawful_check.specs.Holding.{HoldsToPair}
use Rattle.lawful_check.proofs.edge_laws.least_not_parted.Given as goal

abbrev pub invariant-loop-e : goal.invariant-loop-e
invariant-loop-e l = HoldsToPair (IsOtherPair l.g (is_above l.t)) (EdgesAreParted l.g l.d) l.e 0
