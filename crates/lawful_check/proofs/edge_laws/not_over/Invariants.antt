use Rattle.plan_core.specs.Laws.{EdgeIsOver}
use Rattle.plan_core.specs.Lawful.{IsAbovePair}
use Rattle.track_order.specs.Order.{is_above}
use Rattle.lawful_check.specs.Holding.{HoldsToPair}
use Rattle.lawful_check.proofs.edge_laws.not_over.Given as goal

abbrev pub invariant-loop-f : goal.invariant-loop-f
invariant-loop-f l = HoldsToPair (IsAbovePair l.g (is_above l.t)) (EdgeIsOver l.g l.d) l.e l.f
