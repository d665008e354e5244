use Rattle.std.specs.Prelude.{length}
use Rattle.plan_core.specs.Laws.{NodesAreApart}
use Rattle.plan_core.specs.Lawful.{IsPair}
use Rattle.lawful_check.specs.Holding.{HoldsToPair}
use Rattle.lawful_check.proofs.node_laws.meeting.Given as goal

abbrev pub invariant-loop-u : goal.invariant-loop-u
invariant-loop-u l = HoldsToPair (IsPair (length l.d.places)) (NodesAreApart l.d) l.u 0
