use Rattle.std.specs.Prelude.{take}
use Rattle.track_order.specs.Filling.{IsFilling}
use Rattle.track_order.proofs.reaching.reach.Given as goal

abbrev pub invariant-loop-e : goal.invariant-loop-e
invariant-loop-e l = IsFilling l.g l.way l.start (take l.e-index l.order) l.filling.edges.items l.filling.nodes.items
