use Rattle.std.proofs.Common.{arith}
use Rattle.plan_core.specs.Laws.{EdgeIsOver}
use Rattle.plan_core.specs.Lawful.{IsAbovePair}
use Rattle.track_order.specs.Order.{is_above}
use Rattle.lawful_check.proofs.HoldingLemmas.{pairs_end}
use Rattle.lawful_check.proofs.edge_laws.least_not_over.Goals as goal

pub returns : goal.returns
returns c = pairs_end (IsAbovePair c.args.g.now (is_above c.args.t.now)) (EdgeIsOver c.args.g.now c.args.d.now) c.loop-e.e
    (λ a b past is. let one = is.first in let two = is.second in omega (arith, one, two, past, c.loop-e-test.false, c.edges-e-end.ensures.value))
    c.loop-e.invariant
