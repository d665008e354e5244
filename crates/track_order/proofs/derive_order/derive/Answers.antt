use Rattle.std.proofs.Common.{inr}
use Rattle.track_order.proofs.OrderLemmas.{tables_are, order_is, first_is}
use Rattle.track_order.proofs.OneOrder.{order_exactly}
use Rattle.track_order.proofs.derive_order.derive.Goals as goal

pub returns-in-Some : goal.returns-in-Some
returns-in-Some c = order_exactly c.args.g.now _ tt (inr (first_is c.args.g.now c.edges-edges.result c.in-Some.e.0 c.in-Some.f.0 c.in_ok-above.above
    c.edges-edges.ensures.value c.in_ok-above.ensures c.in-Some.ensures))

pub invariant_of-result : goal.invariant_of-result
invariant_of-result c = tables_are c.args.g.now c.edges-edges.result c.in_ok-above.above c.in_ok-overlap.overlap c.edges-edges.ensures.value
    c.edges-edges.ensures.limit c.in_ok-above.ensures c.in_ok-overlap.ensures

pub returns : goal.returns
returns c = order_exactly c.args.g.now _ (order_is c.args.g.now c.edges-edges.result c.in_ok-above.above c.in_ok-overlap.overlap c.edges-edges.ensures.value
    c.edges-edges.ensures.limit c.in_ok-above.ensures c.in_ok-overlap.ensures c.in-None.ensures) tt
