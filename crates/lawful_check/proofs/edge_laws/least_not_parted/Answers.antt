use Rattle.std.proofs.Common.{arith}
use Rattle.plan_core.specs.Laws.{EdgesAreParted}
use Rattle.plan_core.specs.Lawful.{IsOtherPair}
use Rattle.track_order.specs.Order.{is_above}
use Rattle.lawful_check.proofs.HoldingLemmas.{pairs_end}
use Rattle.lawful_check.proofs.edge_laws.least_not_parted.Goals as goal

pub returns : goal.returns
returns c = pairs_end (IsOtherPair c.args.g.now (is_above c.args.t.now)) (EdgesAreParted c.args.g.now c.args.d.now) c.loop-e.e
    (λ a b past is. let one = is.pair.rising in let two = is.pair.within in omega (arith, one, two, past, c.loop-e-test.false, c.edges-e-end.ensures.value))
    c.loop-e.invariant
