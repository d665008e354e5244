use Rattle.std.proofs.Common.{◌≡◌, ◌≤◌, length, take, ap, arith, lit<}
use Rattle.std.proofs.lemmas.List.{length-take}
use Rattle.plan_core.specs.declared.criterion.Criterion.{Criterion}
use Rattle.plan_core.proofs.OrderLemmas.{few_criteria}
use Rattle.plan_core.proofs.order.Order.new.Goals as goal

pub push-requires : goal.push-requires
push-requires c =
    let few : length c.args.list.now ≤ 4 = few_criteria c.args.list.now (c.are_distinct.ensures.0 c.if-not-are_distinct.false) in
    let n : length c.loop-c.order.items ≡ length (take c.loop-c.c-index c.args.list.now) = ap (length {A = Criterion}) c.loop-c.invariant in
    (lit< tt, omega (arith, few, n, length-take {A = Criterion}))
