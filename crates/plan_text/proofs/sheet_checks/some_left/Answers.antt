use Rattle.std.proofs.Common.{arith}
use Rattle.plan_core.proofs.OrderLemmas.{few_criteria}
use Rattle.plan_text.proofs.sheet_checks.some_left.Goals as goal

pub overflow_cast-result : goal.overflow_cast-result
overflow_cast-result c =
    let few = few_criteria c.args.order.now c.len.ensures.is_order.each_once in
    let less = c.if-settled-len.true in
    let n = c.len.ensures.value in
    omega (arith, few, less, n)
