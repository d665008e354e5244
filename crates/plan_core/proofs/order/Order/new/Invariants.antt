use Rattle.std.proofs.Common.{◌≡◌, take}
use Rattle.plan_core.proofs.order.Order.new.Given as goal

abbrev pub invariant-loop-c : goal.invariant-loop-c
invariant-loop-c l = l.order.items ≡ take l.c-index l.list
