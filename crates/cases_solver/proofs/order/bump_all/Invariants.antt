use Rattle.std.proofs.Common.{◌≡◌}
use Rattle.cases_solver.proofs.order.bump_all.Given as goal

abbrev pub invariant-each : goal.invariant-each
invariant-each l = l.heap.vars ≡ 6

abbrev pub invariant-often : goal.invariant-often
invariant-often l = l.heap.vars ≡ 6
