use Rattle.std.proofs.Common.{◌≤◌, ◌*◌, ◌-◌}
use Rattle.cnf_core.specs.declared.limits.TheConstants.{VARS}
use Rattle.pick_heap.proofs.heap.leaves_for.Given as goal

abbrev pub invariant-loop-leaves : goal.invariant-loop-leaves
invariant-loop-leaves l = record { some : 1 ≤ l.leaves; limit : l.leaves ≤ 2 * VARS }

abbrev pub decreases-loop-leaves : goal.decreases-loop-leaves
decreases-loop-leaves l = l.vars - l.leaves
