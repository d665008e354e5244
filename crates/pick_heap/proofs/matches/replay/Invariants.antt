use Rattle.std.proofs.Common.{◌≤◌, ◌<◌, ◌*◌, ◌/◌}
use Rattle.pick_heap.specs.Tree.{HaveActivities, IsWonBut, KeepsLeaves}
use Rattle.pick_heap.proofs.matches.replay.Given as goal

abbrev pub invariant-loop-k : goal.invariant-loop-k
invariant-loop-k l = record {
  from : 1 ≤ l.k;
  to : l.k < 2 * l.leaves;
  named : HaveActivities l.activities l.tree;
  won : IsWonBut l.activities l.tree l.leaves (l.k / 2);
  kept : KeepsLeaves l.leaves l.fn.tree l.tree;
}

abbrev pub decreases-loop-k : goal.decreases-loop-k
decreases-loop-k l = l.k
