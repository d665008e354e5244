use Rattle.std.proofs.Common.{ℕ, ◌≤◌, ◌<◌}
use Rattle.pick_heap.specs.Tree.{HaveActivities, IsWonAt, KeepsLeaves}
use Rattle.pick_heap.proofs.matches.play_all.Given as goal

abbrev pub invariant-loop-k : goal.invariant-loop-k
invariant-loop-k l = record {
  to : l.k ≤ l.leaves;
  named : HaveActivities l.activities l.tree;
  won : (j : ℕ) → l.k ≤ j → j < l.leaves → IsWonAt l.activities l.tree j;
  kept : KeepsLeaves l.leaves l.fn.tree l.tree;
}

abbrev pub decreases-loop-k : goal.decreases-loop-k
decreases-loop-k l = l.k
