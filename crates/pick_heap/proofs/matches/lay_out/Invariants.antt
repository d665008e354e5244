use Rattle.std.proofs.Common.{◌≡◌, ℕ, ◌+◌, ◌<◌, ◌≤◌}
use Rattle.pick_heap.specs.Tree.{entry_at, HaveActivities, leaf_word}
use Rattle.pick_heap.proofs.matches.lay_out.Given as goal

abbrev pub invariant-loop-k : goal.invariant-loop-k
invariant-loop-k l = (k : ℕ) → k < l.k → entry_at l.tree k ≡ 0

abbrev pub invariant-loop-v : goal.invariant-loop-v
invariant-loop-v l = record {
  named : HaveActivities l.activities l.tree;
  laid : (i : ℕ) → i + 1 < l.v → entry_at l.tree (l.leaves + i) ≡ leaf_word l.held (i + 1);
  rest : (i : ℕ) → l.v ≤ i + 1 → entry_at l.tree (l.leaves + i) ≡ 0;
}
