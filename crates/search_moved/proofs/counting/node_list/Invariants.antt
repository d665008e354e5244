use Rattle.std.proofs.Common.{◌≡◌, length}
use Rattle.search_moved.specs.Told.{AreNodes}
use Rattle.search_moved.proofs.counting.node_list.Given as goal

abbrev pub invariant-loop-k : goal.invariant-loop-k
invariant-loop-k l = record {
  size : length l.nodes.items ≡ l.k;
  each : AreNodes l.encoded l.nodes.items l.k;
}
