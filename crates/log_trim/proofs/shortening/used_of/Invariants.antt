use Rattle.std.proofs.Common.{◌≡◌, ◌+◌, ◌≤◌, drop, length}
use Rattle.log_trim.specs.Shortened.{learnt_among, IsMarkedFrom}
use Rattle.log_trim.proofs.shortening.used_of.Given as goal

abbrev pub invariant-loop-i : goal.invariant-loop-i
invariant-loop-i l = record {
  size : length l.used.items ≡ l.total + 1;
  within : l.i ≤ length l.list;
  count : l.n + learnt_among (drop l.i l.list) ≡ l.total;
  marked : IsMarkedFrom l.used.items l.n (drop l.i l.list);
}

abbrev pub decreases-loop-i : goal.decreases-loop-i
decreases-loop-i l = l.i
