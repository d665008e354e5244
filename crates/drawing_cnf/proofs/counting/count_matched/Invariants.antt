use Rattle.std.proofs.Common.{◌≡◌, ◌≤◌}
use Rattle.drawing_cnf.specs.Moved.{matched_before}
use Rattle.drawing_cnf.proofs.counting.count_matched.Given as goal

abbrev pub invariant-loop-k : goal.invariant-loop-k
invariant-loop-k l = (l.count ≡ matched_before l.former l.k) × (l.count ≤ l.k)
