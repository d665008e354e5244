use Rattle.std.proofs.Common.{ℕ, ◌≤◌, ◌-◌, take}
use Rattle.cnf_core.specs.Trail.{IsTrail}
use Rattle.watch_arena.proofs.trail.unset.Given as goal

abbrev pub invariant-loop-len : goal.invariant-loop-len
invariant-loop-len l = record {
  from : l.from ≤ l.len;
  to : l.len ≤ l.to;
  trail : (vars : ℕ) → IsTrail vars l.fn.truth (take l.to l.order) → IsTrail vars l.truth (take l.len l.order);
}

abbrev pub decreases-loop-len : goal.decreases-loop-len
decreases-loop-len l = l.len - l.from
