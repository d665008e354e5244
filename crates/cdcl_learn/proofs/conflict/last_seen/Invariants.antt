use Rattle.std.proofs.Common.{◌≡◌, ◌<◌, ℕ, false}
use Rattle.cdcl_learn.specs.Sight.{sight, nth}
use Rattle.cdcl_learn.specs.Cut.{is_seen}
use Rattle.cdcl_learn.proofs.conflict.last_seen.Given as goal

abbrev pub invariant-loop-i : goal.invariant-loop-i
invariant-loop-i l = record {
  below : l.i < l.end;
  none : (j : ℕ) → l.i < j → j < l.end → is_seen l.work.seen (nth (sight l.arena l.trail) j).var ≡ false;
}

abbrev pub decreases-loop-i : goal.decreases-loop-i
decreases-loop-i l = l.i
