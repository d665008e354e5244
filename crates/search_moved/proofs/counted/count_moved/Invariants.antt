use Rattle.std.proofs.Common.{◌≡◌, ◌≤◌}
use Rattle.plan_core.specs.Drawing.{place}
use Rattle.drawing_cnf.specs.Rank.{count_below}
use Rattle.drawing_cnf.specs.Moved.{is_moved, former_at}
use Rattle.search_moved.proofs.counted.count_moved.Given as goal

abbrev pub invariant-loop-k : goal.invariant-loop-k
invariant-loop-k l = (l.count ≡ count_below (λ j. is_moved (former_at l.former j) (place l.d j)) l.k) × (l.count ≤ l.k)
