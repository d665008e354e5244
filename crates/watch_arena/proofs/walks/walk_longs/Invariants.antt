use Rattle.std.proofs.Common.{length, ◌≡◌, ◌<◌, ◌≤◌, false}
use Rattle.cnf_core.specs.Lit.{literal_at, negate, has}
use Rattle.cnf_core.specs.Propagation.{IsIn}
use Rattle.watch_arena.specs.Trail.{IsMarks}
use Rattle.watch_arena.specs.Rows.{pairs_of}
use Rattle.watch_arena.specs.Walk.{HasWalked, done_of, past_of}
use Rattle.watch_arena.specs.Filed.{IsWalking}
use Rattle.watch_arena.proofs.walks.walk_longs.Given as goal

abbrev pub invariant-loop-i : goal.invariant-loop-i
invariant-loop-i l = record {
  marks : IsMarks l.trail;
  front : l.trail.front ≡ l.fn.trail.front;
  below : l.trail.front < length l.trail.lits;
  made : HasWalked l.fn.trail l.trail l.fn.words l.words l.places;
  was : l.from ≡ pairs_of l.fn.rows l.w;
  pairs : pairs_of l.rows l.w ≡ l.from;
  low : l.from ≤ l.i;
  walking : IsWalking l.trail l.words l.places l.rows (done_of l.trail) l.w l.from l.i;
  false_now : IsIn (has l.trail.lits) (negate (literal_at l.w));
  fresh : past_of l.trail (negate (literal_at l.w)) ≡ false;
}

abbrev pub decreases-loop-i : goal.decreases-loop-i
decreases-loop-i l = l.i
