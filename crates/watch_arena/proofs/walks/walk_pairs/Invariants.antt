use Rattle.std.proofs.Common.{length, ◌≡◌, ◌<◌, false}
use Rattle.cnf_core.specs.Lit.{literal_at, negate, has}
use Rattle.cnf_core.specs.Propagation.{IsIn}
use Rattle.watch_arena.specs.Trail.{IsMarks}
use Rattle.watch_arena.specs.Rows.{row_of}
use Rattle.watch_arena.specs.Walk.{HasWalked, done_of, past_of}
use Rattle.watch_arena.specs.Filed.{IsWalking}
use Rattle.watch_arena.proofs.walks.walk_pairs.Given as goal

abbrev pub invariant-loop-i : goal.invariant-loop-i
invariant-loop-i l = record {
  marks : IsMarks l.trail;
  front : l.trail.front ≡ l.fn.trail.front;
  below : l.trail.front < length l.trail.lits;
  made : HasWalked l.fn.trail l.trail l.words l.words l.places;
  walking : IsWalking l.trail l.words l.places l.rows (done_of l.trail) l.w l.i (length (row_of l.rows l.w));
  false_now : IsIn (has l.trail.lits) (negate (literal_at l.w));
  fresh : past_of l.trail (negate (literal_at l.w)) ≡ false;
}
