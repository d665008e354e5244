use Rattle.std.proofs.Common.{◌*◌, ◌+◌, ◌-◌, ◌≤◌}
use Rattle.watch_arena.specs.Walk.{HasWalked, past_of}
use Rattle.watch_arena.specs.Filed.{IsWatched}
use Rattle.watch_arena.proofs.walks.propagate.Given as goal

abbrev pub invariant-loop-words : goal.invariant-loop-words
invariant-loop-words l = record {
  made : HasWalked l.fn.trail l.trail l.fn.words l.words l.places;
  counted : l.fn.visits ≤ l.visits;
  watched : IsWatched l.trail l.words l.places l.rows (past_of l.trail);
}

abbrev pub decreases-loop-words : goal.decreases-loop-words
decreases-loop-words l = 2 * l.trail.vars + 2 - l.trail.front
