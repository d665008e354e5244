use Rattle.std.proofs.Common.{◌≡◌}
use Rattle.watch_arena.proofs.attach.expect_all.Given as goal

abbrev pub invariant-loop-l : goal.invariant-loop-l
invariant-loop-l l = l.rows ≡ l.fn.rows
