use Rattle.std.proofs.Common.{take}
use Rattle.watch_arena.specs.Arena.{attached_at}
use Rattle.log_trim.specs.Found.{NeedsWithin}
use Rattle.log_trim.proofs.needs.need.Given as goal

abbrev pub invariant-loop-i : goal.invariant-loop-i
invariant-loop-i l = NeedsWithin (take l.i (attached_at l.arena l.clause.0)) l.fn.needed l.needed
