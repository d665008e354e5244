use Rattle.std.proofs.Common.{length}
use Rattle.refute_check.proofs.UndoLemmas.{Dropped}
use Rattle.refute_check.proofs.undo.unmark_behind.Given as goal

abbrev pub invariant-loop-truth : goal.invariant-loop-truth
invariant-loop-truth l = Dropped l.vars l.fn.trail.items l.truth l.trail.items l.level

abbrev pub decreases-loop-truth : goal.decreases-loop-truth
decreases-loop-truth l = length l.trail.items
