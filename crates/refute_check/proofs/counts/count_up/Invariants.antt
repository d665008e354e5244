use Rattle.std.proofs.Common.{take}
use Rattle.refute_check.specs.Tables.{CountedUp}
use Rattle.refute_check.proofs.counts.count_up.Given as goal

abbrev pub invariant-loop-n : goal.invariant-loop-n
invariant-loop-n l = CountedUp (take l.n-index l.places) l.fn.counts l.counts
