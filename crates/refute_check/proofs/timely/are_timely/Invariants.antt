use Rattle.refute_check.proofs.TimelyLemmas.{AreTimelyTo}
use Rattle.refute_check.proofs.timely.are_timely.Given as goal

abbrev pub invariant-loop-i : goal.invariant-loop-i
invariant-loop-i l = AreTimelyTo l.lines l.i l.vars l.query
