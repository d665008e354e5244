use Rattle.refute_check.proofs.AssumeLemmas.{Assumed}
use Rattle.refute_check.proofs.assume.assume_false.Given as goal

abbrev pub invariant-loop-l : goal.invariant-loop-l
invariant-loop-l l = Assumed l.vars l.lits l.fn.trail.items l.truth l.trail.items l.l-index
