use Rattle.std.proofs.Common.{◌-◌, length}
use Rattle.refute_check.proofs.AdvanceLemmas.{Propagated}
use Rattle.refute_check.proofs.propagation.propagate.Given as goal

abbrev pub invariant-loop-front : goal.invariant-loop-front
invariant-loop-front l = Propagated l.formula.vars l.formula.clauses l.fn.trail.items l.fn.counts l.fn.noted.items l.truth l.trail.items l.counts
    l.noted.items l.from l.front

abbrev pub decreases-loop-front : goal.decreases-loop-front
decreases-loop-front l = length l.truth - l.front
