use Rattle.std.proofs.Common.{take}
use Rattle.refute_check.proofs.GrowthLemmas.{Passed}
use Rattle.refute_check.proofs.looks.count_each.Given as goal

abbrev pub invariant-loop-n : goal.invariant-loop-n
invariant-loop-n l = Passed l.formula.vars l.formula.clauses (take l.n-index l.numbers) l.fn.counts l.fn.trail.items l.counts l.truth l.trail.items l.found
