use Rattle.std.proofs.Common.{◌-◌}
use Rattle.refute_check.proofs.KeepLemmas.{Grown}
use Rattle.refute_check.proofs.keeping.grow.Given as goal

abbrev pub invariant-loop-alloc : goal.invariant-loop-alloc
invariant-loop-alloc l = Grown l.fn.formula l.formula l.tables l.vars

abbrev pub decreases-loop-alloc : goal.decreases-loop-alloc
decreases-loop-alloc l = l.vars - l.formula.vars
