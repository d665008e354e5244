use Rattle.std.proofs.Common.{◌↔◌, length}
use Rattle.cnf_core.specs.Clause.{AreDistinct}
use Rattle.refute_log.proofs.literals.are_apart.Given as goal

abbrev pub invariant-loop-rest : goal.invariant-loop-rest
invariant-loop-rest l = AreDistinct l.rest ↔ AreDistinct l.literals

abbrev pub decreases-loop-rest : goal.decreases-loop-rest
decreases-loop-rest l = length l.rest
