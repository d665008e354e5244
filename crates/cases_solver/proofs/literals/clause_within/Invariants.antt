use Rattle.cnf_core.specs.Clause.{AreDistinct, AreThere}
use Rattle.cases_solver.proofs.literals.clause_within.Given as goal

abbrev pub invariant-loop-l : goal.invariant-loop-l
invariant-loop-l l = AreDistinct l.lits.items × AreThere l.vars l.lits.items
