use Rattle.cnf_core.specs.Clause.{AreThere}
use Rattle.cases_solver.proofs.written.literals.Given as goal

abbrev pub invariant-loop-number : goal.invariant-loop-number
invariant-loop-number l = AreThere l.vars l.lits.items
