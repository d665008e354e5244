use Rattle.std.specs.Prelude.{All}
use Rattle.cnf_core.specs.Clause.{IsNamed}
use Rattle.cases_solver.proofs.queries.ask.Given as goal

abbrev pub invariant-loop-numbers : goal.invariant-loop-numbers
invariant-loop-numbers l = All (λ k. IsNamed l.solver.clauses k.var) l.lits.items
