use Rattle.std.specs.Prelude.{All}
use Rattle.cnf_core.specs.Clause.{IsNamed}
use Rattle.cases_solver.proofs.queries.assumptions.Given as goal

abbrev pub invariant-loop-number : goal.invariant-loop-number
invariant-loop-number l = All (λ k. IsNamed l.solver.clauses k.var) l.held.items
