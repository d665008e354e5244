use Rattle.std.proofs.Common.{◌≢◌, take}
use Rattle.std.specs.Prelude.{All}
use Rattle.cases_solver.proofs.literals.has_var.Given as goal

abbrev pub invariant-loop-k : goal.invariant-loop-k
invariant-loop-k l = All (λ k. k.var ≢ l.l.var) (take l.k-index l.lits)
