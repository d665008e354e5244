use Rattle.std.proofs.Common.{◌≡◌}
use Rattle.lex_minimise.proofs.telling.expect_clauses.Given as goal

abbrev pub invariant-loop-number : goal.invariant-loop-number
invariant-loop-number l = l.solver ≡ l.fn.solver
