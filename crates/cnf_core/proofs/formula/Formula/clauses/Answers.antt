use Rattle.std.proofs.Common.{arith}
use Rattle.cnf_core.proofs.StoreLemmas.{stored_small, stored_count}
use Rattle.cnf_core.proofs.formula.Formula.clauses.Goals as goal

pub overflow_cast-result : goal.overflow_cast-result
overflow_cast-result c = omega (arith, stored_small _ _ _ _ c.self.invariant)

pub returns-clause-value : goal.returns-clause-value
returns-clause-value c = omega (arith, stored_count _ _ _ _ _ c.self.view_is)
