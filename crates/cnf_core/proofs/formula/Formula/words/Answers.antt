use Rattle.std.proofs.Common.{arith}
use Rattle.cnf_core.proofs.StoreLemmas.{stored_small, stored_words}
use Rattle.cnf_core.proofs.formula.Formula.words.Goals as goal

pub overflow_cast-result : goal.overflow_cast-result
overflow_cast-result c = omega (arith, stored_small _ _ _ _ c.self.invariant)

pub overflow_cast-result-2 : goal.overflow_cast-result-2
overflow_cast-result-2 c = omega (arith, stored_small _ _ _ _ c.self.invariant)

pub overflow_mul-result : goal.overflow_mul-result
overflow_mul-result c = omega (arith, stored_small _ _ _ _ c.self.invariant)

pub overflow_add-result : goal.overflow_add-result
overflow_add-result c = omega (arith, stored_small _ _ _ _ c.self.invariant)

pub returns-clause-value : goal.returns-clause-value
returns-clause-value c = omega (arith, stored_words _ _ _ _ _ c.self.invariant c.self.view_is)
