use Rattle.std.proofs.Common.{arith}
use Rattle.cnf_core.proofs.formula.Formula.len_of.Goals as goal

pub overflow_cast-result : goal.overflow_cast-result
overflow_cast-result c = omega (arith, c.lits_of.ensures.small)
