use Rattle.std.proofs.Common.{arith}
use Rattle.cnf_core.proofs.StoreLemmas.{stored_vars}
use Rattle.cnf_core.proofs.formula.Formula.new_var.Goals as goal

pub invariant_of-self : goal.invariant_of-self
invariant_of-self c = let ne = c.if-self-eq-VARS.false in let le = c.self.invariant.formula.vars_limit in stored_vars _ _ 1 _ _ (omega arith) c.self.invariant
