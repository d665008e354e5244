use Rattle.std.proofs.Common.{◌↔◌, drop}
use Rattle.cnf_core.specs.Clause.{Avoids}
use Rattle.refute_log.proofs.literals.lack.Given as goal

abbrev pub invariant-loop-literal : goal.invariant-loop-literal
invariant-loop-literal l = Avoids l.variable.0 (drop l.literal-index l.literals) ↔ Avoids l.variable.0 l.literals
