use Rattle.std.proofs.Common.{take}
use Rattle.std.specs.Prelude.{All}
use Rattle.cnf_core.specs.Clause.{HasAllOf}
use Rattle.refute_check.proofs.checker.Checker.verdict.Given as goal

abbrev pub invariant-loop-clause : goal.invariant-loop-clause
invariant-loop-clause l = All (λ c. HasAllOf l.allowed c → ⊥) (take l.clause-index l.clause-items)
