use Rattle.std.proofs.Common.{take}
use Rattle.std.specs.Prelude.{All, Contains}
use Rattle.cnf_core.specs.Lit.{negate}
use Rattle.refute_check.proofs.judging.are_negated.Given as goal

abbrev pub invariant-loop-l : goal.invariant-loop-l
invariant-loop-l l = All (λ k. Contains l.query (negate k)) (take l.l-index l.lits)
