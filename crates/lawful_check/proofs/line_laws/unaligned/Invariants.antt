use Rattle.std.specs.Prelude.{◌<◌, length}
use Rattle.plan_core.specs.Laws.{NodeIsAligned}
use Rattle.lawful_check.specs.Holding.{HoldsTo}
use Rattle.lawful_check.proofs.line_laws.unaligned.Given as goal

abbrev pub invariant-loop-n : goal.invariant-loop-n
invariant-loop-n l = HoldsTo (λ n. n < length l.g.nodes) (NodeIsAligned l.g l.d) l.n
