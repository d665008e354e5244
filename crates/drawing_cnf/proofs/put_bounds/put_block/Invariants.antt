use Rattle.std.specs.Prelude.{◌≡◌, length}
use Rattle.cnf_core.specs.Truths.{assignment}
use Rattle.drawing_cnf.proofs.PutBounds.{IsPuttingBlock}
use Rattle.drawing_cnf.proofs.put_bounds.put_block.Given as goal

abbrev pub invariant-loop-k : goal.invariant-loop-k
invariant-loop-k l = IsPuttingBlock l.last l.value (assignment l.initial.m) (assignment l.m) l.k × (length l.m ≡ length l.initial.m)
