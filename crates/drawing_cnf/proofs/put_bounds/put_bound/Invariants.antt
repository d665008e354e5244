use Rattle.std.specs.Prelude.{◌≡◌, ◌+◌, length}
use Rattle.cnf_core.specs.Truths.{assignment}
use Rattle.drawing_cnf.proofs.PutBounds.{IsPuttingSums}
use Rattle.drawing_cnf.proofs.put_bounds.put_bound.Given as goal

abbrev pub invariant-loop-s : goal.invariant-loop-s
invariant-loop-s l = IsPuttingSums (l.k.last + l.k.cap) l.k.sums.items l.s-index (assignment l.initial.m) (assignment l.m) × (length l.m ≡ length l.initial.m)
