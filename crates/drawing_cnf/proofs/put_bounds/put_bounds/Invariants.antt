use Rattle.std.specs.Prelude.{◌≡◌, length}
use Rattle.cnf_core.specs.Truths.{assignment}
use Rattle.track_order.specs.Order.{is_above, is_overlap}
use Rattle.cnf_laws.specs.Expected.{formula_size}
use Rattle.drawing_cnf.proofs.PutBounds.{IsPuttingBounds}
use Rattle.drawing_cnf.proofs.put_bounds.put_bounds.Given as goal

abbrev pub invariant-loop-k : goal.invariant-loop-k
invariant-loop-k l = IsPuttingBounds l.s.graph.now l.s.grid.now l.bounds (formula_size l.s.graph.now (is_above l.s.order.now) (is_overlap l.s.order.now)
    l.s.grid.now) l.k-index (assignment l.initial.m) (assignment l.m) × (length l.m ≡ length l.initial.m)
