use Rattle.std.specs.Prelude.{◌≡◌, length}
use Rattle.track_order.specs.Order.{is_above, is_overlap}
use Rattle.cnf_core.specs.Truths.{assignment}
use Rattle.cnf_laws.specs.Expected.{edge_pair, pairs_from, instance_pairs}
use Rattle.drawing_cnf.proofs.PutLaws.{IsPuttingLaws}
use Rattle.drawing_cnf.proofs.put_laws.put_edge_pairs.Given as goal

abbrev pub invariant-loop-e : goal.invariant-loop-e
invariant-loop-e l = IsPuttingLaws l.s.graph.now l.s.grid.now (pairs_from (length l.s.graph.now.edges)
    (edge_pair (is_above l.s.order.now) (is_overlap l.s.order.now))) (instance_pairs (length l.s.graph.now.edges)
    (edge_pair (is_above l.s.order.now) (is_overlap l.s.order.now))) l.first (assignment l.initial.m) (assignment l.m) l.next l.e l.end ×
    (length l.m ≡ length l.initial.m)
