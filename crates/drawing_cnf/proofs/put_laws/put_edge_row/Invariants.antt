use Rattle.std.specs.Prelude.{◌≡◌, length}
use Rattle.track_order.specs.Order.{is_above, is_overlap}
use Rattle.cnf_core.specs.Truths.{assignment}
use Rattle.cnf_laws.specs.Expected.{edge_pair, pairs_from}
use Rattle.drawing_cnf.proofs.PutLaws.{IsPuttingLaws}
use Rattle.drawing_cnf.proofs.put_laws.put_edge_row.Given as goal

abbrev pub invariant-loop-f : goal.invariant-loop-f
invariant-loop-f l = IsPuttingLaws l.s.graph.now l.s.grid.now (edge_pair (is_above l.s.order.now) (is_overlap l.s.order.now) l.e)
    (pairs_from (length l.s.graph.now.edges) (edge_pair (is_above l.s.order.now) (is_overlap l.s.order.now)) l.e) l.first (assignment l.initial.m)
    (assignment l.m) l.next l.f l.end × (length l.m ≡ length l.initial.m)
