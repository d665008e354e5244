use Rattle.std.specs.Prelude.{length}
use Rattle.track_order.specs.Order.{is_above, is_overlap}
use Rattle.cnf_laws.specs.Expected.{drawing_vars, edge_pair, pairs_from}
use Rattle.cnf_laws.proofs.LawCode.{IsLawing}
use Rattle.cnf_laws.proofs.edge_laws.add_edge_row.Given as goal

abbrev pub invariant-loop-h : goal.invariant-loop-h
invariant-loop-h l = IsLawing l.g (drawing_vars l.g l.grid) l.grid.width (edge_pair (is_above l.t) (is_overlap l.t) l.e) l.fn.f l.f
    (pairs_from (length l.g.edges) (edge_pair (is_above l.t) (is_overlap l.t)) l.e) l.h l.end
