use Rattle.std.specs.Prelude.{length}
use Rattle.track_order.specs.Order.{is_above, is_overlap}
use Rattle.cnf_laws.specs.Expected.{drawing_vars, edge_pair, pairs_from, instance_pairs}
use Rattle.cnf_laws.proofs.LawCode.{IsLawing}
use Rattle.cnf_laws.proofs.edge_laws.add_edge_pairs.Given as goal

abbrev pub invariant-loop-e : goal.invariant-loop-e
invariant-loop-e l = IsLawing l.g (drawing_vars l.g l.grid) l.grid.width (pairs_from (length l.g.edges) (edge_pair (is_above l.t) (is_overlap l.t))) l.fn.f l.f
    (instance_pairs (length l.g.edges) (edge_pair (is_above l.t) (is_overlap l.t))) l.e l.end
