use Rattle.std.proofs.Common.{rules, [], ◌∷◌, length}
use Rattle.plan_core.specs.Lawful.{Apart}
use Rattle.track_order.specs.Order.{is_above, is_overlap}
use Rattle.cnf_laws.specs.Expected.{drawing_vars, instance_pairs, edge_pair}
use Rattle.cnf_laws.proofs.LawCode.{laws_refused, laws_after}
use Rattle.cnf_laws.proofs.whole.add_last_laws.Goals as goal

pub returns-in_err-add_apart_pairs : goal.returns-in_err-add_apart_pairs
returns-in_err-add_apart_pairs c =
    let g = c.args.g.now in
    let d = c.args.grid.now in
    let last = instance_pairs (length g.edges) (edge_pair (is_above c.args.t.now) (is_overlap c.args.t.now)) in
    let xs = instance_pairs (length g.nodes) (λ u v. Apart u v ∷ []) in
    let ys = last in
    laws_refused c.add_apart_pairs.result c.from_residual.result _ _ g (drawing_vars g d) d.width xs ys 7 c.from_residual.ensures.0 (λ k. search (rules, k))
    c.add_apart_pairs.ensures

pub returns : goal.returns
returns c =
    let g = c.args.g.now in
    let d = c.args.grid.now in
    let last = instance_pairs (length g.edges) (edge_pair (is_above c.args.t.now) (is_overlap c.args.t.now)) in
    let xs = instance_pairs (length g.nodes) (λ u v. Apart u v ∷ []) in
    let ys = last in
    laws_after _ c.add_edge_pairs.result _ _ _ g (drawing_vars g d) d.width xs ys 7 c.in_ok-add_apart_pairs.ensures c.add_edge_pairs.ensures
