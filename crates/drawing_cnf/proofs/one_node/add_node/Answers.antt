use Rattle.std.proofs.Common.{rules, ◌++◌, arith}
use Rattle.cnf_core.proofs.StepLemmas.{adds_refused, adds_after, adds_longer}
use Rattle.edge_shape.specs.EdgeVars.{node_ints}
use Rattle.drawing_cnf.specs.MovedClauses.{kept_clause, unlike_clauses}
use Rattle.drawing_cnf.proofs.one_node.add_node.Goals as goal

pub returns-in_err-add_kept : goal.returns-in_err-add_kept
returns-in_err-add_kept c =
    let n = node_ints c.args.n.now.x c.args.n.now.y in
    adds_refused c.add_kept.result c.from_residual.result _ _ (kept_clause n c.args.q c.args.m)
    (unlike_clauses n.x c.args.q.x c.args.m ++ unlike_clauses n.y c.args.q.y c.args.m) 5 c.from_residual.ensures.0 (λ k. search (rules, k)) c.add_kept.ensures

pub returns : goal.returns
returns c =
    let n = node_ints c.args.n.now.x c.args.n.now.y in
    let xs = unlike_clauses n.x c.args.q.x c.args.m ++ unlike_clauses n.y c.args.q.y c.args.m in
    adds_after _ c.add_moved.result _ _ _ (kept_clause n c.args.q c.args.m) xs 5 c.in_ok-add_kept.ensures
    (adds_longer c.add_moved.result _ _ xs 2 5 (omega arith) c.add_moved.ensures)
