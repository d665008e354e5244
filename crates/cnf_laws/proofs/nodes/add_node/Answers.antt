use Rattle.std.proofs.Common.{rules}
use Rattle.order_int.specs.OrderInt.{int_clauses}
use Rattle.cnf_core.proofs.StepLemmas.{adds_refused, adds_after}
use Rattle.cnf_laws.specs.Rank.{west_rank}
use Rattle.cnf_laws.specs.Expected.{ints_at_place}
use Rattle.cnf_laws.proofs.CodeLemmas.{adds_int}
use Rattle.cnf_laws.proofs.nodes.add_node.Goals as goal

pub returns-in_err-add_int : goal.returns-in_err-add_int
returns-in_err-add_int c =
    let i = ints_at_place c.args.grid.now (west_rank c.args.g.now c.args.n) in
    adds_refused c.add_int.result c.from_residual.result _ _ (int_clauses i.y) (int_clauses i.x) 2 c.from_residual.ensures.0 (λ k. search (rules, k))
    (adds_int c.add_int.result _ _ c.node_vars-vars.result.y i.y 2 c.node_vars-vars.ensures.y c.add_int.ensures)

pub returns : goal.returns
returns c =
    let i = ints_at_place c.args.grid.now (west_rank c.args.g.now c.args.n) in
    adds_after _ c.add_int-2.result _ _ _ (int_clauses i.y) (int_clauses i.x) 2 (adds_int _ _ _ c.node_vars-vars.result.y i.y 2 c.node_vars-vars.ensures.y
    c.in_ok-add_int.ensures) (adds_int _ _ _ c.node_vars-vars.result.x i.x 2 c.node_vars-vars.ensures.x c.add_int-2.ensures)
