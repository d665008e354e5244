use Rattle.std.proofs.Common.{rules, ◌≡◌, ◌<◌, ◌++◌, [], ◌∷◌, length, ◌∙◌, ap, arith}
use Rattle.cnf_core.specs.declared.literal.LitOrTruth.{LitOrTruth}
use Rattle.order_int.specs.IntVars.{IntVars}
use Rattle.order_int.specs.OrderInt.{int_at_least}
use Rattle.cnf_laws.specs.Expected.{drawing_vars}
use Rattle.drawing_cnf.specs.Bounds.{node_columns}
use Rattle.drawing_cnf.proofs.ListCode.{nodes_next}
use Rattle.drawing_cnf.proofs.width_bound.columns_at_least.Goals as goal

pub loop-n-preserved : goal.loop-n-preserved
loop-n-preserved c =
    let g = c.args.g.now in
    let x = drawing_vars g c.args.grid.now in
    let k = c.args.k in
    let n = c.loop-n.n in
    let front = c.loop-n.columns.items in
    let test = c.loop-n-test.true in
    let end = c.nodes-end.ensures.value in
    let lt : n < length g.nodes = omega arith in
    let grown : c.push.new.self.items ≡ front ++ c.at_least.result ∷ [] = search rules in
    let is : c.at_least.result ≡ int_at_least (x.node n).x k = c.at_least.ensures ∙ ap (λ (i : IntVars). int_at_least i k) c.node_vars.ensures.x in
    nodes_next x k n (length g.nodes) front c.push.new.self.items (node_columns x k 0 (length g.nodes)) lt (grown ∙ ap (λ (t : LitOrTruth). front ++ t ∷ []) is)
    c.loop-n.invariant
