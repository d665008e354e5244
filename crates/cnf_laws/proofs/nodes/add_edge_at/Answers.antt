use Rattle.std.proofs.Common.{rules}
use Rattle.cnf_core.proofs.BlockLemmas.{block_fault, block_same}
use Rattle.cnf_laws.proofs.EdgeCode.{edge_adds}
use Rattle.cnf_laws.proofs.nodes.add_edge_at.Goals as goal

pub returns-in_err-add_edge : goal.returns-in_err-add_edge
returns-in_err-add_edge c =
    let a = c.args in
    let w = c.node_vars-west in
    let z = c.node_vars-east in
    block_fault c.add_edge.result c.from_residual.result _ _ _ _ 7 c.from_residual.ensures.0 (λ k. search (rules, k))
    (edge_adds c.add_edge.result a.f.now c.add_edge.new.f a.g.now a.grid.now a.e c.west.result.0 c.east.result.0 w.result.x w.result.y z.result.x z.result.y
    c.requires.there c.west.ensures.value c.east.ensures.value w.ensures.x w.ensures.y z.ensures.x z.ensures.y c.add_edge.ensures.adds)

pub returns : goal.returns
returns c =
    let a = c.args in
    let w = c.node_vars-west in
    let z = c.node_vars-east in
    block_same c.add_edge.result tt _ _ _ _ 7 c.in_ok-add_edge.field-0 (search rules)
    (edge_adds c.add_edge.result a.f.now c.add_edge.new.f a.g.now a.grid.now a.e c.west.result.0 c.east.result.0 w.result.x w.result.y z.result.x z.result.y
    c.requires.there c.west.ensures.value c.east.ensures.value w.ensures.x w.ensures.y z.ensures.x z.ensures.y c.add_edge.ensures.adds)
