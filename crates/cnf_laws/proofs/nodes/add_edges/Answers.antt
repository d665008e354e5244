use Rattle.std.proofs.Common.{rules, length}
use Rattle.cnf_core.proofs.BlockLemmas.{building_more, building_done, building_refused}
use Rattle.edge_shape.specs.EdgeVars.{edge_size}
use Rattle.cnf_laws.proofs.CodeLemmas.{left_over}
use Rattle.cnf_laws.specs.Expected.{drawing_vars, edge_part}
use Rattle.cnf_laws.proofs.EncodeCode.{building_start}
use Rattle.cnf_laws.proofs.nodes.add_edges.Goals as goal

pub loop-e-init : goal.loop-e-init
loop-e-init c =
    let d = c.args.grid.now in
    let g = c.args.g.now in
    building_start (edge_size d.height d.width) (edge_part g (drawing_vars g d) d) c.args.f.now c.edges-end.result (length g.edges) c.edges-end.ensures.value

pub add_edge_at-requires-clause-there : goal.add_edge_at-requires-clause-there
add_edge_at-requires-clause-there c =
    let s = edge_size c.args.grid.now.height c.args.grid.now.width in
    let k = c.loop-e.e in
    left_over s k c.edges-end.result (length c.args.g.now.edges) c.args.f.now.vars c.loop-e.f.vars _ c.loop-e-test.true c.edges-end.ensures.value
    c.loop-e.invariant.vars c.requires.there

pub returns-in_err-add_edge_at : goal.returns-in_err-add_edge_at
returns-in_err-add_edge_at c =
    building_refused c.add_edge_at.result c.from_residual.result _ _ _ _ _ _ _ _ _ _ c.from_residual.ensures.0 (λ k. search (rules, k)) c.loop-e-test.true
    c.loop-e.invariant c.add_edge_at.ensures

pub loop-e-preserved : goal.loop-e-preserved
loop-e-preserved c = building_more _ _ _ _ _ _ _ _ _ _ _ c.loop-e-test.true c.loop-e.invariant c.in_ok-add_edge_at.ensures

pub returns : goal.returns
returns c = building_done tt _ _ _ _ _ _ _ _ _ c.loop-e-test.false c.loop-e.invariant
