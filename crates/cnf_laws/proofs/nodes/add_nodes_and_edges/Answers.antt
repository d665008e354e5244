use Rattle.std.proofs.Common.{rules, ◌+◌, ◌*◌, length, subst}
use Rattle.cnf_core.specs.Formula.{each}
use Rattle.cnf_core.specs.Added.{AddsBlock}
use Rattle.cnf_core.proofs.BlockLemmas.{block_refused, block_after}
use Rattle.edge_shape.specs.EdgeVars.{edge_size}
use Rattle.cnf_laws.specs.Rank.{west_rank}
use Rattle.cnf_laws.specs.Expected.{ints_at_place, node_clauses, edge_part, drawing_vars}
use Rattle.cnf_laws.proofs.EncodeCode.{adds_count}
use Rattle.cnf_laws.proofs.nodes.add_nodes_and_edges.Goals as goal

pub returns-in_err-add_nodes : goal.returns-in_err-add_nodes
returns-in_err-add_nodes c =
    let d = c.args.grid.now in
    let g = c.args.g.now in
    let n = length g.nodes in
    let m = length g.edges in
    block_refused c.add_nodes.result c.from_residual.result c.args.f.now c.add_nodes.new.f (n * (d.height + d.width)) (m * edge_size d.height d.width)
    (each (λ k. node_clauses (ints_at_place d (west_rank g k))) 0 n) (each (edge_part g (drawing_vars g d) d) 0 m) 7 c.from_residual.ensures.0
    (λ k. search (rules, k))
    (subst (λ j. AddsBlock c.add_nodes.result c.args.f.now c.add_nodes.new.f (j * (d.height + d.width))
    (each (λ k. node_clauses (ints_at_place d (west_rank g k))) 0 j) 7) c.nodes-count.ensures.value c.add_nodes.ensures)

pub returns : goal.returns
returns c =
    let d = c.args.grid.now in
    let g = c.args.g.now in
    let n = length g.nodes in
    let m = length g.edges in
    block_after _ c.add_edges.result c.args.f.now c.add_nodes.new.f c.add_edges.new.f (n * (d.height + d.width)) (m * edge_size d.height d.width)
    (each (λ k. node_clauses (ints_at_place d (west_rank g k))) 0 n) (each (edge_part g (drawing_vars g d) d) 0 m) 7
    (adds_count _ _ _ (λ k. node_clauses (ints_at_place d (west_rank g k))) (d.height + d.width) _ _ 7 c.nodes-count.ensures.value c.in_ok-add_nodes.ensures)
    c.add_edges.ensures
