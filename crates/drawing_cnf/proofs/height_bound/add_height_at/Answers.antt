use Rattle.std.proofs.Common.{rules, length, arith, ◌+◌, ◌*◌}
use Rattle.cnf_core.proofs.StepLemmas.{adds_refused, adds_after, adds_longer}
use Rattle.cnf_core.specs.Formula.{each}
use Rattle.cnf_laws.specs.Expected.{drawing_vars}
use Rattle.drawing_cnf.specs.Bounds.{edge_height_gives, some_height_clause}
use Rattle.drawing_cnf.proofs.height_bound.add_height_at.Goals as goal

pub returns-in_err-add_edges_give : goal.returns-in_err-add_edges_give
returns-in_err-add_edges_give c =
    let a = c.args in
    let d = a.grid.now in
    let x = drawing_vars a.g.now d in
    let m = length a.g.now.edges in
    let long = m * (d.width + 1) + 3 in
    let gives = each (edge_height_gives a.g.now x d.width a.b a.k) 0 m in
    adds_refused c.add_edges_give.result c.from_residual.result _ _ (gives) (some_height_clause x d.width m a.b a.k) long c.from_residual.ensures.0
    (λ k. search (rules, k)) (adds_longer c.add_edges_give.result _ _ gives 3 long (omega arith) c.add_edges_give.ensures)

pub returns : goal.returns
returns c =
    let a = c.args in
    let d = a.grid.now in
    let x = drawing_vars a.g.now d in
    let m = length a.g.now.edges in
    let long = m * (d.width + 1) + 3 in
    let gives = each (edge_height_gives a.g.now x d.width a.b a.k) 0 m in
    adds_after _ c.add_some_height.result _ _ _ (gives) (some_height_clause x d.width m a.b a.k) long
    (adds_longer _ _ _ gives 3 long (omega arith) c.in_ok-add_edges_give.ensures) (c.add_some_height.ensures)
