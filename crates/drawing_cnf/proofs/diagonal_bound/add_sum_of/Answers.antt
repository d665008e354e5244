use Rattle.std.proofs.Common.{◌≡◌, subst}
use Rattle.std.specs.Prelude.{IfOk}
use Rattle.edge_shape.specs.EdgeVars.{EdgeSpot, edge_spot, lits_of}
use Rattle.unary_sum.specs.Sum.{SumVars}
use Rattle.cnf_laws.specs.Expected.{edge_first}
use Rattle.drawing_cnf.specs.Bounds.{steps_sum}
use Rattle.drawing_cnf.proofs.DiagonalCode.{edge_adds}
use Rattle.drawing_cnf.proofs.diagonal_bound.add_sum_of.Goals as goal

pub returns-clause-sum : goal.returns-clause-sum
returns-clause-sum c =
    let a = c.args in
    let d = a.grid.now in
    let spot = edge_spot (edge_first a.g.now d a.e) d.height d.width in
    subst (λ n. IfOk c.add_edge_sum.result (λ (s : SumVars). s ≡ steps_sum (lits_of spot) n a.most a.f.now.vars)) c.width.ensures.value
    (subst (λ (z : EdgeSpot). IfOk c.add_edge_sum.result (λ (s : SumVars). s ≡ steps_sum (lits_of z) c.width.result a.most a.f.now.vars))
    c.edge_vars-vars.ensures.edge c.add_edge_sum.ensures.sum)

pub returns-clause-adds : goal.returns-clause-adds
returns-clause-adds c =
    let a = c.args in
    let d = a.grid.now in
    let spot = edge_spot (edge_first a.g.now d a.e) d.height d.width in
    edge_adds c.add_edge_sum.result a.f.now c.add_edge_sum.new.f c.edge_vars-vars.result spot c.width.result d.width a.most c.edge_vars-vars.ensures.edge
    c.width.ensures.value c.add_edge_sum.ensures.adds
