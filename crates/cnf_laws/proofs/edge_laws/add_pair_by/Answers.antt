use Rattle.std.proofs.Common.{rules, [], ◌∷◌, cond}
use Rattle.plan_core.specs.Lawful.{Over}
use Rattle.cnf_laws.specs.Expected.{drawing_vars, below_by}
use Rattle.cnf_laws.proofs.LawCode.{laws_refused, laws_after}
use Rattle.cnf_laws.proofs.edge_laws.add_pair_by.Goals as goal

pub returns-in_err-add_over_where : goal.returns-in_err-add_over_where
returns-in_err-add_over_where c =
    let a = c.args in
    let xs = cond a.above (Over a.e.0 a.h.0 ∷ []) [] in
    laws_refused c.add_over_where.result c.from_residual.result _ _ a.g.now (drawing_vars a.g.now a.grid.now) a.grid.now.width xs
    (below_by a.above a.below a.overlap a.e.0 a.h.0) 7 c.from_residual.ensures.0 (λ k. search (rules, k)) c.add_over_where.ensures

pub returns : goal.returns
returns c =
    let a = c.args in
    let xs = cond a.above (Over a.e.0 a.h.0 ∷ []) [] in
    laws_after _ c.add_below_by.result _ _ _ a.g.now (drawing_vars a.g.now a.grid.now) a.grid.now.width xs (below_by a.above a.below a.overlap a.e.0 a.h.0) 7
    c.in_ok-add_over_where.ensures c.add_below_by.ensures
