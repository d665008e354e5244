use Rattle.std.proofs.Common.{rules, [], ◌∷◌, cond, not, subst}
use Rattle.std.specs.Prelude.{◌||◌}
use Rattle.plan_core.specs.Lawful.{Over, Parted}
use Rattle.cnf_laws.specs.Expected.{drawing_vars}
use Rattle.cnf_laws.specs.AddsLaws.{AddsLaws}
use Rattle.cnf_laws.proofs.LawCode.{laws_refused, laws_after}
use Rattle.cnf_laws.proofs.edge_laws.add_below_by.Goals as goal

pub returns-in_err-add_over_where : goal.returns-in_err-add_over_where
returns-in_err-add_over_where c =
    let a = c.args in
    let xs = cond a.below (Over a.h.0 a.e.0 ∷ []) [] in
    let ys = cond (a.above || (a.below || not a.overlap)) [] (Parted a.e.0 a.h.0 ∷ []) in
    laws_refused c.add_over_where.result c.from_residual.result _ _ a.g.now (drawing_vars a.g.now a.grid.now) a.grid.now.width xs ys 7 c.from_residual.ensures.0
    (λ k. search (rules, k)) c.add_over_where.ensures

pub returns : goal.returns
returns c =
    let a = c.args in
    let xs = cond a.below (Over a.h.0 a.e.0 ∷ []) [] in
    let ys = cond (a.above || (a.below || not a.overlap)) [] (Parted a.e.0 a.h.0 ∷ []) in
    laws_after _ c.add_parted_where.result _ _ _ a.g.now (drawing_vars a.g.now a.grid.now) a.grid.now.width xs ys 7 c.in_ok-add_over_where.ensures
    (subst (λ b. AddsLaws c.add_parted_where.result c.add_over_where.new.f c.add_parted_where.new.f a.g.now (drawing_vars a.g.now a.grid.now) a.grid.now.width
    (cond b [] (Parted a.e.0 a.h.0 ∷ [])) 7) c.is_settled.ensures c.add_parted_where.ensures)
