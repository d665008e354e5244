use Rattle.std.proofs.Common.{rules, ◌≤◌, ◌+◌, ◌∙◌, sym, ap, subst}
use Rattle.cnf_core.proofs.StepLemmas.{adds_refused, adds_after}
use Rattle.cnf_core.specs.declared.limits.TheConstants.{VARS}
use Rattle.cnf_core.specs.Formula.{each}
use Rattle.edge_shape.specs.EdgeVars.{EdgeSpot, edge_spot}
use Rattle.cnf_laws.proofs.SpotLemmas.{spot_there}
use Rattle.cnf_laws.specs.Expected.{edge_first, laws_first, drawing_vars}
use Rattle.drawing_cnf.specs.Bounds.{height_gives, height_beside}
use Rattle.drawing_cnf.proofs.BoundCode.{heights_adds}
use Rattle.drawing_cnf.proofs.height_bound.add_edge_gives.Goals as goal

pub returns-in_err-add_heights_give : goal.returns-in_err-add_heights_give
returns-in_err-add_heights_give c =
    let a = c.args in
    let d = a.grid.now in
    let x = drawing_vars a.g.now d in
    let spot = edge_spot (edge_first a.g.now d a.e) d.height d.width in
    adds_refused c.add_heights_give.result c.from_residual.result _ _ (each (height_gives x a.b a.k a.e) 0 (d.width + 1)) (height_beside a.g.now x a.b a.k a.e)
    3 c.from_residual.ensures.0 (λ k. search (rules, k)) (heights_adds c.add_heights_give.result _ _ c.edge_vars-vars.result spot a.b a.k c.width.result d.width
    c.edge_vars-vars.ensures.edge c.width.ensures.value c.add_heights_give.ensures)

pub returns : goal.returns
returns c =
    let a = c.args in
    let d = a.grid.now in
    let x = drawing_vars a.g.now d in
    let spot = edge_spot (edge_first a.g.now d a.e) d.height d.width in
    adds_after _ c.add_height_beside.result _ _ _ (each (height_gives x a.b a.k a.e) 0 (d.width + 1)) (height_beside a.g.now x a.b a.k a.e) 3
    (heights_adds _ _ _ c.edge_vars-vars.result spot a.b a.k c.width.result d.width c.edge_vars-vars.ensures.edge c.width.ensures.value
    c.in_ok-add_heights_give.ensures) (c.add_height_beside.ensures)

pub add_heights_give-requires-clause-edge : goal.add_heights_give-requires-clause-edge
add_heights_give-requires-clause-edge c = spot_there c.args.g.now c.args.grid.now c.args.e c.args.f.now.vars c.edge_vars-vars.result
    c.edge_vars-vars.ensures.edge c.edge_vars-vars.ensures.within c.requires.there

pub add_heights_give-requires-clause-width : goal.add_heights_give-requires-clause-width
add_heights_give-requires-clause-width c = c.width.ensures.value ∙ sym (ap (λ (s : EdgeSpot). s.width) c.edge_vars-vars.ensures.edge)

pub add_height_beside-requires-clause-limit : goal.add_height_beside-requires-clause-limit
add_height_beside-requires-clause-limit c = subst (λ n. n ≤ VARS) (sym c.in_ok-add_heights_give.ensures.vars) c.requires.limit

pub add_height_beside-requires-clause-e : goal.add_height_beside-requires-clause-e
add_height_beside-requires-clause-e c = c.requires.e

pub add_height_beside-requires-clause-there : goal.add_height_beside-requires-clause-there
add_height_beside-requires-clause-there c = subst (λ n. laws_first c.args.g.now c.args.grid.now ≤ n + 1) (sym c.in_ok-add_heights_give.ensures.vars)
    c.requires.there

pub add_height_beside-requires-clause-from : goal.add_height_beside-requires-clause-from
add_height_beside-requires-clause-from c = c.requires.from

pub add_height_beside-requires-clause-to : goal.add_height_beside-requires-clause-to
add_height_beside-requires-clause-to c = subst (λ n. c.args.b ≤ n) (sym c.in_ok-add_heights_give.ensures.vars) c.requires.to

pub add_height_beside-requires-clause-some : goal.add_height_beside-requires-clause-some
add_height_beside-requires-clause-some c = c.requires.some
