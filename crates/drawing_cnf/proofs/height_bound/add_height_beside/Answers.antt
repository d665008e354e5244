use Rattle.std.proofs.Common.{rules, ◌≤◌, ◌+◌, sym, ◌∙◌, ap, subst, arith}
use Rattle.cnf_core.specs.declared.limits.TheConstants.{VARS}
use Rattle.cnf_core.proofs.StepLemmas.{adds_refused, adds_after}
use Rattle.cnf_core.specs.LitOrTruth.{yes}
use Rattle.order_int.specs.IntVars.{IntVars, IntIsThere}
use Rattle.edge_shape.specs.EdgeVars.{EdgeSpot, lits_of}
use Rattle.plan_core.specs.Graph.{edge}
use Rattle.cnf_laws.specs.Rank.{west_rank}
use Rattle.cnf_laws.specs.Expected.{ints_at_place, drawing_vars, edges_first}
use Rattle.drawing_cnf.specs.Bounds.{beside_clause}
use Rattle.drawing_cnf.proofs.BoundCode.{beside_adds}
use Rattle.drawing_cnf.proofs.height_bound.add_height_beside.Goals as goal

pub returns-in_err-add_beside : goal.returns-in_err-add_beside
returns-in_err-add_beside c =
    let a = c.args in
    let x = drawing_vars a.g.now a.grid.now in
    let b = a.b in
    let k = a.k in
    let up = yes (x.edge a.e).west_up in
    let down = yes (x.edge a.e).east_down in
    let west = (x.node (edge a.g.now a.e).west).y in
    let east = (x.node (edge a.g.now a.e).east).y in
    let eu = c.west_up.ensures.value ∙ ap (λ (s : EdgeSpot). yes (lits_of s).west_up) c.edge_vars-vars.ensures.edge in
    let ew = c.node_vars-west.ensures.y ∙ ap (λ n. (ints_at_place a.grid.now (west_rank a.g.now n)).y) c.west.ensures.value in
    adds_refused c.add_beside.result c.from_residual.result _ _ (beside_clause up west b k) (beside_clause down east b k) 3 c.from_residual.ensures.0
    (λ k. search (rules, k)) (beside_adds c.add_beside.result _ _ c.west_up.result up c.node_vars-west.result.y west b k eu ew c.add_beside.ensures)

pub returns : goal.returns
returns c =
    let a = c.args in
    let x = drawing_vars a.g.now a.grid.now in
    let b = a.b in
    let k = a.k in
    let up = yes (x.edge a.e).west_up in
    let down = yes (x.edge a.e).east_down in
    let west = (x.node (edge a.g.now a.e).west).y in
    let east = (x.node (edge a.g.now a.e).east).y in
    let eu = c.west_up.ensures.value ∙ ap (λ (s : EdgeSpot). yes (lits_of s).west_up) c.edge_vars-vars.ensures.edge in
    let ew = c.node_vars-west.ensures.y ∙ ap (λ n. (ints_at_place a.grid.now (west_rank a.g.now n)).y) c.west.ensures.value in
    let ed = c.east_down.ensures.value ∙ ap (λ (s : EdgeSpot). yes (lits_of s).east_down) c.edge_vars-vars.ensures.edge in
    let ee = c.node_vars-east.ensures.y ∙ ap (λ n. (ints_at_place a.grid.now (west_rank a.g.now n)).y) c.east.ensures.value in
    adds_after _ c.add_beside-2.result _ _ _ (beside_clause up west b k) (beside_clause down east b k) 3
    (beside_adds _ _ _ c.west_up.result up c.node_vars-west.result.y west b k eu ew c.in_ok-add_beside.ensures)
    (beside_adds c.add_beside-2.result _ _ c.east_down.result down c.node_vars-east.result.y east b k ed ee c.add_beside-2.ensures)

pub add_beside-requires-clause-there : goal.add_beside-requires-clause-there
add_beside-requires-clause-there c =
    let vars = c.args.f.now.vars in
    let within : edges_first c.args.g.now c.args.grid.now ≤ vars + 1 = omega (arith, c.requires.there, c.edge_vars-vars.ensures.within) in
    subst (λ (i : IntVars). IntIsThere vars i) (sym c.node_vars-west.ensures.y) (c.node_vars-west.ensures.there vars within).y

pub add_beside-requires-2-clause-there : goal.add_beside-requires-2-clause-there
add_beside-requires-2-clause-there c =
    let vars = c.args.f.now.vars in
    let within : edges_first c.args.g.now c.args.grid.now ≤ vars + 1 = omega (arith, c.requires.there, c.edge_vars-vars.ensures.within) in
    subst (λ n. IntIsThere n c.node_vars-east.result.y) (sym c.in_ok-add_beside.ensures.vars)
    (subst (λ (i : IntVars). IntIsThere vars i) (sym c.node_vars-east.ensures.y) (c.node_vars-east.ensures.there vars within).y)

pub add_beside-requires-2-clause-limit : goal.add_beside-requires-2-clause-limit
add_beside-requires-2-clause-limit c = subst (λ n. n ≤ VARS) (sym c.in_ok-add_beside.ensures.vars) c.requires.limit

pub add_beside-requires-2-clause-from : goal.add_beside-requires-2-clause-from
add_beside-requires-2-clause-from c = c.requires.from

pub add_beside-requires-2-clause-to : goal.add_beside-requires-2-clause-to
add_beside-requires-2-clause-to c = subst (λ n. c.args.b ≤ n) (sym c.in_ok-add_beside.ensures.vars) c.requires.to

pub add_beside-requires-2-clause-some : goal.add_beside-requires-2-clause-some
add_beside-requires-2-clause-some c = c.requires.some
