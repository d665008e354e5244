use Rattle.std.proofs.Common.{rules, ◌≤◌, sym, subst, arith}
use Rattle.cnf_core.proofs.StepLemmas.{adding_more, adding_done, adding_refused}
use Rattle.order_int.specs.IntVars.{IntVars, IntIsThere}
use Rattle.edge_shape.specs.EdgeVars.{lits_of}
use Rattle.edge_shape.proofs.PlaceLemmas.{height_there}
use Rattle.drawing_cnf.proofs.BoundCode.{gives_adds}
use Rattle.drawing_cnf.proofs.height_bound.add_heights_give.Goals as goal

pub add_gives-requires-clause-there : goal.add_gives-requires-clause-there
add_gives-requires-clause-there c =
    let e = c.args.e.now in
    let k = c.loop-c.c in
    let test = c.loop-c-test.true in
    let width = c.requires.width in
    let within : k ≤ e.width = omega arith in
    subst (λ (i : IntVars). IntIsThere c.loop-c.f.vars i) (sym c.height.ensures.value)
    (subst (λ n. IntIsThere n ((lits_of e).height k)) (sym c.loop-c.invariant.vars)
    (height_there e.first e.high e.width c.args.f.now.vars k c.height.ensures.placed.spot c.requires.edge within))

pub returns-in_err-add_gives : goal.returns-in_err-add_gives
returns-in_err-add_gives c =
    adding_refused c.add_gives.result c.from_residual.result _ _ _ _ _ _ _ _ c.from_residual.ensures.0 (λ k. search (rules, k)) c.loop-c-test.true
    c.loop-c.invariant (gives_adds c.add_gives.result _ _ c.height.result ((lits_of c.args.e.now).height c.loop-c.c) c.args.b c.args.k c.height.ensures.value
    c.add_gives.ensures)

pub loop-c-preserved : goal.loop-c-preserved
loop-c-preserved c = adding_more _ _ _ _ _ _ _ _ _ c.loop-c-test.true c.loop-c.invariant
    (gives_adds _ _ _ c.height.result ((lits_of c.args.e.now).height c.loop-c.c) c.args.b c.args.k c.height.ensures.value c.in_ok-add_gives.ensures)

pub returns : goal.returns
returns c = adding_done tt _ _ _ _ _ _ _ c.loop-c-test.false c.loop-c.invariant
