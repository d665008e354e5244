use Rattle.std.proofs.Common.{rules}
use Rattle.cnf_core.proofs.StepLemmas.{adding_more, adding_done, adding_refused}
use Rattle.cnf_laws.specs.Expected.{drawing_vars}
use Rattle.drawing_cnf.proofs.BoundCode.{gives_adds}
use Rattle.drawing_cnf.proofs.width_bound.add_columns_give.Goals as goal

pub returns-in_err-add_gives : goal.returns-in_err-add_gives
returns-in_err-add_gives c =
    adding_refused c.add_gives.result c.from_residual.result _ _ _ _ _ _ _ _ c.from_residual.ensures.0 (λ k. search (rules, k)) c.loop-n-test.true
    c.loop-n.invariant (gives_adds c.add_gives.result _ _ c.node_vars.result.x ((drawing_vars c.args.g.now c.args.grid.now).node c.loop-n.n).x c.args.b c.args.k
    c.node_vars.ensures.x c.add_gives.ensures)

pub loop-n-preserved : goal.loop-n-preserved
loop-n-preserved c = adding_more _ _ _ _ _ _ _ _ _ c.loop-n-test.true c.loop-n.invariant
    (gives_adds _ _ _ c.node_vars.result.x ((drawing_vars c.args.g.now c.args.grid.now).node c.loop-n.n).x c.args.b c.args.k c.node_vars.ensures.x
    c.in_ok-add_gives.ensures)

pub returns : goal.returns
returns c = adding_done tt _ _ _ _ _ _ _ c.loop-n-test.false c.loop-n.invariant
