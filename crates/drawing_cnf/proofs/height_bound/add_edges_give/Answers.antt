use Rattle.std.proofs.Common.{rules}
use Rattle.cnf_core.proofs.StepLemmas.{adding_more, adding_done, adding_refused}
use Rattle.drawing_cnf.proofs.height_bound.add_edges_give.Goals as goal

pub returns-in_err-add_edge_gives : goal.returns-in_err-add_edge_gives
returns-in_err-add_edge_gives c =
    adding_refused c.add_edge_gives.result c.from_residual.result _ _ _ _ _ _ _ _ c.from_residual.ensures.0 (λ k. search (rules, k)) c.loop-e-test.true
    c.loop-e.invariant c.add_edge_gives.ensures

pub loop-e-preserved : goal.loop-e-preserved
loop-e-preserved c = adding_more _ _ _ _ _ _ _ _ _ c.loop-e-test.true c.loop-e.invariant c.in_ok-add_edge_gives.ensures

pub returns : goal.returns
returns c = adding_done tt _ _ _ _ _ _ _ c.loop-e-test.false c.loop-e.invariant
