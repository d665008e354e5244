use Rattle.std.proofs.Common.{rules}
use Rattle.cnf_core.proofs.StepLemmas.{adding_more, adding_done, adding_refused}
use Rattle.order_int.proofs.integer.add_links.Goals as goal

pub returns-in_err-add_link : goal.returns-in_err-add_link
returns-in_err-add_link c =
    adding_refused c.add_link.result c.from_residual.result _ _ _ _ _ _ _ _ c.from_residual.ensures.0 (λ k. search (rules, k)) c.loop-x-test.true
    c.loop-x.invariant c.add_link.ensures

pub loop-x-preserved : goal.loop-x-preserved
loop-x-preserved c = adding_more _ _ _ _ _ _ _ _ _ c.loop-x-test.true c.loop-x.invariant c.in_ok-add_link.ensures

pub returns : goal.returns
returns c = adding_done tt _ _ _ _ _ _ _ c.loop-x-test.false c.loop-x.invariant
