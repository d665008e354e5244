use Rattle.std.proofs.Common.{rules}
use Rattle.cnf_core.proofs.StepLemmas.{adds_refused, adds_after}
use Rattle.cnf_laws.proofs.order.add_equal.Goals as goal

pub returns-in_err-add_below : goal.returns-in_err-add_below
returns-in_err-add_below c = adds_refused c.add_below.result c.from_residual.result _ _ _ _ _ c.from_residual.ensures.0 (λ k. search (rules, k))
    c.add_below.ensures

pub returns : goal.returns
returns c = adds_after _ c.add_below-2.result _ _ _ _ _ _ c.in_ok-add_below.ensures c.add_below-2.ensures
