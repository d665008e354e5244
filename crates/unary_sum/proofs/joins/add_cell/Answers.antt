use Rattle.std.proofs.Common.{rules}
use Rattle.cnf_core.proofs.StepLemmas.{adds_refused, adds_after}
use Rattle.unary_sum.proofs.joins.add_cell.Goals as goal

pub returns-in_err-add_up : goal.returns-in_err-add_up
returns-in_err-add_up c = adds_refused c.add_up.result c.from_residual.result _ _ _ _ _ c.from_residual.ensures.0 (λ k. search (rules, k)) c.add_up.ensures

pub returns : goal.returns
returns c = adds_after _ c.add_down.result _ _ _ _ _ _ c.in_ok-add_up.ensures c.add_down.ensures
