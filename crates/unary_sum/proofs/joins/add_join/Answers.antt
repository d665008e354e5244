use Rattle.std.proofs.Common.{rules}
use Rattle.cnf_core.proofs.StepLemmas.{adding_more, adding_done, adding_refused}
use Rattle.unary_sum.proofs.joins.add_join.Goals as goal

pub returns-in_err-add_row : goal.returns-in_err-add_row
returns-in_err-add_row c =
    adding_refused c.add_row.result c.from_residual.result _ _ _ _ _ _ _ _ c.from_residual.ensures.0 (λ k. search (rules, k)) c.loop-i-test.true
    c.loop-i.invariant c.add_row.ensures

pub loop-i-preserved : goal.loop-i-preserved
loop-i-preserved c = adding_more _ _ _ _ _ _ _ _ _ c.loop-i-test.true c.loop-i.invariant c.in_ok-add_row.ensures

pub returns : goal.returns
returns c = adding_done tt _ _ _ _ _ _ _ c.loop-i-test.false c.loop-i.invariant
