use Rattle.std.proofs.Common.{rules}
use Rattle.cnf_core.proofs.StepLemmas.{adding_more, adding_done, adding_refused}
use Rattle.unary_sum.proofs.joins.add_row.Goals as goal

pub returns-in_err-add_cell : goal.returns-in_err-add_cell
returns-in_err-add_cell c =
    adding_refused c.add_cell.result c.from_residual.result _ _ _ _ _ _ _ _ c.from_residual.ensures.0 (λ k. search (rules, k)) c.loop-j-test.true
    c.loop-j.invariant c.add_cell.ensures

pub loop-j-preserved : goal.loop-j-preserved
loop-j-preserved c = adding_more _ _ _ _ _ _ _ _ _ c.loop-j-test.true c.loop-j.invariant c.in_ok-add_cell.ensures

pub returns : goal.returns
returns c = adding_done tt _ _ _ _ _ _ _ c.loop-j-test.false c.loop-j.invariant
