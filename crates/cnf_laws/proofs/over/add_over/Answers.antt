use Rattle.std.proofs.Common.{rules}
use Rattle.cnf_core.proofs.StepLemmas.{adding_more, adding_done, adding_refused}
use Rattle.cnf_laws.proofs.over.add_over.Goals as goal

pub returns-in_err-add_over_column : goal.returns-in_err-add_over_column
returns-in_err-add_over_column c =
    adding_refused c.add_over_column.result c.from_residual.result _ _ _ _ _ _ _ _ c.from_residual.ensures.0 (λ k. search (rules, k)) c.loop-c-test.true
    c.loop-c.invariant c.add_over_column.ensures

pub loop-c-preserved : goal.loop-c-preserved
loop-c-preserved c = adding_more _ _ _ _ _ _ _ _ _ c.loop-c-test.true c.loop-c.invariant c.in_ok-add_over_column.ensures

pub returns : goal.returns
returns c = adding_done tt _ _ _ _ _ _ _ c.loop-c-test.false c.loop-c.invariant
