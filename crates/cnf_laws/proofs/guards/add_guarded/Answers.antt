use Rattle.std.proofs.Common.{rules}
use Rattle.cnf_core.proofs.StepLemmas.{adding_more, adding_done, adding_refused}
use Rattle.cnf_laws.proofs.guards.add_guarded.Goals as goal

pub returns-in_err-add_guarded_clause : goal.returns-in_err-add_guarded_clause
returns-in_err-add_guarded_clause c =
    adding_refused c.add_guarded_clause.result c.from_residual.result _ _ _ _ _ _ _ _ c.from_residual.ensures.0 (λ k. search (rules, k)) c.loop-k-test.true
    c.loop-k.invariant c.add_guarded_clause.ensures

pub loop-k-preserved : goal.loop-k-preserved
loop-k-preserved c = adding_more _ _ _ _ _ _ _ _ _ c.loop-k-test.true c.loop-k.invariant c.in_ok-add_guarded_clause.ensures

pub returns : goal.returns
returns c = adding_done tt _ _ _ _ _ _ _ c.loop-k-test.false c.loop-k.invariant
