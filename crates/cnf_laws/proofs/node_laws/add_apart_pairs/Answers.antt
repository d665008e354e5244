use Rattle.std.proofs.Common.{rules}
use Rattle.cnf_laws.proofs.LawCode.{lawing_more, lawing_done, lawing_refused}
use Rattle.cnf_laws.proofs.node_laws.add_apart_pairs.Goals as goal

pub returns-in_err-add_apart_row : goal.returns-in_err-add_apart_row
returns-in_err-add_apart_row c =
    lawing_refused c.add_apart_row.result c.from_residual.result _ _ _ _ _ _ _ _ _ _ _ c.from_residual.ensures.0 (λ k. search (rules, k)) c.loop-u-test.true
    c.loop-u.invariant c.add_apart_row.ensures

pub loop-u-preserved : goal.loop-u-preserved
loop-u-preserved c = lawing_more _ _ _ _ _ _ _ _ _ _ _ _ c.loop-u-test.true c.loop-u.invariant c.in_ok-add_apart_row.ensures

pub returns : goal.returns
returns c = lawing_done tt _ _ _ _ _ _ _ _ _ _ c.loop-u-test.false c.loop-u.invariant
