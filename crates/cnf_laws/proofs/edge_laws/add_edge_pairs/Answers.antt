use Rattle.std.proofs.Common.{rules}
use Rattle.cnf_laws.proofs.LawCode.{lawing_more, lawing_done, lawing_refused}
use Rattle.cnf_laws.proofs.edge_laws.add_edge_pairs.Goals as goal

pub returns-in_err-add_edge_row : goal.returns-in_err-add_edge_row
returns-in_err-add_edge_row c =
    lawing_refused c.add_edge_row.result c.from_residual.result _ _ _ _ _ _ _ _ _ _ _ c.from_residual.ensures.0 (λ k. search (rules, k)) c.loop-e-test.true
    c.loop-e.invariant c.add_edge_row.ensures

pub loop-e-preserved : goal.loop-e-preserved
loop-e-preserved c = lawing_more _ _ _ _ _ _ _ _ _ _ _ _ c.loop-e-test.true c.loop-e.invariant c.in_ok-add_edge_row.ensures

pub returns : goal.returns
returns c = lawing_done tt _ _ _ _ _ _ _ _ _ _ c.loop-e-test.false c.loop-e.invariant
