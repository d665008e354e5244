use Rattle.std.proofs.Common.{rules}
use Rattle.cnf_laws.proofs.LawCode.{lawing_more, lawing_done, lawing_refused}
use Rattle.cnf_laws.proofs.edge_laws.add_edge_row.Goals as goal

pub returns-in_err-add_edge_pair : goal.returns-in_err-add_edge_pair
returns-in_err-add_edge_pair c =
    lawing_refused c.add_edge_pair.result c.from_residual.result _ _ _ _ _ _ _ _ _ _ _ c.from_residual.ensures.0 (λ k. search (rules, k)) c.loop-h-test.true
    c.loop-h.invariant c.add_edge_pair.ensures

pub loop-h-preserved : goal.loop-h-preserved
loop-h-preserved c = lawing_more _ _ _ _ _ _ _ _ _ _ _ _ c.loop-h-test.true c.loop-h.invariant c.in_ok-add_edge_pair.ensures

pub returns : goal.returns
returns c = lawing_done tt _ _ _ _ _ _ _ _ _ _ c.loop-h-test.false c.loop-h.invariant
