use Rattle.std.proofs.Common.{rules}
use Rattle.cnf_laws.proofs.LawCode.{lawing_more, lawing_done, lawing_refused}
use Rattle.cnf_laws.proofs.edge_laws.add_aligned_nodes.Goals as goal

pub returns-in_err-add_aligned_node : goal.returns-in_err-add_aligned_node
returns-in_err-add_aligned_node c =
    lawing_refused c.add_aligned_node.result c.from_residual.result _ _ _ _ _ _ _ _ _ _ _ c.from_residual.ensures.0 (λ k. search (rules, k)) c.loop-n-test.true
    c.loop-n.invariant c.add_aligned_node.ensures

pub loop-n-preserved : goal.loop-n-preserved
loop-n-preserved c = lawing_more _ _ _ _ _ _ _ _ _ _ _ _ c.loop-n-test.true c.loop-n.invariant c.in_ok-add_aligned_node.ensures

pub returns : goal.returns
returns c = lawing_done tt _ _ _ _ _ _ _ _ _ _ c.loop-n-test.false c.loop-n.invariant
