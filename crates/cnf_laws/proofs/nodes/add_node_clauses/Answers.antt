use Rattle.std.proofs.Common.{rules, arith}
use Rattle.cnf_core.proofs.StepLemmas.{adding_more, adding_done, adding_refused}
use Rattle.cnf_laws.proofs.nodes.add_node_clauses.Goals as goal

pub add_node-requires-clause-there : goal.add_node-requires-clause-there
add_node-requires-clause-there c =
    let vars = c.loop-n.invariant.vars in
    let there = c.requires.there in
    omega arith

pub returns-in_err-add_node : goal.returns-in_err-add_node
returns-in_err-add_node c =
    adding_refused c.add_node.result c.from_residual.result _ _ _ _ _ _ _ _ c.from_residual.ensures.0 (λ k. search (rules, k)) c.loop-n-test.true
    c.loop-n.invariant c.add_node.ensures

pub loop-n-preserved : goal.loop-n-preserved
loop-n-preserved c = adding_more _ _ _ _ _ _ _ _ _ c.loop-n-test.true c.loop-n.invariant c.in_ok-add_node.ensures

pub returns : goal.returns
returns c = adding_done tt _ _ _ _ _ _ _ c.loop-n-test.false c.loop-n.invariant
