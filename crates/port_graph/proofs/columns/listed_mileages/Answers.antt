use Rattle.std.proofs.Common.{rules}
use Rattle.std.proofs.lemmas.Int.{to_z-of_z}
use mir.Syntax.{w64}
use mir.Val.{SFits}
use Rattle.port_graph.specs.declared.rows.NodeRow.{NodeRow}
use Rattle.port_graph.proofs.EdgeLemmas.{moved_over}
use Rattle.port_graph.proofs.columns.listed_mileages.Goals as goal

pub loop-node-preserved : goal.loop-node-preserved
loop-node-preserved c =
    let fits : SFits w64 c.node-item.result.mileage.0 = search rules in
    moved_over (λ (n : NodeRow). n.mileage.0) _ _ _ c.args.nodes.now c.loop-node.node-index c.node-item.result c.loop-node-test.true c.node-item.is
    c.loop-node.invariant
    (simp (to_z-of_z w64 c.node-item.result.mileage.0 fits) at c.in_ok-push.ensures.items)
