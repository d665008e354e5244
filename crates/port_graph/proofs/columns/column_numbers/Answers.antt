use Rattle.std.proofs.Common.{rules}
use Rattle.std.proofs.lemmas.Int.{to_z-of_z}
use mir.Syntax.{w64}
use mir.Val.{SFits}
use Rattle.port_graph.proofs.ColumnLemmas.{mile_there, columns_rise, placed_over}
use Rattle.port_graph.proofs.columns.column_numbers.Goals as goal

pub column_number-requires-clause-rise : goal.column_number-requires-clause-rise
column_number-requires-clause-rise c = columns_rise _ _ c.requires.columns

pub column_number-requires-clause-there : goal.column_number-requires-clause-there
column_number-requires-clause-there c =
    let fits : SFits w64 c.node-item.result.mileage.0 = search rules in
    simp (to_z-of_z w64 c.node-item.result.mileage.0 fits)
    (mile_there _ _ _ _ c.requires.columns c.loop-node-test.true c.node-item.is)

pub loop-node-preserved : goal.loop-node-preserved
loop-node-preserved c =
    let fits : SFits w64 c.node-item.result.mileage.0 = search rules in
    placed_over c.args.columns.now c.args.nodes.now c.loop-node.node-index c.node-item.result c.loop-node.numbers.items _ c.column_number.result
    c.loop-node-test.true c.node-item.is c.loop-node.invariant c.in_ok-push.ensures.items
    (simp (to_z-of_z w64 c.node-item.result.mileage.0 fits) at c.column_number.ensures)
