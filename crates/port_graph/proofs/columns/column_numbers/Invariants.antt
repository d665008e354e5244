use Rattle.std.proofs.Common.{take}
use Rattle.port_graph.specs.Plain.{miles_of}
use Rattle.port_graph.specs.Kept.{ArePlaces}
use Rattle.port_graph.proofs.columns.column_numbers.Given as goal

abbrev pub invariant-loop-node : goal.invariant-loop-node
invariant-loop-node l = ArePlaces l.columns (miles_of (take l.node-index l.nodes)) l.numbers.items
