use Rattle.std.proofs.Common.{◌≡◌, ◌++◌, drop}
use Rattle.port_graph.specs.Plain.{miles_of}
use Rattle.port_graph.proofs.columns.listed_mileages.Given as goal

abbrev pub invariant-loop-node : goal.invariant-loop-node
invariant-loop-node l = l.mileages.items ++ miles_of (drop l.node-index l.nodes) ≡ miles_of l.nodes
