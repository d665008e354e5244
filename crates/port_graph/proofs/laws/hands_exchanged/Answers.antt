use Rattle.port_graph.proofs.MirroredGraph.{IsResolved-mirrored, graph-mirrored, fault-mirrored}
use Rattle.port_graph.proofs.MirroredTwice.{topology_twice, graph_twice}
use Rattle.port_graph.proofs.laws.hands_exchanged.Goals as goal

pub returns-clause-topology : goal.returns-clause-topology
returns-clause-topology c = IsResolved-mirrored

pub returns-clause-graph : goal.returns-clause-graph
returns-clause-graph c = graph-mirrored

pub returns-clause-fault : goal.returns-clause-fault
returns-clause-fault c = fault-mirrored

pub returns-clause-topology_twice : goal.returns-clause-topology_twice
returns-clause-topology_twice c = topology_twice

pub returns-clause-graph_twice : goal.returns-clause-graph_twice
returns-clause-graph_twice c = graph_twice
