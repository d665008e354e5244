use Rattle.port_graph.proofs.TurnedFaults.{IsGraphFault-turned}
use Rattle.port_graph.proofs.TurnedNodes.{IsGraphOf-turned, all_forward_of}
use Rattle.port_graph.proofs.TurnedStation.{IsResolved-turned, IsStationGraph-turned}
use Rattle.port_graph.proofs.TurnedTwice.{topology_twice, graph_twice}
use Rattle.port_graph.proofs.laws.seen_from_the_other_end.Goals as goal

pub returns-clause-topology : goal.returns-clause-topology
returns-clause-topology c = IsResolved-turned

pub returns-clause-graph : goal.returns-clause-graph
returns-clause-graph c = λ t g resolved station is. IsGraphOf-turned t g resolved (all_forward_of t g resolved is station.track_graph) is

pub returns-clause-fault : goal.returns-clause-fault
returns-clause-fault c = IsGraphFault-turned

pub returns-clause-station : goal.returns-clause-station
returns-clause-station c = IsStationGraph-turned

pub returns-clause-topology_twice : goal.returns-clause-topology_twice
returns-clause-topology_twice c = topology_twice

pub returns-clause-graph_twice : goal.returns-clause-graph_twice
returns-clause-graph_twice c = graph_twice
