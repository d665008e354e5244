use Rattle.port_graph.proofs.OneGraph.{one_graph, graph_or_fault, one_fault}
use Rattle.port_graph.proofs.laws.one_graph_or_one_fault.Goals as goal

pub returns-clause-graph : goal.returns-clause-graph
returns-clause-graph c = one_graph

pub returns-clause-no_fault : goal.returns-clause-no_fault
returns-clause-no_fault c = graph_or_fault

pub returns-clause-fault : goal.returns-clause-fault
returns-clause-fault c = one_fault
