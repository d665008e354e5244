use Rattle.std.proofs.Common.{refl, leb-true, ltb-true}
use Rattle.cases_station.proofs.worked_graphs.limits.Goals as goal

pub returns-clause-as_many_nodes_as_may_be : goal.returns-clause-as_many_nodes_as_may_be
returns-clause-as_many_nodes_as_may_be c = leb-true _ _ refl

pub returns-clause-one_node_more : goal.returns-clause-one_node_more
returns-clause-one_node_more c = (refl, ltb-true _ _ refl)

pub returns-clause-as_many_edges_as_may_be : goal.returns-clause-as_many_edges_as_may_be
returns-clause-as_many_edges_as_may_be c = (leb-true _ _ refl, leb-true _ _ refl)

pub returns-clause-one_edge_more : goal.returns-clause-one_edge_more
returns-clause-one_edge_more c = (leb-true _ _ refl, refl, ltb-true _ _ refl)
