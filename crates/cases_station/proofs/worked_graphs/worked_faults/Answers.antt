use Rattle.std.proofs.Common.{refl}
use Rattle.port_graph.specs.Examples.{ring_topology, backing_topology}
use Rattle.port_graph.proofs.GraphTest.{level_by_test, mismatch_by_test}
use Rattle.cases_station.proofs.worked_graphs.worked_faults.Goals as goal

pub returns-clause-a_ring : goal.returns-clause-a_ring
returns-clause-a_ring c = level_by_test ring_topology _ refl refl refl refl refl

pub returns-clause-an_outgoing_edge_on_the_wrong_side : goal.returns-clause-an_outgoing_edge_on_the_wrong_side
returns-clause-an_outgoing_edge_on_the_wrong_side c = mismatch_by_test backing_topology 8 _ refl refl refl refl refl refl refl
