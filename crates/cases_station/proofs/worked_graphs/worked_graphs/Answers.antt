use Rattle.std.proofs.Common.{refl}
use Rattle.port_graph.specs.Examples.{one_topology, loop_topology, back_topology, cross_topology, two_topology, scissors_topology, station_topology}
use Rattle.port_graph.specs.Examples.{joint_topology, left_topology, bent_topology}
use Rattle.port_graph.proofs.GraphTest.{graph_by_test}
use Rattle.cases_station.proofs.worked_graphs.worked_graphs.Goals as goal

pub returns-clause-one_track : goal.returns-clause-one_track
returns-clause-one_track c = graph_by_test one_topology _ refl refl refl

pub returns-clause-a_loop : goal.returns-clause-a_loop
returns-clause-a_loop c = graph_by_test loop_topology _ refl refl refl

pub returns-clause-a_loop_listed_backwards : goal.returns-clause-a_loop_listed_backwards
returns-clause-a_loop_listed_backwards c = graph_by_test back_topology _ refl refl refl

pub returns-clause-a_crossover : goal.returns-clause-a_crossover
returns-clause-a_crossover c = graph_by_test cross_topology _ refl refl refl

pub returns-clause-two_tracks : goal.returns-clause-two_tracks
returns-clause-two_tracks c = graph_by_test two_topology _ refl refl refl

pub returns-clause-scissors : goal.returns-clause-scissors
returns-clause-scissors c = graph_by_test scissors_topology _ refl refl refl

pub returns-clause-a_station : goal.returns-clause-a_station
returns-clause-a_station c = graph_by_test station_topology _ refl refl refl

pub returns-clause-a_crossing_to_the_left : goal.returns-clause-a_crossing_to_the_left
returns-clause-a_crossing_to_the_left c = graph_by_test left_topology _ refl refl refl

pub returns-clause-a_loop_that_goes_straight : goal.returns-clause-a_loop_that_goes_straight
returns-clause-a_loop_that_goes_straight c = graph_by_test bent_topology _ refl refl refl

pub returns-clause-a_joint : goal.returns-clause-a_joint
returns-clause-a_joint c = graph_by_test joint_topology _ refl refl refl
