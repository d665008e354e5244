use Rattle.plan_core.proofs.NoGraphs.{backwards_graph_is_none, flat_graph_is_none, loose_graph_is_none, misplaced_graph_is_none, stray_graph_is_none}
use Rattle.plan_core.proofs.NoGraphs.{one_legged_graph_is_none, idle_graph_is_none}
use Rattle.cases_text.proofs.definitions.no_track_graphs.Goals as goal

pub returns-clause-an_edge_backwards : goal.returns-clause-an_edge_backwards
returns-clause-an_edge_backwards c = backwards_graph_is_none

pub returns-clause-an_edge_of_no_length : goal.returns-clause-an_edge_of_no_length
returns-clause-an_edge_of_no_length c = flat_graph_is_none

pub returns-clause-an_edge_to_nowhere : goal.returns-clause-an_edge_to_nowhere
returns-clause-an_edge_to_nowhere c = loose_graph_is_none

pub returns-clause-a_port_on_the_wrong_side : goal.returns-clause-a_port_on_the_wrong_side
returns-clause-a_port_on_the_wrong_side c = misplaced_graph_is_none

pub returns-clause-an_edge_without_a_port : goal.returns-clause-an_edge_without_a_port
returns-clause-an_edge_without_a_port c = stray_graph_is_none

pub returns-clause-one_leg_twice : goal.returns-clause-one_leg_twice
returns-clause-one_leg_twice c = one_legged_graph_is_none

pub returns-clause-a_port_without_an_edge : goal.returns-clause-a_port_without_an_edge
returns-clause-a_port_without_an_edge c = idle_graph_is_none
