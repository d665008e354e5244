use Rattle.plan_core.proofs.Worked.{one_is_worked, farthest_is_worked, loop_is_worked, roomy_is_worked, back_is_worked, cross_is_worked, two_is_worked}
use Rattle.plan_core.proofs.Worked.{scissors_is_worked, station_is_worked}
use Rattle.cases_text.proofs.definitions.worked_drawings.Goals as goal

pub returns-clause-one_track : goal.returns-clause-one_track
returns-clause-one_track c = one_is_worked

pub returns-clause-one_track_as_far_out_as_the_grid_goes : goal.returns-clause-one_track_as_far_out_as_the_grid_goes
returns-clause-one_track_as_far_out_as_the_grid_goes c = farthest_is_worked

pub returns-clause-a_loop : goal.returns-clause-a_loop
returns-clause-a_loop c = loop_is_worked

pub returns-clause-a_loop_listed_backwards : goal.returns-clause-a_loop_listed_backwards
returns-clause-a_loop_listed_backwards c = back_is_worked

pub returns-clause-a_crossover : goal.returns-clause-a_crossover
returns-clause-a_crossover c = cross_is_worked

pub returns-clause-two_tracks : goal.returns-clause-two_tracks
returns-clause-two_tracks c = two_is_worked

pub returns-clause-scissors : goal.returns-clause-scissors
returns-clause-scissors c = scissors_is_worked

pub returns-clause-a_loop_with_two_columns_for_each_edge : goal.returns-clause-a_loop_with_two_columns_for_each_edge
returns-clause-a_loop_with_two_columns_for_each_edge c = roomy_is_worked

pub returns-clause-a_station : goal.returns-clause-a_station
returns-clause-a_station c = station_is_worked
