use Rattle.plan_core.proofs.Breaking.{too_wide_breaks, too_high_breaks, uneven_breaks, swapped_breaks, short_breaks, exchanged_breaks, crowded_breaks}
use Rattle.plan_core.proofs.Breaking.{loop_breaks, too_steep_breaks, bent_rising_path_breaks, bent_falling_path_breaks, bent_main_breaks, sloping_breaks}
use Rattle.plan_core.proofs.Breaking.{kinked_breaks, one_point_breaks, touching_breaks, begins_above_breaks, ends_below_breaks, touched_breaks, crossed_breaks}
use Rattle.cases_text.proofs.definitions.broken_drawings.Goals as goal

pub returns-clause-too_wide : goal.returns-clause-too_wide
returns-clause-too_wide c = too_wide_breaks

pub returns-clause-too_high : goal.returns-clause-too_high
returns-clause-too_high c = too_high_breaks

pub returns-clause-uneven : goal.returns-clause-uneven
returns-clause-uneven c = uneven_breaks

pub returns-clause-swapped : goal.returns-clause-swapped
returns-clause-swapped c = swapped_breaks

pub returns-clause-short : goal.returns-clause-short
returns-clause-short c = short_breaks

pub returns-clause-exchanged : goal.returns-clause-exchanged
returns-clause-exchanged c = exchanged_breaks

pub returns-clause-crowded : goal.returns-clause-crowded
returns-clause-crowded c = crowded_breaks

pub returns-clause-a_loop_with_one_column_at_its_ends : goal.returns-clause-a_loop_with_one_column_at_its_ends
returns-clause-a_loop_with_one_column_at_its_ends c = loop_breaks

pub returns-clause-too_steep : goal.returns-clause-too_steep
returns-clause-too_steep c = too_steep_breaks

pub returns-clause-bent_rising_path : goal.returns-clause-bent_rising_path
returns-clause-bent_rising_path c = bent_rising_path_breaks

pub returns-clause-bent_falling_path : goal.returns-clause-bent_falling_path
returns-clause-bent_falling_path c = bent_falling_path_breaks

pub returns-clause-bent_main : goal.returns-clause-bent_main
returns-clause-bent_main c = bent_main_breaks

pub returns-clause-sloping : goal.returns-clause-sloping
returns-clause-sloping c = sloping_breaks

pub returns-clause-kinked : goal.returns-clause-kinked
returns-clause-kinked c = kinked_breaks

pub returns-clause-one_point : goal.returns-clause-one_point
returns-clause-one_point c = one_point_breaks

pub returns-clause-touching : goal.returns-clause-touching
returns-clause-touching c = touching_breaks

pub returns-clause-begins_above : goal.returns-clause-begins_above
returns-clause-begins_above c = begins_above_breaks

pub returns-clause-ends_below : goal.returns-clause-ends_below
returns-clause-ends_below c = ends_below_breaks

pub returns-clause-touched : goal.returns-clause-touched
returns-clause-touched c = touched_breaks

pub returns-clause-crossed : goal.returns-clause-crossed
returns-clause-crossed c = crossed_breaks
