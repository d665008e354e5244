use Rattle.plan_core.proofs.LineLemmas.{line_length}
use Rattle.plan_core.proofs.PieceLemmas.{piece_by_test, height_on-interpolates}
use Rattle.plan_core.proofs.DiagonalLemmas.{diagonal_by_columns}
use Rattle.plan_core.proofs.LimitLemmas.{value-le-limit}
use Rattle.plan_core.proofs.JoinLemmas.{joins_where_ends_meet}
use Rattle.plan_core.proofs.BetterLemmas.{better_is_less_somewhere, Better-irreflexive, Better-transitive}
use Rattle.cases_text.proofs.definitions.other_readings.Goals as goal

pub returns-clause-two_to_four_points : goal.returns-clause-two_to_four_points
returns-clause-two_to_four_points c = line_length

pub returns-clause-heights_interpolate : goal.returns-clause-heights_interpolate
returns-clause-heights_interpolate c = λ p x is_one. height_on-interpolates p x (piece_by_test p is_one)

pub returns-clause-diagonal_counts_columns : goal.returns-clause-diagonal_counts_columns
returns-clause-diagonal_counts_columns c = diagonal_by_columns

pub returns-clause-no_value_passes_its_limit : goal.returns-clause-no_value_passes_its_limit
returns-clause-no_value_passes_its_limit c = value-le-limit

pub returns-clause-least_1_asks_no_more_than_that_ends_meet : goal.returns-clause-least_1_asks_no_more_than_that_ends_meet
returns-clause-least_1_asks_no_more_than_that_ends_meet c = joins_where_ends_meet

pub returns-clause-better_is_less_at_some_place : goal.returns-clause-better_is_less_at_some_place
returns-clause-better_is_less_at_some_place c = better_is_less_somewhere

pub returns-clause-nothing_is_better_than_itself : goal.returns-clause-nothing_is_better_than_itself
returns-clause-nothing_is_better_than_itself c = Better-irreflexive

pub returns-clause-better_than_a_better_one : goal.returns-clause-better_than_a_better_one
returns-clause-better_than_a_better_one c = Better-transitive
