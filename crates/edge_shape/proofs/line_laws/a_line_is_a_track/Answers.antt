use Rattle.std.proofs.Common.{◌+◌}
use Rattle.plan_core.specs.Line.{west_end}
use Rattle.edge_shape.specs.Columns.{steps_of}
use Rattle.edge_shape.proofs.LineHeights.{steps_are, line_is_flat}
use Rattle.edge_shape.proofs.RunLemmas.{line_is_track, line_west_slope, line_east_slope}
use Rattle.edge_shape.proofs.LineTrackLemmas.{line_again}
use Rattle.edge_shape.proofs.line_laws.a_line_is_a_track.Goals as goal

pub returns-clause-steps : goal.returns-clause-steps
returns-clause-steps c = steps_are

pub returns-clause-track : goal.returns-clause-track
returns-clause-track c = λ line h. line_is_track line (steps_of line) h (steps_are line h)

pub returns-clause-flat : goal.returns-clause-flat
returns-clause-flat c = line_is_flat

pub returns-clause-again : goal.returns-clause-again
returns-clause-again c = λ line h. line_again line (steps_of line) h (steps_are line h)

pub returns-clause-west : goal.returns-clause-west
returns-clause-west c = line_west_slope

pub returns-clause-east : goal.returns-clause-east
returns-clause-east c = λ line h. line_east_slope line ((west_end line).x + steps_of line) h (steps_are line h)
