use Rattle.edge_shape.proofs.ShapeLemmas.{track_is_line, track_east}
use Rattle.edge_shape.proofs.LineHeights.{heights_same, inner_turns}
use Rattle.edge_shape.proofs.line_laws.a_track_is_a_line.Goals as goal

pub returns-clause-line : goal.returns-clause-line
returns-clause-line c = track_is_line

pub returns-clause-east : goal.returns-clause-east
returns-clause-east c = track_east

pub returns-clause-heights : goal.returns-clause-heights
returns-clause-heights c = heights_same

pub returns-clause-turns : goal.returns-clause-turns
returns-clause-turns c = inner_turns
