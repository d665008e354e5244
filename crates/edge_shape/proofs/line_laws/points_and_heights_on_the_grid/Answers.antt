use Rattle.edge_shape.proofs.GridLemmas.{on_grid_heights, heights_on_grid}
use Rattle.edge_shape.proofs.line_laws.points_and_heights_on_the_grid.Goals as goal

pub returns-clause-heights : goal.returns-clause-heights
returns-clause-heights c = on_grid_heights

pub returns-clause-points : goal.returns-clause-points
returns-clause-points c = heights_on_grid
