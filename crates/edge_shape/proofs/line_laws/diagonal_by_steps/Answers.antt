use Rattle.edge_shape.proofs.DiagonalSteps.{diagonal_steps}
use Rattle.edge_shape.proofs.line_laws.diagonal_by_steps.Goals as goal

pub returns : goal.returns
returns c = diagonal_steps
