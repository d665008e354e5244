use Rattle.edge_shape.proofs.DiagonalCount.{diagonal_read}
use Rattle.edge_shape.proofs.laws.diagonal_is_counted.Goals as goal

pub returns : goal.returns
returns c = diagonal_read
