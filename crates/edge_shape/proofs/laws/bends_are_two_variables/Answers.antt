use Rattle.edge_shape.proofs.LineExtends.{bends_read}
use Rattle.edge_shape.proofs.laws.bends_are_two_variables.Goals as goal

pub returns : goal.returns
returns c = bends_read
