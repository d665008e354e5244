use Rattle.edge_shape.proofs.LineExtends.{one_line}
use Rattle.edge_shape.proofs.laws.one_line_is_read.Goals as goal

pub returns : goal.returns
returns c = one_line
