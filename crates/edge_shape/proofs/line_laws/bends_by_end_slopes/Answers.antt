use Rattle.edge_shape.proofs.BendLemmas.{bends_are}
use Rattle.edge_shape.proofs.line_laws.bends_by_end_slopes.Goals as goal

pub returns : goal.returns
returns c = bends_are
