use Rattle.edge_shape.proofs.UniqueLemmas.{same_heights_same_line}
use Rattle.edge_shape.proofs.line_laws.heights_determine_a_line.Goals as goal

pub returns : goal.returns
returns c = same_heights_same_line
