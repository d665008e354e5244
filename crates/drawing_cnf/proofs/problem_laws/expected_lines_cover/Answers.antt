use Rattle.drawing_cnf.proofs.CoverLemmas.{expected_cover}
use Rattle.drawing_cnf.proofs.problem_laws.expected_lines_cover.Goals as goal

pub returns : goal.returns
returns c = λ y order caps is. expected_cover y.graph y.order y.grid order caps is.station is.ordered is.sized
