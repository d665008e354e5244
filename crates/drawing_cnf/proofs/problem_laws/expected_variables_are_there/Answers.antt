use Rattle.drawing_cnf.proofs.ProblemThere.{expected_clauses_there, expected_bounds_there}
use Rattle.drawing_cnf.proofs.problem_laws.expected_variables_are_there.Goals as goal

pub returns : goal.returns
returns c = record {
  clauses = λ y order caps is. expected_clauses_there y.graph y.order y.grid order caps is.station is.ordered is.sized;
  bounds = λ y order caps. expected_bounds_there y.graph y.order y.grid order caps;
}
