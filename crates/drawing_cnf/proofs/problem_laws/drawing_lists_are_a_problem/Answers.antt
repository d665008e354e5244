use Rattle.drawing_cnf.proofs.ListLemmas.{all_bounds, expected_with}
use Rattle.cnf_laws.specs.Expected.{drawing_vars}
use Rattle.drawing_cnf.proofs.CriterionLemmas.{cap_fits}
use Rattle.drawing_cnf.proofs.ProblemThere.{variable_at}
use Rattle.drawing_cnf.proofs.problem_laws.drawing_lists_are_a_problem.Goals as goal

pub returns : goal.returns
returns c = record {
  bounds = all_bounds;
  first = λ g above overlap grid before d cap k lt. variable_at before cap k lt;
  within = λ g above overlap grid before d cap. cap_fits g (drawing_vars g grid) grid before cap d;
  lines = expected_with;
}
