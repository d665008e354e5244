use Rattle.std.proofs.Common.{List, ◌++◌, ◌∙◌, ap}
use Rattle.drawing_cnf.specs.Bounded.{Bound, bounds_clauses}
use Rattle.drawing_cnf.specs.Encoding.{encoded_vars}
use Rattle.drawing_cnf.specs.Whole.{drawing_clauses, drawing_last, bounds_last}
use Rattle.drawing_cnf.proofs.laws.whole_is_expected.Goals as goal

pub returns-clause-clauses : goal.returns-clause-clauses
returns-clause-clauses c = λ e order caps w is. w.clauses ∙ ap (λ (bs : List Bound). drawing_clauses e ++ bounds_clauses e.graph (encoded_vars e) e.grid bs) is

pub returns-clause-vars : goal.returns-clause-vars
returns-clause-vars c = λ e order caps w is. w.vars ∙ ap (λ (bs : List Bound). bounds_last e.graph (encoded_vars e) e.grid (drawing_last e) bs) is
