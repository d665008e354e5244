-- The clause lists of a graph's drawings on a grid, as a log's lines.
use Rattle.std.specs.Prelude.{ℕ, zero, suc, ◌+◌, Bool, List, [], ◌∷◌, ◌++◌, map, flat_map}
use Rattle.plan_core.specs.declared.criterion.Criterion.{Criterion}
use Rattle.plan_core.specs.Grid.{GridSize}
use Rattle.plan_core.specs.Graph.{Graph}
use Rattle.cnf_core.specs.declared.literal.Var.{Var}
use Rattle.refute_log.specs.declared.line.LogLine.TheVariants.{Formula}
use Rattle.refute_log.specs.Told.{Lines}
use Rattle.refute_log.specs.Expected.{Problem, bound_lines}
use Rattle.cnf_laws.specs.Stands.{DrawingVars}
use Rattle.cnf_laws.specs.Expected.{drawing_vars, formula_clauses, formula_size}
use Rattle.drawing_cnf.specs.Bounds.{bound_clauses, bound_size}
use Rattle.drawing_cnf.specs.Bounded.{Bound, clauses_of_bound, expected_bounds}
use Rattle.drawing_cnf.specs.Encoding.{Encoding, encoded_vars}

-- the n variables behind the one of this number
abbrev pub variables_behind : ℕ → ℕ → List Var
variables_behind last zero = []
variables_behind last (suc n) = record { 0 = last + 1 } ∷ variables_behind (last + 1) n

-- the clause lists of the drawings of a graph, whose edges have this order and overlap so, on a grid; the bounds of a
-- criterion are the first variables of its sum
abbrev pub drawing_problem : Graph → (ℕ → ℕ → Bool) → (ℕ → ℕ → Bool) → GridSize → Problem
drawing_problem g above overlap grid = record {
  vars = formula_size g above overlap grid;
  clauses = formula_clauses g above overlap grid;
  sum = λ before c cap. bound_clauses g (drawing_vars g grid) grid before cap c;
  sum_vars = λ before c cap. bound_size g (drawing_vars g grid) grid before cap c;
  bounds = λ before c cap. variables_behind before cap;
}

-- the lines of a criterion's bound: its clauses, and a Bound line for each of its variables
abbrev pub lines_of_bound : Graph → DrawingVars → GridSize → Bound → Lines
lines_of_bound g x grid b = map Formula (clauses_of_bound g x grid b)
    ++ bound_lines b.criterion 1 (variables_behind b.last b.cap)

-- the lines of the drawings' clauses, and of these bounds behind them
abbrev pub lines_with : Graph → (ℕ → ℕ → Bool) → (ℕ → ℕ → Bool) → GridSize → List Bound → Lines
lines_with g above overlap grid bounds =
    map Formula (formula_clauses g above overlap grid) ++ flat_map (lines_of_bound g (drawing_vars g grid) grid) bounds

-- the same of the bounds that an order has with its caps
abbrev pub lines_for : Graph → (ℕ → ℕ → Bool) → (ℕ → ℕ → Bool) → GridSize → List Criterion → (Criterion → ℕ) → Lines
lines_for g above overlap grid order caps =
    lines_with g above overlap grid (expected_bounds g above overlap grid order caps)

-- the lines of a bound behind the clauses that an encoding has
abbrev pub lines_behind : Encoding → Bound → Lines
lines_behind e b = lines_of_bound e.graph (encoded_vars e) e.grid b
