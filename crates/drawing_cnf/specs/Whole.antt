-- A formula that has all of its clauses: those of the drawing, and behind them those of each bound.
use Rattle.std.specs.Prelude.{◌≡◌, ℕ, ◌+◌, Bool, List, [], ◌∷◌, ◌++◌}
use Rattle.plan_core.specs.declared.criterion.Criterion.{Criterion}
use Rattle.plan_core.specs.Grid.{GridSize}
use Rattle.plan_core.specs.Graph.{Graph}
use Rattle.cnf_core.specs.Clause.{Clauses}
use Rattle.track_order.specs.Order.{EdgeOrder, is_above, is_overlap, IsOrderOf}
use Rattle.cnf_laws.specs.Stands.{DrawingVars}
use Rattle.cnf_laws.specs.Expected.{drawing_vars, formula_clauses, formula_size}
use Rattle.drawing_cnf.specs.Bounded.{Bound, bound, size_of_bound, bounds_clauses, AreBehind, expected_bounds}
use Rattle.drawing_cnf.specs.Encoding.{Encoding, encoded_vars}

-- the clauses of the drawing
abbrev pub drawing_clauses : Encoding → Clauses
drawing_clauses e = formula_clauses e.graph (is_above e.order) (is_overlap e.order) e.grid

-- the last variable of the drawing's clauses
abbrev pub drawing_last : Encoding → ℕ
drawing_last e = formula_size e.graph (is_above e.order) (is_overlap e.order) e.grid

-- the last variable of bounds that stand behind the variable of number vars
abbrev pub bounds_last : Graph → DrawingVars → GridSize → ℕ → List Bound → ℕ
bounds_last g x grid vars [] = vars
bounds_last g x grid vars (b ∷ rest) = bounds_last g x grid (b.last + size_of_bound g x grid b) rest

-- the last variable of the drawing's clauses with these bounds behind them
abbrev pub last_with : Graph → EdgeOrder → GridSize → List Bound → ℕ
last_with g order grid bounds =
    bounds_last g (drawing_vars g grid) grid (formula_size g (is_above order) (is_overlap order) grid) bounds

-- the last variable of all that there is for an order with its caps
abbrev pub expected_last : Graph → (ℕ → ℕ → Bool) → (ℕ → ℕ → Bool) → GridSize → List Criterion → (Criterion → ℕ) → ℕ
expected_last g above overlap grid order caps =
    bounds_last g (drawing_vars g grid) grid (formula_size g above overlap grid)
    (expected_bounds g above overlap grid order caps)

-- the bounds of an order with its caps, and one of a further criterion right behind the last variable
abbrev pub one_bound_more : Graph → (ℕ → ℕ → Bool) → (ℕ → ℕ → Bool) → GridSize → List Criterion → (Criterion → ℕ) →
    Criterion → List Bound
one_bound_more g above overlap grid order caps c =
    expected_bounds g above overlap grid order caps
    ++ bound c (expected_last g above overlap grid order caps) (caps c) ∷ []

-- the bounds of the encoding are those of the order with its caps
abbrev pub HasBoundsOf : Encoding → List Criterion → (Criterion → ℕ) → Type 0
HasBoundsOf e order caps = e.bounds ≡ expected_bounds e.graph (is_above e.order) (is_overlap e.order) e.grid order caps

-- the clauses are the drawing's and behind them those of each bound, the variables of each bound lie behind
-- those before it, and there are no further variables; after an error of a call that adds a bound this
-- needn't hold
pub record IsWhole (e : Encoding) : Type 0 where
  pub order : IsOrderOf e.graph e.order
  pub clauses : e.formula.clauses ≡ drawing_clauses e ++ bounds_clauses e.graph (encoded_vars e) e.grid e.bounds
  pub behind : AreBehind e.graph (encoded_vars e) e.grid (drawing_last e) e.bounds
  pub vars : e.formula.vars ≡ bounds_last e.graph (encoded_vars e) e.grid (drawing_last e) e.bounds
