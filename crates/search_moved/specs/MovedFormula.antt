-- The formula of a graph's drawings, and behind it how many nodes moved.
use Rattle.std.specs.Prelude.{ℕ, ◌+◌, Bool, ◌++◌}
use Rattle.plan_core.specs.Grid.{GridSize}
use Rattle.plan_core.specs.Graph.{Graph}
use Rattle.plan_core.specs.Drawing.{Drawing, place}
use Rattle.plan_core.specs.Lawful.{Lawful}
use Rattle.cnf_core.specs.Clause.{Clauses}
use Rattle.cnf_core.specs.Assignment.{Assignment, SatisfiesAll}
use Rattle.drawing_cnf.specs.Stands.{StandsFor}
use Rattle.drawing_cnf.specs.Expected.{drawing_vars, formula_clauses, formula_size}
use Rattle.drawing_cnf.specs.Moved.{Former, moved}
use Rattle.drawing_cnf.specs.MovedClauses.{count_size, count_clauses, TellsMoved}

-- the clauses of the drawings, and behind them those that count how many nodes moved
abbrev pub moved_formula : Graph → (ℕ → ℕ → Bool) → (ℕ → ℕ → Bool) → GridSize → Former → Clauses
moved_formula g above overlap grid former =
    formula_clauses g above overlap grid
    ++ count_clauses (drawing_vars g grid).node former (formula_size g above overlap grid)

-- how many variables it has
abbrev pub moved_size : Graph → (ℕ → ℕ → Bool) → (ℕ → ℕ → Bool) → GridSize → Former → ℕ
moved_size g above overlap grid former =
    formula_size g above overlap grid + count_size former (formula_size g above overlap grid)

-- the variable "at least j moved"
abbrev pub moved_variable : Graph → (ℕ → ℕ → Bool) → (ℕ → ℕ → Bool) → GridSize → ℕ → ℕ
moved_variable g above overlap grid j = formula_size g above overlap grid + j

-- how many nodes with a former point have another one in the drawing
abbrev pub moved_nodes : Former → Drawing → ℕ
moved_nodes former d = moved former (place d)

-- the assignment stands for a lawful drawing, and tells its moved nodes
pub record StandsAndTellsMoved (v : Assignment) (g : Graph) (above overlap : ℕ → ℕ → Bool) (grid : GridSize)
    (former : Former) : Type 0 where
  pub drawing : Drawing
  pub stands : StandsFor v g (drawing_vars g grid) drawing
  pub lawful : Lawful g above grid drawing
  pub tells : TellsMoved v former (formula_size g above overlap grid) (moved_nodes former drawing)

-- every assignment that satisfies `moved_formula` stands for a lawful drawing, and tells how many of its
-- nodes moved
abbrev pub SoundMoved : Graph → (ℕ → ℕ → Bool) → (ℕ → ℕ → Bool) → GridSize → Former → Type 0
SoundMoved g above overlap grid former =
    (v : Assignment) → SatisfiesAll v (moved_formula g above overlap grid former) →
    StandsAndTellsMoved v g above overlap grid former

-- an assignment that satisfies the clauses, stands for the drawing and tells its moved nodes
pub record MovedModel (g : Graph) (above overlap : ℕ → ℕ → Bool) (grid : GridSize) (former : Former) (d : Drawing)
    : Type 0 where
  pub to : Assignment
  pub satisfies : SatisfiesAll to (moved_formula g above overlap grid former)
  pub stands : StandsFor to g (drawing_vars g grid) d
  pub tells : TellsMoved to former (formula_size g above overlap grid) (moved_nodes former d)

-- every lawful drawing has an assignment that satisfies `moved_formula`, stands for the drawing and tells
-- how many of its nodes moved
abbrev pub CoversMoved : Graph → (ℕ → ℕ → Bool) → (ℕ → ℕ → Bool) → GridSize → Former → Type 0
CoversMoved g above overlap grid former =
    (d : Drawing) → Lawful g above grid d → MovedModel g above overlap grid former d
