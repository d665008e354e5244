-- The formula with bounds behind it: one list for a graph, a grid, and the criteria that are bounded in an order, each
-- with its cap.
use Rattle.std.specs.Prelude.{◌≤◌, ⊤, ℕ, ◌+◌, ◌*◌, Bool, cond, length, nat_eq, List, [], ◌∷◌, ◌++◌, All}
use Rattle.std.specs.List.{flat_map}
use Rattle.plan_core.specs.declared.criterion.Criterion.{Criterion}
use Rattle.plan_core.specs.declared.criterion.Values.{Values}
use Rattle.plan_core.specs.Grid.{GridSize}
use Rattle.plan_core.specs.Graph.{Graph}
use Rattle.plan_core.specs.Drawing.{Drawing}
use Rattle.plan_core.specs.Values.{values_of, value_of}
use Rattle.plan_core.specs.Lawful.{Lawful}
use Rattle.cnf_core.specs.Clause.{Clauses}
use Rattle.cnf_core.specs.Assignment.{Assignment, SatisfiesAll}
use Rattle.cnf_laws.specs.Stands.{DrawingVars, StandsFor}
use Rattle.cnf_laws.specs.Expected.{drawing_vars, formula_clauses, formula_size, parts}
use Rattle.drawing_cnf.specs.Bounds.{IsExact, bound_clauses, bound_size}

-- a criterion's bound: variable last + k says "at least k", for k from 1 to the cap
pub record Bound : Type 0 where
  pub criterion : Criterion
  pub last : ℕ
  pub cap : ℕ

-- the bound of this criterion and cap, behind the variable of number last
abbrev pub bound : Criterion → ℕ → ℕ → Bound
bound criterion last cap = record { criterion = criterion; last = last; cap = cap }

-- the clauses of a bound
abbrev pub clauses_of_bound : Graph → DrawingVars → GridSize → Bound → Clauses
clauses_of_bound g x grid b = bound_clauses g x grid b.last b.cap b.criterion

-- how many variables a bound has
abbrev pub size_of_bound : Graph → DrawingVars → GridSize → Bound → ℕ
size_of_bound g x grid b = bound_size g x grid b.last b.cap b.criterion

-- how many literals the longest clause of a bound has at most
abbrev pub longest_of_bound : Graph → GridSize → ℕ
longest_of_bound g grid = length g.edges * (grid.width + 1) + length g.nodes + 3

-- how many words the clauses of a bound up to this cap have at most, where the graph has a node or an edge
abbrev pub most_words_of_bound : Graph → GridSize → ℕ → ℕ
most_words_of_bound g grid cap = 400 * (parts g * (grid.width + 1) * (cap + 2))

-- how many variables it has at most there
abbrev pub most_size_of_bound : Graph → GridSize → ℕ → ℕ
most_size_of_bound g grid cap = 40 * (parts g * (grid.width + 1) * (cap + 2))

abbrev pub bounds_clauses : Graph → DrawingVars → GridSize → List Bound → Clauses
bounds_clauses g x grid bounds = flat_map (clauses_of_bound g x grid) bounds

-- each stands behind the variables of number vars and of those before it
abbrev pub AreBehind : Graph → DrawingVars → GridSize → ℕ → List Bound → Type 0
AreBehind g x grid vars [] = ⊤
AreBehind g x grid vars (b ∷ rest) = (vars ≤ b.last) × AreBehind g x grid (b.last + size_of_bound g x grid b) rest

-- the criteria of an order that have a cap above 0, one right behind another
abbrev pub bounds_from : Graph → DrawingVars → GridSize → (Criterion → ℕ) → ℕ → List Criterion → List Bound
bounds_from g x grid caps last [] = []
bounds_from g x grid caps last (c ∷ rest) =
    cond (nat_eq (caps c) 0) (bounds_from g x grid caps last rest)
    (bound c last (caps c) ∷ bounds_from g x grid caps (last + bound_size g x grid last (caps c) c) rest)

-- The clauses and variables that there are for an order with its caps.

-- the bounds of those criteria of an order that have a cap above 0, one right behind another, the first
-- behind the drawing's variables
abbrev pub expected_bounds : Graph → (ℕ → ℕ → Bool) → (ℕ → ℕ → Bool) → GridSize → List Criterion → (Criterion → ℕ) →
    List Bound
expected_bounds g above overlap grid order caps =
    bounds_from g (drawing_vars g grid) grid caps (formula_size g above overlap grid) order

-- the clauses of the drawing, and behind them those of these bounds
abbrev pub expected : Graph → (ℕ → ℕ → Bool) → (ℕ → ℕ → Bool) → GridSize → List Criterion → (Criterion → ℕ) → Clauses
expected g above overlap grid order caps =
    formula_clauses g above overlap grid
    ++ bounds_clauses g (drawing_vars g grid) grid (expected_bounds g above overlap grid order caps)

-- What they are to be.

-- each bound is exact
abbrev pub Tells : Assignment → Values → List Bound → Type 0
Tells v values bounds = All (λ (b : Bound). IsExact v b.last b.cap (value_of values b.criterion)) bounds

-- the assignment stands for a lawful drawing, and the bounds tell its values
pub record StandsAndTells (v : Assignment) (g : Graph) (above : ℕ → ℕ → Bool) (grid : GridSize) (x : DrawingVars)
    (bounds : List Bound) : Type 0 where
  pub drawing : Drawing
  pub stands : StandsFor v g x drawing
  pub lawful : Lawful g above grid drawing
  pub tells : Tells v (values_of drawing) bounds

-- every assignment that satisfies the clauses stands for a lawful drawing, and the bounds tell its values
abbrev pub SoundWith : Graph → (ℕ → ℕ → Bool) → GridSize → DrawingVars → Clauses → List Bound → Type 0
SoundWith g above grid x clauses bounds = (v : Assignment) → SatisfiesAll v clauses →
    StandsAndTells v g above grid x bounds

-- an assignment that satisfies the clauses and stands for the drawing, and whose bounds tell its values
pub record TellingModel (g : Graph) (x : DrawingVars) (clauses : Clauses) (bounds : List Bound) (d : Drawing) : Type 0
  where
    pub to : Assignment
    pub satisfies : SatisfiesAll to clauses
    pub stands : StandsFor to g x d
    pub tells : Tells to (values_of d) bounds

-- every lawful drawing has an assignment that satisfies the clauses and stands for it, and whose bounds
-- tell its values
abbrev pub CoversWith : Graph → (ℕ → ℕ → Bool) → GridSize → DrawingVars → Clauses → List Bound → Type 0
CoversWith g above grid x clauses bounds = (d : Drawing) → Lawful g above grid d → TellingModel g x clauses bounds d
