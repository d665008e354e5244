-- Truth values of a drawing, put into a model one part after another.
use Rattle.std.specs.Prelude.{◌≡◌, ◌≤◌, ◌<◌, ⊤, ℕ, ◌+◌, nat_le, nat_lt, List, [], ◌∷◌, ◌++◌}
use Rattle.std.specs.declared.cmp.Ordering.{Ordering}
use Rattle.std.specs.declared.cmp.Ordering.TheVariants.{Less, Equal, Greater}
use Rattle.plan_core.specs.declared.point.Point.{Point}
use Rattle.plan_core.specs.Grid.{GridSize, IsGrid}
use Rattle.plan_core.specs.Graph.{Graph, IsTrackGraph}
use Rattle.plan_core.specs.Drawing.{Drawing}
use Rattle.plan_core.specs.Lawful.{Instance}
use Rattle.cnf_core.specs.declared.limits.TheConstants.{VARS}
use Rattle.cnf_core.specs.Clause.{Clauses, AreThere}
use Rattle.cnf_core.specs.Assignment.{Assignment, SatisfiesAll, SameOutside}
use Rattle.unary_sum.specs.Sum.{SumVars, sum_count, sum_clauses}
use Rattle.cnf_laws.specs.Stands.{ReadsDrawing, IsJoinedOnGrid}
use Rattle.cnf_laws.specs.LawClauses.{laws_size, laws_clauses}
use Rattle.cnf_laws.specs.Expected.{drawing_vars, laws_first}

-- the nodes' and the edges' variables have what the drawing has, and those from first on aren't theirs
pub record IsPutTo (g : Graph) (grid : GridSize) (d : Drawing) (v : Assignment) (first : ℕ) : Type 0 where
  pub graph : IsTrackGraph g
  pub size : IsGrid grid
  pub few : laws_first g grid ≤ VARS + 1
  pub loose : IsJoinedOnGrid g grid d
  pub reads : ReadsDrawing v g (drawing_vars g grid) grid.width d
  pub behind : laws_first g grid ≤ first

-- the clauses hold, whatever the variables from last on say
abbrev pub HoldsBefore : ℕ → Assignment → Clauses → Type 0
HoldsBefore last v clauses = (w : Assignment) → ((y : ℕ) → y < last → w y ≡ v y) → SatisfiesAll w clauses

-- the variables of these laws, of which first is the first, were put, and no others
pub record PutsLaws (g : Graph) (grid : GridSize) (laws : List Instance) (first : ℕ) (old new : Assignment) : Type 0
  where
    pub same : SameOutside first (laws_size g laws) old new
    pub holds : HoldsBefore (first + laws_size g laws) new (laws_clauses g (drawing_vars g grid) grid.width first laws)

-- law 5's variables: of two nodes the one of smaller mileage isn't west of the other, and is below it; of two
-- of one mileage the first is below the second
abbrev pub ApartBits : Ordering → Assignment → ℕ → Point → Point → Type 0
ApartBits Less v first p q = (v first ≡ nat_le q.x p.x) × (v (first + 1) ≡ nat_lt p.y q.y)
ApartBits Equal v first p q = v first ≡ nat_lt p.y q.y
ApartBits Greater v first p q = (v first ≡ nat_le p.x q.x) × (v (first + 1) ≡ nat_lt q.y p.y)

-- Sums one behind another.

-- how many variables the sums have together
abbrev pub sums_size : List SumVars → ℕ
sums_size [] = 0
sums_size (s ∷ rest) = sum_count s + sums_size rest

-- the clauses of all the sums
abbrev pub sums_clauses : List SumVars → Clauses
sums_clauses [] = []
sums_clauses (s ∷ rest) = sum_clauses s ++ sums_clauses rest

-- the first follows the variable of number vars, and each the one before it; the inputs of each lie before its
-- variables
abbrev pub AreInRow : ℕ → List SumVars → Type 0
AreInRow vars [] = ⊤
AreInRow vars (s ∷ rest) = (s.vars ≡ vars) × (AreThere vars s.inputs × AreInRow (vars + sum_count s) rest)
