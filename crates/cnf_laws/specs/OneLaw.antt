-- The clauses of one law for its parties, apart from all others.
use Rattle.std.specs.Prelude.{ℕ, ◌⊎◌, List}
use Rattle.plan_core.specs.Grid.{GridSize}
use Rattle.plan_core.specs.Graph.{Graph}
use Rattle.plan_core.specs.Drawing.{Drawing}
use Rattle.plan_core.specs.Laws.{NodesAreOrdered, NodesAreApart}
use Rattle.cnf_core.specs.Lit.{Literal}
use Rattle.cnf_core.specs.Clause.{Clauses}
use Rattle.cnf_core.specs.Assignment.{Assignment, Satisfies, SatisfiesAll, Extends}
use Rattle.cnf_laws.specs.Stands.{ReadsDrawing, IsJoinedOnGrid}
use Rattle.cnf_laws.specs.Expected.{drawing_vars}

-- where a model reads a drawing and none of the literals is true, the sentence holds
abbrev pub SaysLaw : Graph → GridSize → List Literal → Clauses → (Drawing → Type 0) → Type 0
SaysLaw g grid unless clauses sentence =
    (v : Assignment) (d : Drawing) → ReadsDrawing v g (drawing_vars g grid) grid.width d → IsJoinedOnGrid g grid d →
    (Satisfies v unless → ⊥) → SatisfiesAll v clauses → sentence d

-- two nodes' columns are in the order of their mileages, and they don't stand too near to one another
abbrev pub NodesStandApart : Graph → ℕ → ℕ → Drawing → Type 0
NodesStandApart g u v d = NodesAreOrdered g d u v × NodesAreApart d u v

-- where the sentence holds, or one of the literals is true, the count variables from first on can be given truth values
-- so that the clauses hold
abbrev pub AllowsLaw : Graph → GridSize → List Literal → ℕ → ℕ → Clauses → (Drawing → Type 0) → Type 0
AllowsLaw g grid unless first count clauses sentence =
    (v : Assignment) (d : Drawing) → ReadsDrawing v g (drawing_vars g grid) grid.width d → IsJoinedOnGrid g grid d →
    Satisfies v unless ⊎ sentence d → Extends first count v (λ w. SatisfiesAll w clauses)
