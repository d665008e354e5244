-- What the clauses of nodes and edges say by themselves: they are those of the drawings that have laws 1 and 3.
use Rattle.plan_core.specs.Grid.{GridSize}
use Rattle.plan_core.specs.Graph.{Graph}
use Rattle.plan_core.specs.Drawing.{Drawing}
use Rattle.cnf_core.specs.Clause.{Clauses}
use Rattle.cnf_core.specs.Assignment.{Assignment, SatisfiesAll}
use Rattle.cnf_laws.specs.Stands.{StandsFor, ReadsDrawing, IsJoinedOnGrid}
use Rattle.cnf_laws.specs.Expected.{drawing_vars}

-- the assignment says such a drawing, and stands for it
pub record StandsForJoined (v : Assignment) (g : Graph) (grid : GridSize) : Type 0 where
  pub drawing : Drawing
  pub joined : IsJoinedOnGrid g grid drawing
  pub reads : ReadsDrawing v g (drawing_vars g grid) grid.width drawing
  pub stands : StandsFor v g (drawing_vars g grid) drawing

-- every assignment that satisfies the clauses says a drawing with laws 1 and 3, and stands for it
abbrev pub SoundJoined : Graph → GridSize → Clauses → Type 0
SoundJoined g grid clauses = (v : Assignment) → SatisfiesAll v clauses → StandsForJoined v g grid

-- an assignment that satisfies the clauses, says the drawing and stands for it
pub record JoinedModel (g : Graph) (grid : GridSize) (clauses : Clauses) (d : Drawing) : Type 0 where
  pub to : Assignment
  pub satisfies : SatisfiesAll to clauses
  pub reads : ReadsDrawing to g (drawing_vars g grid) grid.width d
  pub stands : StandsFor to g (drawing_vars g grid) d

-- every drawing with laws 1 and 3 has an assignment that satisfies the clauses, says it and stands for it
abbrev pub CoversJoined : Graph → GridSize → Clauses → Type 0
CoversJoined g grid clauses = (d : Drawing) → IsJoinedOnGrid g grid d → JoinedModel g grid clauses d
