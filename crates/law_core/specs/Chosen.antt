-- What the clauses of loose drawings with laws to choose say, both ways.
use Rattle.std.specs.Prelude.{◌≡◌, ◌<◌, ℕ, Bool, true, List, length, slice_index_or}
use Rattle.plan_core.specs.Grid.{GridSize}
use Rattle.plan_core.specs.Graph.{Graph}
use Rattle.plan_core.specs.Drawing.{Drawing}
use Rattle.plan_core.specs.Lawful.{Instance, NodeOnGrid, Meets}
use Rattle.cnf_core.specs.Clause.{Clauses}
use Rattle.cnf_core.specs.Assignment.{Assignment, SatisfiesAll}
use Rattle.drawing_cnf.specs.Stands.{StandsFor}
use Rattle.drawing_cnf.specs.Expected.{drawing_vars, laws_first, instances}
use Rattle.track_order.specs.Order.{EdgeOrder, is_above, is_overlap}
use Rattle.search_why.specs.Explained.{IsLoose}
use Rattle.search_why.specs.Task.{Task}
use Rattle.law_core.specs.Choices.{selectors, why_clauses}

-- the law at a place; nothing asks for one past the list's end
abbrev pub listed_law : List Instance → ℕ → Instance
listed_law laws n = slice_index_or laws n (NodeOnGrid 0)

-- the selecting variable of the law at a place; nothing asks for one past the list's end
abbrev pub selector_at : Graph → GridSize → List Instance → ℕ → ℕ
selector_at g grid laws n = slice_index_or (selectors (laws_first g grid) laws) n 0

-- the assignment stands for a loose drawing that meets each selected law
pub record StandsForLoose (v : Assignment) (g : Graph) (grid : GridSize) (laws : List Instance) : Type 0 where
  pub drawing : Drawing
  pub stands : StandsFor v g (drawing_vars g grid) drawing
  pub loose : IsLoose g grid drawing
  pub meets : (n : ℕ) → n < length laws → v (selector_at g grid laws n) ≡ true →
      Meets g grid drawing (listed_law laws n)

-- every assignment that satisfies the clauses stands for a loose drawing that meets each selected law
abbrev pub SoundChoices : Graph → GridSize → List Instance → Clauses → Type 0
SoundChoices g grid laws clauses = (v : Assignment) → SatisfiesAll v clauses → StandsForLoose v g grid laws

-- an assignment that satisfies the clauses, stands for the drawing, and selects these laws
pub record ChoiceModel (g : Graph) (grid : GridSize) (laws : List Instance) (clauses : Clauses) (d : Drawing)
    (chosen : ℕ → Bool) : Type 0 where
  pub to : Assignment
  pub satisfies : SatisfiesAll to clauses
  pub stands : StandsFor to g (drawing_vars g grid) d
  pub selects : (n : ℕ) → n < length laws → to (selector_at g grid laws n) ≡ chosen n

-- the drawing meets each law that is chosen
abbrev pub MeetsChosen : Graph → GridSize → List Instance → Drawing → (ℕ → Bool) → Type 0
MeetsChosen g grid laws d chosen = (n : ℕ) → n < length laws → chosen n ≡ true → Meets g grid d (listed_law laws n)

-- each loose drawing, with each choice of laws that it meets, has such an assignment
abbrev pub CoversChoices : Graph → GridSize → List Instance → Clauses → Type 0
CoversChoices g grid laws clauses =
    (d : Drawing) → IsLoose g grid d → (chosen : ℕ → Bool) → MeetsChosen g grid laws d chosen →
    ChoiceModel g grid laws clauses d chosen

-- what is searched for an explanation: the laws of a graph, whose edges have this order, on a grid
abbrev pub why_task : Graph → EdgeOrder → GridSize → (budget room : ℕ) → Task
why_task g order grid budget room = record {
  graph = g;
  above = is_above order;
  grid = grid;
  laws = instances g (is_above order) (is_overlap order);
  clauses = why_clauses g (is_above order) (is_overlap order) grid;
  budget = budget;
  room = room;
}
