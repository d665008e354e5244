-- What is searched: the laws of a graph on a grid that a loose drawing may meet or not, and the limits of the search.
use Rattle.std.specs.Prelude.{ℕ, Bool, List, All, Contains, slice_index_or}
use Rattle.plan_core.specs.Grid.{GridSize}
use Rattle.plan_core.specs.Graph.{Graph}
use Rattle.plan_core.specs.Drawing.{Drawing}
use Rattle.plan_core.specs.Lawful.{Instance, NodeOnGrid, IsInstance, Meets}
use Rattle.cnf_core.specs.Clause.{Clauses}
use Rattle.search_why.specs.Explained.{IsChoice, IsChoiceOf}

-- the graph with its track order and the grid; the laws, each for its parties, which questions name by their places in
-- this list; the clauses in which it is searched; how many clauses may be learnt, and how many words all clauses may
-- have
pub record Task : Type 0 where
  pub graph : Graph
  pub above : ℕ → ℕ → Bool
  pub grid : GridSize
  pub laws : List Instance
  pub clauses : Clauses
  pub budget : ℕ
  pub room : ℕ

-- the law at a place; no definition asks for it past the list's end
abbrev pub law_at : Task → ℕ → Instance
law_at p n = slice_index_or p.laws n (NodeOnGrid 0)

-- the drawing meets the law at this place
abbrev pub MeetsAt : Task → Drawing → ℕ → Type 0
MeetsAt p d n = Meets p.graph p.grid d (law_at p n)

-- the list has all laws of 2, 4, 5, 6 and 7, and no others
pub record HasAllLaws (p : Task) : Type 0 where
  pub each : All (IsChoiceOf p.graph p.above) p.laws
  pub all : (i : Instance) → IsInstance p.graph p.above i → IsChoice i → Contains p.laws i
