-- What is searched: the lawful drawings of a graph on a grid, their clauses, and the limits of the search.
use Rattle.std.specs.Prelude.{ℕ, Bool}
use Rattle.plan_core.specs.declared.criterion.Criterion.{Criterion}
use Rattle.plan_core.specs.Grid.{GridSize}
use Rattle.plan_core.specs.Graph.{Graph}
use Rattle.plan_core.specs.Drawing.{Drawing}
use Rattle.plan_core.specs.Lawful.{Lawful}
use Rattle.plan_core.specs.Values.{limit_of}
use Rattle.refute_log.specs.Expected.{Problem}

-- the graph with its track order and the grid; the clause lists; how many clauses may be learnt, and how many words
-- all clauses may have
pub record Task : Type 0 where
  pub graph : Graph
  pub above : ℕ → ℕ → Bool
  pub grid : GridSize
  pub encoding : Problem
  pub budget : ℕ
  pub room : ℕ

-- the drawing is a lawful one of the task's graph on its grid
abbrev pub IsLawful : Task → Drawing → Type 0
IsLawful p d = Lawful p.graph p.above p.grid d

-- the greatest value that the criterion can have
abbrev pub greatest_of : Task → Criterion → ℕ
greatest_of p c = limit_of p.graph p.grid c
