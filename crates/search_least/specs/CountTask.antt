-- What is searched: drawings, what is counted of them, and the limits of the search.
use Rattle.std.specs.Prelude.{◌≡◌, ◌≤◌, ◌↔◌, ℕ, Bool, true, flat_map}
use Rattle.plan_core.specs.Grid.{GridSize}
use Rattle.plan_core.specs.Graph.{Graph}
use Rattle.plan_core.specs.Lawful.{Lawful}
use Rattle.plan_core.specs.Drawing.{Drawing}
use Rattle.cnf_core.specs.Lit.{Literal}
use Rattle.cnf_core.specs.Clause.{Clauses}
use Rattle.cnf_core.specs.Assignment.{Assignment, SatisfiesAll, truth}
use Rattle.refute_log.specs.Told.{Lines}
use Rattle.refute_log.specs.Log.{given}

-- the graph with its track order and the grid, whose lawful drawings are meant, and their count; the clauses of the
-- formula, with the literal "the count is at least j" for each j from 1 to the most; how many clauses may be learnt,
-- and how many words all clauses may have
pub record CountTask : Type 0 where
  pub graph : Graph
  pub above : ℕ → ℕ → Bool
  pub grid : GridSize
  pub count : Drawing → ℕ
  pub most : ℕ
  pub at_least : ℕ → Literal
  pub clauses : Clauses
  pub budget : ℕ
  pub room : ℕ

-- the drawing is one that is searched: it is lawful
abbrev pub IsOne : CountTask → Drawing → Type 0
IsOne p d = Lawful p.graph p.above p.grid d

-- some assignment satisfies all Formula lines, and tells the count
pub record TellsCount (p : CountTask) (lines : Lines) (n : ℕ) : Type 0 where
  pub assignment : Assignment
  pub formula : SatisfiesAll assignment (flat_map given lines)
  pub tells : (j : ℕ) → 1 ≤ j → j ≤ p.most → (truth assignment (p.at_least j) ≡ true) ↔ (j ≤ n)

-- for each lawful drawing some assignment satisfies the Formula lines and tells its count
abbrev pub CoversCounts : CountTask → Lines → Type 0
CoversCounts p lines = (d : Drawing) → IsOne p d → TellsCount p lines (p.count d)
