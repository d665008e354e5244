-- What is searched: the drawings of a layout, within the limits of a search.
use Rattle.std.specs.Prelude.{ℕ}
use Rattle.track_order.specs.Order.{is_above}
use Rattle.search_least.specs.Task.{Task}
use Rattle.drawing_cnf.specs.Layout.{Layout, problem_of}

-- the drawings' clause lists, with so many learnt clauses and words of all clauses at most
abbrev pub task_of : Layout → (budget room : ℕ) → Task
task_of y budget room = record {
  graph = y.graph;
  above = is_above y.order;
  grid = y.grid;
  encoding = problem_of y;
  budget = budget;
  room = room;
}
