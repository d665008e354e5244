-- What redraw answers to a station and the former points of its nodes: a drawing than which no lawful one has fewer
-- nodes at other points, and how the search for it ended.
use Rattle.std.specs.Prelude.{◌≡◌, ℕ, List}
use Rattle.std.specs.declared.option.Option.{Option}
use Rattle.plan_core.specs.Grid.{GridSize}
use Rattle.plan_core.specs.Graph.{Graph}
use Rattle.cnf_core.specs.declared.limits.TheConstants.{ROOM}
use Rattle.track_order.specs.Order.{EdgeOrder}
use Rattle.refute_log.specs.Told.{Lines}
use Rattle.drawing_cnf.specs.Layout.{layout}
use Rattle.drawing_cnf.specs.Moved.{Former}
use Rattle.search_least.specs.declared.fewest.Fewest.{Fewest}
use Rattle.search_least.specs.declared.fewest.Fewest.TheVariants.{Best, NoDrawing, Spent, Room}
use Rattle.search_least.specs.CountTask.{CountTask}
use Rattle.search_least.specs.Fewest.{IsRightFewest}
use Rattle.search_moved.specs.Known.{moved_task}
use Rattle.search_moved.specs.Told.{IsMovedEnd, IsMovedLeft}
use Rattle.run_input.specs.declared.status.Status.{Status}
use Rattle.run_input.specs.declared.status.Status.TheVariants as statuses
use Rattle.run_explain_redraw.specs.MovedText.{moved_text}

-- what is asked: the grid of the drawings, with how many learnt clauses the search gives up, and the name of the file
-- for a log
pub record RedrawJob : Type 0 where
  pub grid : GridSize
  pub budget : ℕ
  pub log : Option (List ℕ)

-- what is asked, of these parts
abbrev pub redraw_job : GridSize → (budget : ℕ) → (log : Option (List ℕ)) → RedrawJob
redraw_job grid budget log = record { grid = grid; budget = budget; log = log }

-- what is searched: the lawful drawings of the station on that grid and how many of their nodes moved, within that
-- budget and ROOM words
abbrev pub moved_in : Graph → EdgeOrder → RedrawJob → Former → CountTask
moved_in g o asked former = moved_task (layout g o asked.grid) former asked.budget ROOM

-- how a run with this outcome of the search ends
abbrev pub status_of_moved : Fewest → Status
status_of_moved (Best d) = statuses.Done
status_of_moved NoDrawing = statuses.NoDrawing
status_of_moved (Spent found) = statuses.Unfinished
status_of_moved (Room found) = statuses.Unfinished

-- a search has this outcome, which says of the drawings what it is to say, and these are its lines
abbrev pub HasEndedMoved : Graph → EdgeOrder → RedrawJob → Former → Fewest → Lines → Type 0
HasEndedMoved g o asked former outcome lines = IsRightFewest (moved_in g o asked former) outcome
    × IsMovedEnd (layout g o asked.grid) former asked.budget ROOM outcome lines

-- lines of such a search, whether it ended or was cut short: they derive, the clauses that they give are the first of
-- those that are expected, and no more were learnt than the budget allows
abbrev pub IsLeftOfRedraw : RedrawJob → Graph → EdgeOrder → Former → Lines → Type 0
IsLeftOfRedraw asked g o former lines = IsMovedLeft (layout g o asked.grid) former asked.budget lines

-- a search with this outcome was done and told these lines: they certify of the drawings what the outcome says
pub record HasSearchedMoved (g : Graph) (o : EdgeOrder) (asked : RedrawJob) (former : Former) (IsTold : Lines → Type 0)
    (outcome : Fewest) : Type 0 where
  pub right : IsRightFewest (moved_in g o asked former) outcome
  pub lines : Lines
  pub told : IsTold lines
  pub ended : IsMovedEnd (layout g o asked.grid) former asked.budget ROOM outcome lines

-- and the text is that of the outcome
pub record IsRedrawn (g : Graph) (o : EdgeOrder) (asked : RedrawJob) (former : Former) (IsTold : Lines → Type 0)
    (status : Status) (text : List ℕ) : Type 0 where
  pub outcome : Fewest
  pub searched : HasSearchedMoved g o asked former IsTold outcome
  pub status_is : status ≡ status_of_moved outcome
  pub spelled : text ≡ moved_text g asked.grid former outcome
