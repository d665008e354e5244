-- What front answers to a station: the front of two criteria, pairs of values of which no lawful drawing has less of
-- one without more of the other, and how the search for them ended.
use Rattle.std.specs.Prelude.{◌≡◌, ◌⊎◌, ℕ, List, []}
use Rattle.plan_core.specs.declared.criterion.Criterion.{Criterion}
use Rattle.plan_core.specs.Grid.{GridSize}
use Rattle.plan_core.specs.Graph.{Graph}
use Rattle.cnf_core.specs.declared.limits.TheConstants.{ROOM}
use Rattle.track_order.specs.Order.{EdgeOrder}
use Rattle.refute_log.specs.Told.{Lines}
use Rattle.search_least.specs.Task.{Task, IsLawful}
use Rattle.trade_off.specs.declared.outcome.FrontEnd.{FrontEnd}
use Rattle.trade_off.specs.declared.outcome.FrontEnd.TheVariants.{Whole, Empty, Conflicts, Room}
use Rattle.trade_off.specs.Front.{Pairs}
use Rattle.trade_off.specs.Outcome.{IsRightFront, IsFrontLog, IsFrontLeft}
use Rattle.drawing_cnf.specs.Layout.{layout}
use Rattle.lex_minimise.specs.Task.{task_of}
use Rattle.run_input.specs.declared.status.Status.{Status}
use Rattle.run_input.specs.declared.status.Status.TheVariants as statuses
use Rattle.run_input.specs.Met.{Met}
use Rattle.run_input.specs.Answer.{IsReadStation}
use Rattle.run_draw_front.specs.FrontText.{front_text}

-- what is asked: the grid of the drawings, the two criteria, and with how many learnt clauses the search gives up
pub record FrontJob : Type 0 where
  pub grid : GridSize
  pub first : Criterion
  pub second : Criterion
  pub budget : ℕ

-- what is asked, of these parts
abbrev pub front_job : GridSize → (first second : Criterion) → (budget : ℕ) → FrontJob
front_job grid first second budget = record { grid = grid; first = first; second = second; budget = budget }

-- what is searched: the lawful drawings of the station on that grid, within that budget and ROOM words
abbrev pub front_task : Graph → EdgeOrder → FrontJob → Task
front_task g o asked = task_of (layout g o asked.grid) asked.budget ROOM

-- how a run with this end of the search ends
abbrev pub status_of_front : FrontEnd → Status
status_of_front Whole = statuses.Done
status_of_front Empty = statuses.NoDrawing
status_of_front Conflicts = statuses.Unfinished
status_of_front Room = statuses.Unfinished

-- a search for the front was done and told these lines, its pairs and its end say of the drawings what they are to say,
-- and the text is theirs
pub record IsFrontAnswer (asked : FrontJob) (IsTold : Lines → Type 0) (g : Graph) (o : EdgeOrder) (status : Status)
    (text : List ℕ) : Type 0 where
  pub pairs : Pairs
  pub ending : FrontEnd
  pub right : IsRightFront (IsLawful (front_task g o asked)) asked.first asked.second pairs ending
  pub lines : Lines
  pub told : IsTold lines
  pub log : IsFrontLog (front_task g o asked) asked.first asked.second pairs ending lines
  pub status_is : status ≡ status_of_front ending
  pub spelled : text ≡ front_text asked.first asked.second pairs ending

-- what is left of such a search for the station after an error
abbrev pub IsLeftOfFront : FrontJob → Graph → EdgeOrder → Lines → Type 0
IsLeftOfFront asked g o lines = IsFrontLeft (front_task g o asked) asked.first asked.second lines

-- what a run may leave after an error in a log that had no line: nothing, or what is left of a search for the station
-- that was read
abbrev pub FrontMayLeave : FrontJob → (input : List ℕ) → Met → Lines → Type 0
FrontMayLeave asked input met lines =
    (lines ≡ []) ⊎ ((g : Graph) × (o : EdgeOrder) × IsReadStation input met g o × IsLeftOfFront asked g o lines)
