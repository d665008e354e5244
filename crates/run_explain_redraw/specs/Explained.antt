-- What explain answers to a station: a lawful drawing exists; or laws, each for its parties, that no loose drawing
-- meets together and of which none can be left out; or the search gave up.
use Rattle.std.specs.Prelude.{◌≡◌, ◌⊎◌, ℕ, List, []}
use Rattle.plan_core.specs.Grid.{GridSize}
use Rattle.plan_core.specs.Graph.{Graph}
use Rattle.cnf_core.specs.declared.limits.TheConstants.{ROOM}
use Rattle.track_order.specs.Order.{EdgeOrder}
use Rattle.refute_log.specs.Told.{Lines}
use Rattle.drawing_cnf.specs.Layout.{layout}
use Rattle.search_why.specs.Task.{Task}
use Rattle.law_core.specs.declared.ending.Why.{Why}
use Rattle.law_core.specs.declared.ending.Why.TheVariants.{Exists, Laws, Spent, Room}
use Rattle.law_core.specs.Known.{task_of}
use Rattle.law_core.specs.Why.{IsRightWhy, IsWhyLog, IsWhyLeft}
use Rattle.run_input.specs.declared.status.Status.{Status}
use Rattle.run_input.specs.declared.status.Status.TheVariants.{Done, Unfinished}
use Rattle.run_input.specs.Met.{Met}
use Rattle.run_input.specs.Answer.{IsReadStation}
use Rattle.run_explain_redraw.specs.WhyText.{why_text}

-- what is asked: the grid of the drawings, and with how many learnt clauses the search gives up
pub record ExplainJob : Type 0 where
  pub grid : GridSize
  pub budget : ℕ

-- what is asked, of these parts
abbrev pub explain_job : GridSize → (budget : ℕ) → ExplainJob
explain_job grid budget = record { grid = grid; budget = budget }

-- what is searched: the loose drawings of the station on that grid and its laws, within that budget and ROOM words
abbrev pub explain_task : Graph → EdgeOrder → ExplainJob → Task
explain_task g o asked = task_of (layout g o asked.grid) asked.budget ROOM

-- how a run with this answer of the search ends
abbrev pub status_of_why : Why → Status
status_of_why (Exists d) = Done
status_of_why (Laws names without) = Done
status_of_why Spent = Unfinished
status_of_why Room = Unfinished

-- a search for an explanation was done and told these lines, its answer says of the drawings what it is to say, and
-- the text is its own
pub record IsExplainAnswer (asked : ExplainJob) (IsTold : Lines → Type 0) (g : Graph) (o : EdgeOrder) (status : Status)
    (text : List ℕ) : Type 0 where
  pub why : Why
  pub right : IsRightWhy (explain_task g o asked) why
  pub lines : Lines
  pub told : IsTold lines
  pub log : IsWhyLog (layout g o asked.grid) asked.budget ROOM why lines
  pub status_is : status ≡ status_of_why why
  pub spelled : text ≡ why_text g why

-- what is left of such a search for the station after an error
abbrev pub IsLeftOfExplain : ExplainJob → Graph → EdgeOrder → Lines → Type 0
IsLeftOfExplain asked g o lines = IsWhyLeft (layout g o asked.grid) asked.budget lines

-- what a run may leave after an error in a log that had no line: nothing, or what is left of a search for the station
-- that was read
abbrev pub ExplainMayLeave : ExplainJob → (input : List ℕ) → Met → Lines → Type 0
ExplainMayLeave asked input met lines =
    (lines ≡ []) ⊎ ((g : Graph) × (o : EdgeOrder) × IsReadStation input met g o × IsLeftOfExplain asked g o lines)
