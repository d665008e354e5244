-- What make and trial answer to a number: the made station's file, and how the search for its drawing ended.
use Rattle.std.specs.Prelude.{◌≡◌, ◌⊎◌, ℕ, List, [], ◌∷◌, ◌++◌, codes, length}
use Rattle.std.specs.Fmt.{decimal}
use Rattle.plan_core.specs.declared.criterion.Criterion.{Criterion}
use Rattle.plan_core.specs.declared.criterion.Criterion.TheVariants as criteria
use Rattle.plan_core.specs.Grid.{GridSize, grid_size}
use Rattle.plan_core.specs.Graph.{Graph}
use Rattle.plan_core.specs.Drawing.{Drawing}
use Rattle.plan_core.specs.Values.{values_of}
use Rattle.outside_io.specs.Fields.{spaced}
use Rattle.track_order.specs.Order.{EdgeOrder}
use Rattle.refute_log.specs.Told.{Lines}
use Rattle.search_least.specs.declared.outcome.Outcome.{Outcome}
use Rattle.search_least.specs.declared.outcome.Outcome.TheVariants as outcomes
use Rattle.station_make.specs.StationText.{station_text}
use Rattle.run_input.specs.declared.status.Status.{Status}
use Rattle.run_input.specs.declared.status.Status.TheVariants.{Done}
use Rattle.run_input.specs.Input.{HasStation}
use Rattle.run_draw_front.specs.Drawn.{Job, search_job, HasSearched, IsLeftOfDraw, status_of}

-- ---- make

-- the text is the file of the station of this number
pub record IsMade (n : ℕ) (status : Status) (text : List ℕ) : Type 0 where
  pub status_is : status ≡ Done
  pub spelled : text ≡ station_text n

-- ---- trial

-- the grid of trial: 64 columns and 2 rows
abbrev pub trial_grid : GridSize
trial_grid = grid_size 64 2

-- the order of trial: the least height first, then the least width
abbrev pub trial_order : List Criterion
trial_order = criteria.Height ∷ criteria.Width ∷ []

-- what is asked of a made station's drawing, with no files
abbrev pub trial_job : Job
trial_job = search_job trial_grid trial_order 50000

-- the counts of a graph, and the values of its best drawing, as fields of a line
abbrev pub graph_counts : Graph → List (List ℕ)
graph_counts g = codes "nodes" ∷ decimal (length g.nodes) ∷ codes "edges" ∷ decimal (length g.edges) ∷ []

abbrev pub best_measures : Drawing → List (List ℕ)
best_measures d = codes "height" ∷ decimal (values_of d).height ∷ codes "width" ∷ decimal (values_of d).width ∷ []

-- how the line of a trial goes on: the graph's counts and the best drawing's values, or that there is none, or why the
-- search stopped
abbrev pub trial_end : Graph → Outcome → List ℕ
trial_end g (outcomes.Best d) = spaced (graph_counts g) ++ spaced (best_measures d)
trial_end g outcomes.NoDrawing = spaced (codes "none" ∷ [])
trial_end g (outcomes.Spent found settled) = spaced (codes "conflicts" ∷ [])
trial_end g (outcomes.Room found settled) = spaced (codes "room" ∷ [])

-- the line of a trial: the station's number, and how the search ended
abbrev pub trial_line : ℕ → Graph → Outcome → List ℕ
trial_line n g outcome = codes "trial" ++ spaced (decimal n ∷ []) ++ trial_end g outcome ++ codes "\n"

-- a search for the station's drawing was done, and the line says how it ended
pub record IsTried (n : ℕ) (IsTold : Lines → Type 0) (g : Graph) (o : EdgeOrder) (status : Status) (text : List ℕ) :
    Type 0 where
  pub outcome : Outcome
  pub searched : HasSearched g o trial_job IsTold outcome
  pub status_is : status ≡ status_of outcome
  pub spelled : text ≡ trial_line n g outcome

-- what a trial may tell a log that had no line: nothing, or lines of a search for the made station
abbrev pub TrialMayTell : (n : ℕ) → Lines → Type 0
TrialMayTell n lines =
    (lines ≡ []) ⊎ ((g : Graph) × (o : EdgeOrder) × HasStation (station_text n) g o × IsLeftOfDraw trial_job g o lines)
