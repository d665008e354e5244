-- What signals answers to a station with its signals: what draw answers to the station where each edge goes over as
-- many columns at least as the edge with the most signals needs, and behind a sheet with a drawing the text of the
-- signals; and with which bytes it may leave a file.
use Rattle.std.specs.Prelude.{◌≡◌, ◌<◌, ◌⊎◌, ℕ, List, [], ◌++◌, None, Some, length, ⊤}
use Rattle.std.specs.declared.option.Option.{Option}
use Rattle.plan_core.specs.Grid.{grid_with}
use Rattle.plan_core.specs.Graph.{Graph}
use Rattle.plan_core.specs.Drawing.{Drawing}
use Rattle.railml_read.specs.declared.rows.SignalElem.{SignalElem}
use Rattle.track_order.specs.Order.{EdgeOrder}
use Rattle.plan_objects.specs.declared.places.SignalPlace.{SignalPlace}
use Rattle.plan_objects.specs.Places.{need_of, edge_at}
use Rattle.plan_objects.specs.Spread.{AreSpread, column_on}
use Rattle.plan_objects.specs.SignalsText.{line_under, signals_text}
use Rattle.refute_log.specs.Told.{Lines}
use Rattle.refute_log.specs.FileLog.{BeginsLog}
use Rattle.run_input.specs.declared.fault.RunFault.{RunFault}
use Rattle.run_input.specs.declared.status.Status.{Status}
use Rattle.run_input.specs.Fault.{IsFaultLine}
use Rattle.run_input.specs.Signals.{HasFault, HasSignalStation, IsSignalStationOf}
use Rattle.run_input.specs.Met.{Met, HasRead}
use Rattle.search_least.specs.declared.outcome.Outcome.{Outcome}
use Rattle.run_draw_front.specs.Drawn.{Job, job, found_by, HasEnded, IsDrawAnswer, IsLeftOfDraw}

-- ---- what is asked

-- what is asked, with what these signals need as the least length of each edge, in place of the one that was asked for
abbrev pub job_for : List SignalPlace → Job → Job
job_for places asked = job (grid_with asked.grid.width asked.grid.height (need_of places)) asked.order asked.budget
    asked.svg asked.log

-- ---- what signals answers

-- the text of the signals on the drawing that was found, and nothing without one
abbrev pub signals_behind : List SignalElem → List SignalPlace → Option Drawing → List ℕ
signals_behind signals places None = []
signals_behind signals places (Some d) = signals_text signals places d

-- draw answers with this sheet where the least length is what the signals need, and the text is the sheet and what the
-- signals give behind it
pub record IsSignalled (asked : Job) (met : Met) (traced : Lines → Type 0) (g : Graph) (o : EdgeOrder)
    (signals : List SignalElem) (places : List SignalPlace) (status : Status) (text : List ℕ) : Type 0 where
  pub sheet : List ℕ
  pub answer : IsDrawAnswer (job_for places asked) met traced g o status sheet
  pub spelled : text ≡ sheet ++ signals_behind signals places (found_by answer.drawn.outcome)

-- ---- the file of a station with signals

-- the bytes have this station and these signals, and the answer is one to them
pub record IsSignalAnswer (asked : Job) (met : Met) (traced : Lines → Type 0) (bytes : List ℕ) (status : Status)
    (text : List ℕ) : Type 0 where
  pub graph : Graph
  pub order : EdgeOrder
  pub signals : List SignalElem
  pub places : List SignalPlace
  pub has : HasSignalStation bytes graph order signals places
  pub signalled : IsSignalled asked met traced graph order signals places status text

-- the bytes or their signals have a fault, and this is its line
pub record IsSignalFileRefused (bytes : List ℕ) (status : Status) (text : List ℕ) : Type 0 where
  pub fault : RunFault
  pub has : HasFault bytes fault
  pub answers : IsFaultLine fault status text

-- what signals answers to a file's bytes: the answer to their station and signals, or the line of their
-- fault or of their signals' fault
abbrev pub IsSignalFileJudged : Job → Met → (traced : Lines → Type 0) → List ℕ → Status → List ℕ → Type 0
IsSignalFileJudged asked met traced bytes status text = IsSignalAnswer asked met traced bytes status text
    ⊎ IsSignalFileRefused bytes status text

-- on the drawing that was found the signals of each edge are spread over its line
abbrev pub StandApart : List SignalPlace → Option Drawing → Type 0
StandApart places None = ⊤
StandApart places (Some d) = (i : ℕ) → i < length places →
    AreSpread places (line_under places d i) (edge_at places i) (column_on places (line_under places d i))

-- so it is with each search of the station for what signals asks
abbrev pub StandApartWhereFound : Graph → EdgeOrder → List SignalPlace → Type 0
StandApartWhereFound g o places = (asked : Job) (outcome : Outcome) (lines : Lines) →
    HasEnded g o (job_for places asked) outcome lines → StandApart places (found_by outcome)

-- ---- what signals leaves

-- the file of this name was read, and no other, and it has a station and signals that have places: there is something
-- to search
pub record HasReadSignals (input : List ℕ) (met : Met) : Type 0 where
  pub graph : Graph
  pub order : EdgeOrder
  pub signals : List SignalElem
  pub places : List SignalPlace
  pub read : HasRead met 1
  pub has : IsSignalStationOf input met.before.contents graph order signals places

-- the bytes with which signals may leave the file of this name: there was something to search, and where this file is
-- named for the log they begin the text of some log
abbrev pub IsLeftBySignals : (input : List ℕ) → Job → Met → (name bytes : List ℕ) → Type 0
IsLeftBySignals input asked met name bytes = HasReadSignals input met × (asked.log ≡ Some name) × BeginsLog bytes

-- what signals may tell a log that had no line: nothing, or lines of the search that there was
abbrev pub SignalsMayTell : Job → (input : List ℕ) → Met → Lines → Type 0
SignalsMayTell asked input met lines = (lines ≡ [])
    ⊎ ((found : HasReadSignals input met) × IsLeftOfDraw (job_for found.places asked) found.graph found.order lines)
