-- What draw answers to a station: the sheet and the status of how its search ended, what the log of the search
-- certifies, and the picture; and with which bytes it may leave a file.
use Rattle.std.specs.Prelude.{◌≡◌, ◌⊎◌, ℕ, false, List, [], ◌++◌, None, Some, length, flat_map}
use Rattle.std.specs.declared.option.Option.{Option}
use Rattle.plan_core.specs.declared.limits.TheConstants.{MAX_FILE_BYTES}
use Rattle.plan_core.specs.declared.criterion.Criterion.{Criterion}
use Rattle.plan_core.specs.Grid.{GridSize}
use Rattle.plan_core.specs.Graph.{Graph}
use Rattle.plan_core.specs.Drawing.{Drawing}
use Rattle.plan_core.specs.declared.criterion.Values.{Values}
use Rattle.plan_core.specs.Values.{limit_of}
use Rattle.cnf_core.specs.declared.limits.TheConstants.{ROOM}
use Rattle.track_order.specs.Order.{EdgeOrder}
use Rattle.plan_write.specs.declared.ending.Ending.{Ending}
use Rattle.plan_write.specs.declared.ending.Ending.TheVariants as endings
use Rattle.plan_text.specs.SheetText.{Sheet, sheet_text}
use Rattle.plan_text.specs.SheetFaults.{IsSheetText}
use Rattle.refute_log.specs.Told.{Lines}
use Rattle.refute_log.specs.FileLog.{BeginsLog}
use Rattle.refute_log.specs.Log.{learnt, Open}
use Rattle.refute_log.specs.Certified.{Settled}
use Rattle.refute_log.specs.Full.{IsFullLog}
use Rattle.search_least.specs.declared.outcome.Outcome.{Outcome}
use Rattle.search_least.specs.declared.outcome.Outcome.TheVariants as outcomes
use Rattle.search_least.specs.Task.{Task}
use Rattle.search_least.specs.Outcome.{IsOutcome, IsLeastLeft, values_found}
use Rattle.drawing_cnf.specs.Layout.{layout, problem_of}
use Rattle.lex_minimise.specs.Task.{task_of}
use Rattle.run_input.specs.declared.status.Status.{Status}
use Rattle.run_input.specs.declared.status.Status.TheVariants as statuses
use Rattle.run_input.specs.Input.{IsShort}
use Rattle.run_input.specs.Met.{Met}
use Rattle.run_input.specs.Answer.{IsReadStation}
use Rattle.run_input.specs.Written.{file_named}
use Rattle.run_input.specs.SearchLog.{HasToldEnd, IsRunLog}
use Rattle.run_draw_front.specs.Pictured.{BeginsPicture, IsPictured}

-- ---- what is asked

-- a drawing's grid, the order in which drawings are compared, with how many learnt clauses the search gives up, and the
-- names of the files for a picture and for a log
pub record Job : Type 0 where
  pub grid : GridSize
  pub order : List Criterion
  pub budget : ℕ
  pub svg : Option (List ℕ)
  pub log : Option (List ℕ)

-- what is asked, of these parts
abbrev pub job : GridSize → List Criterion → (budget : ℕ) → (svg log : Option (List ℕ)) → Job
job grid order budget svg log = record { grid = grid; order = order; budget = budget; svg = svg; log = log }

-- the same without files
abbrev pub search_job : GridSize → List Criterion → (budget : ℕ) → Job
search_job grid order budget = job grid order budget None None

-- what is searched: the lawful drawings of the station on that grid, within that budget and ROOM words
abbrev pub search_of : Graph → EdgeOrder → Job → Task
search_of g o asked = task_of (layout g o asked.grid) asked.budget ROOM

-- ---- how a search ends

-- the sheet with the grid and the order that are asked for, the drawing that was found, if one was, and
-- this ending
abbrev pub sheet_with : Job → Option Drawing → Ending → Sheet
sheet_with asked found ending = record { grid = asked.grid; order = asked.order; found = found; ending = ending }

-- the sheet of each outcome
abbrev pub sheet_of : Job → Outcome → Sheet
sheet_of asked (outcomes.Best d) = sheet_with asked (Some d) endings.Best
sheet_of asked outcomes.NoDrawing = sheet_with asked None endings.NoDrawing
sheet_of asked (outcomes.Spent found settled) = sheet_with asked found (endings.Conflicts settled)
sheet_of asked (outcomes.Room found settled) = sheet_with asked found (endings.Room settled)

-- the drawing that was found
abbrev pub found_by : Outcome → Option Drawing
found_by (outcomes.Best d) = Some d
found_by outcomes.NoDrawing = None
found_by (outcomes.Spent found settled) = found
found_by (outcomes.Room found settled) = found

-- the status of each outcome
abbrev pub status_of : Outcome → Status
status_of (outcomes.Best d) = statuses.Done
status_of outcomes.NoDrawing = statuses.NoDrawing
status_of (outcomes.Spent found settled) = statuses.Unfinished
status_of (outcomes.Room found settled) = statuses.Unfinished

-- a search for what is asked has this outcome, and these are its lines
abbrev pub HasEnded : Graph → EdgeOrder → Job → Outcome → Lines → Type 0
HasEnded g o asked outcome lines = IsOutcome (search_of g o asked) asked.order outcome lines

-- the lines certify so many values of what was found, from the first of the order, the most below the order's length;
-- 0 where nothing was found
abbrev pub HasSettled : Graph → Job → Lines → Option Drawing → ℕ → Type 0
HasSettled g asked lines found settled =
    Settled (limit_of g asked.grid) lines asked.order (values_found found) settled

-- the lines have as many learnt clauses as the search may learn, and the latest query is open
abbrev pub HasSpentAll : Job → Lines → Type 0
HasSpentAll asked lines = (length (flat_map learnt lines) ≡ asked.budget) × Open lines

-- the log of these lines, in which a drawing of these values was found, is full
abbrev pub HasFilledRoom : Graph → EdgeOrder → Job → Lines → Option Values → Type 0
HasFilledRoom g o asked lines found =
    IsFullLog (problem_of (layout g o asked.grid)) (limit_of g asked.grid) asked.order lines found ROOM

-- ---- what draw answers

-- a search with this outcome told these lines: they certify of the drawing, and of all that are lawful, what the
-- outcome says
abbrev pub HasSearched : Graph → EdgeOrder → Job → (IsTold : Lines → Type 0) → Outcome → Type 0
HasSearched g o asked IsTold outcome = HasToldEnd (HasEnded g o asked outcome) IsTold

-- a search was done, and the text is the sheet of its outcome, which is read as that very sheet and isn't too long for
-- it
pub record IsDrawn (g : Graph) (o : EdgeOrder) (asked : Job) (IsTold : Lines → Type 0) (status : Status) (text : List ℕ)
    : Type 0 where
  pub outcome : Outcome
  pub searched : HasSearched g o asked IsTold outcome
  pub read : IsSheetText g false (sheet_text g (sheet_of asked outcome)) (sheet_of asked outcome)
  pub short : IsShort MAX_FILE_BYTES (sheet_text g (sheet_of asked outcome))
  pub status_is : status ≡ status_of outcome
  pub spelled : text ≡ sheet_text g (sheet_of asked outcome)

-- what draw answers to a station, with what the run met and what the trace was told: it was drawn, with the lines of
-- the search where the words say, and the picture of its drawing where they name a file for it
pub record IsDrawAnswer (asked : Job) (met : Met) (traced : Lines → Type 0) (g : Graph) (o : EdgeOrder)
    (status : Status) (text : List ℕ) : Type 0 where
  pub drawn : IsDrawn g o asked (IsRunLog asked.log met traced) status text
  pub pictured : IsPictured asked.svg met g (found_by drawn.outcome)

-- ---- what draw leaves, also where it doesn't answer

-- a search of the station ended with a drawing, it told its lines so, and the bytes begin the picture of that drawing
pub record HasBegunPicture (g : Graph) (o : EdgeOrder) (asked : Job) (IsTold : Lines → Type 0) (bytes : List ℕ) : Type 0
  where
    pub outcome : Outcome
    pub searched : HasSearched g o asked IsTold outcome
    pub begins : BeginsPicture g (found_by outcome) bytes

-- the bytes with which draw may leave the file of this name: where it is named for the log they begin the text of some
-- log, and where for the picture they are such
abbrev pub DrawMayLeave : Job → (IsPicture : List ℕ → Type 0) → (name bytes : List ℕ) → Type 0
DrawMayLeave asked IsPicture name bytes = ((asked.log ≡ Some name) × BeginsLog bytes)
    ⊎ ((asked.svg ≡ Some name) × IsPicture bytes)

-- the names of the files that are asked for, the log's before the picture's
abbrev pub files_asked : Job → List (List ℕ)
files_asked asked = file_named asked.log ++ file_named asked.svg

-- the bytes with which draw may leave the file of this name: the file of its input was read and has a station; and
-- where this one is named for the log they begin the text of some log, where for the picture that of the drawing with
-- which a search of that station ended, whose lines were told where the words say
abbrev pub IsLeftByDraw : (input : List ℕ) → Job → Met → (traced : Lines → Type 0) → (name bytes : List ℕ) → Type 0
IsLeftByDraw input asked met traced name bytes =
    (g : Graph) × (o : EdgeOrder) × IsReadStation input met g o
    × DrawMayLeave asked (HasBegunPicture g o asked (IsRunLog asked.log met traced)) name bytes

-- ---- what the trace is told, also where there is no answer

-- lines of a search for what is asked, whether it ended or was cut short: they derive, the clauses that they give are
-- the first of those that are expected with some caps, and no more were learnt than the budget allows
abbrev pub IsLeftOfDraw : Job → Graph → EdgeOrder → Lines → Type 0
IsLeftOfDraw asked g o lines = IsLeastLeft (search_of g o asked) asked.order lines

-- what a run may tell a log that had no line: nothing, or lines of a search for the station that was read
abbrev pub DrawMayTell : Job → (input : List ℕ) → Met → Lines → Type 0
DrawMayTell asked input met lines =
    (lines ≡ []) ⊎ ((g : Graph) × (o : EdgeOrder) × IsReadStation input met g o × IsLeftOfDraw asked g o lines)
