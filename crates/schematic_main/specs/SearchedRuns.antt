-- Whole runs of draw, signals, front, redraw and explain, none of whose reads failed, on files whose contents are told
-- and that have no fault, and of trial; and how such a run ends. What a trace was told plays no part.
use Rattle.std.specs.Prelude.{◌≡◌, ◌≢◌, ◌↔◌, ℕ, List, None, codes}
use Rattle.std.specs.declared.option.Option.{Option}
use Rattle.plan_core.specs.declared.criterion.Criterion.{Criterion}
use Rattle.plan_core.specs.Grid.{GridSize}
use Rattle.plan_core.specs.Graph.{Graph}
use Rattle.track_order.specs.Order.{EdgeOrder}
use Rattle.railml_read.specs.declared.rows.SignalElem.{SignalElem}
use Rattle.plan_objects.specs.declared.places.SignalPlace.{SignalPlace}
use Rattle.plan_words.specs.declared.command.Command.TheVariants.{Draw, Trial, Signals, Front, Redraw, Explain}
use Rattle.drawing_cnf.specs.Moved.{Former}
use Rattle.station_make.specs.StationText.{station_text}
use Rattle.run_input.specs.declared.status.Status.{Status}
use Rattle.run_input.specs.declared.status.Status.TheVariants.{Done, NoDrawing, Unfinished}
use Rattle.run_input.specs.Input.{HasStation, IsStationOf}
use Rattle.run_input.specs.Signals.{IsSignalStationOf}
use Rattle.run_input.specs.Met.{Met}
use Rattle.run_explain_redraw.specs.Answer.{HaveFormerIn}
use Rattle.schematic_main.specs.So.{NoneLawful, SomeLawful}
use Rattle.schematic_main.specs.WholeRuns.{IsWholeRun}

-- ---- how it ends

-- but where the search stopped before its end, the status is 0 exactly where some drawing on this grid is lawful, and 3
-- exactly where none is
abbrev pub EndsExactly : Graph → EdgeOrder → GridSize → Status → Type 0
EndsExactly g o grid status = status ≢ Unfinished →
    ((status ≡ Done) ↔ SomeLawful g o grid) × ((status ≡ NoDrawing) ↔ NoneLawful g o grid)

-- but where it stopped, the status is 0, and the text says that a drawing exists exactly where one is lawful
abbrev pub SaysExactly : Graph → EdgeOrder → GridSize → Status → List ℕ → Type 0
SaysExactly g o grid status text = status ≢ Unfinished →
    (status ≡ Done) × ((text ≡ codes "drawing exists\n") ↔ SomeLawful g o grid)

-- ---- which run it is

-- a run of draw on this grid, whose file has this station
pub record IsDrawRun (g : Graph) (o : EdgeOrder) (grid : GridSize) (status : Status) : Type 0 where
  pub input : List ℕ
  pub order : List Criterion
  pub budget : ℕ
  pub svg : Option (List ℕ)
  pub log : Option (List ℕ)
  pub met : Met
  pub text : List ℕ
  pub told : met.before.contents ≢ None
  pub station : IsStationOf input met.before.contents g o
  pub run : IsWholeRun (Draw input grid order budget svg log) met status text

-- a run of trial, whose made file has this station
pub record IsTrialRun (g : Graph) (o : EdgeOrder) (status : Status) : Type 0 where
  pub number : ℕ
  pub met : Met
  pub text : List ℕ
  pub station : HasStation (station_text number) g o
  pub run : IsWholeRun (Trial number) met status text

-- a run of signals, where this grid is asked for, whose file has this station and signals with these places
pub record IsSignalsRun (g : Graph) (o : EdgeOrder) (places : List SignalPlace) (grid : GridSize) (status : Status) :
    Type 0 where
  pub input : List ℕ
  pub order : List Criterion
  pub budget : ℕ
  pub log : Option (List ℕ)
  pub met : Met
  pub text : List ℕ
  pub signals : List SignalElem
  pub told : met.before.contents ≢ None
  pub file : IsSignalStationOf input met.before.contents g o signals places
  pub run : IsWholeRun (Signals input grid order budget log) met status text

-- a run of front on this grid, whose file has this station
pub record IsFrontRun (g : Graph) (o : EdgeOrder) (grid : GridSize) (status : Status) : Type 0 where
  pub input : List ℕ
  pub first : Criterion
  pub second : Criterion
  pub budget : ℕ
  pub met : Met
  pub text : List ℕ
  pub told : met.before.contents ≢ None
  pub station : IsStationOf input met.before.contents g o
  pub run : IsWholeRun (Front input first second grid budget) met status text

-- a run of redraw on this grid, whose three files have this station and former points
pub record IsRedrawRun (g : Graph) (o : EdgeOrder) (grid : GridSize) (status : Status) : Type 0 where
  pub input : List ℕ
  pub former : List ℕ
  pub sheet : List ℕ
  pub budget : ℕ
  pub log : Option (List ℕ)
  pub met : Met
  pub text : List ℕ
  pub points : Former
  pub told : met.before.contents ≢ None
  pub have : HaveFormerIn input former sheet met.before.contents g o points
  pub run : IsWholeRun (Redraw input former sheet grid budget log) met status text

-- a run of explain on this grid, whose file has this station, with its text
pub record IsExplainRun (g : Graph) (o : EdgeOrder) (grid : GridSize) (status : Status) (text : List ℕ) : Type 0 where
  pub input : List ℕ
  pub budget : ℕ
  pub met : Met
  pub told : met.before.contents ≢ None
  pub station : IsStationOf input met.before.contents g o
  pub run : IsWholeRun (Explain input grid budget) met status text
