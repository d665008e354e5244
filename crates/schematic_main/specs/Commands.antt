-- What differs by command, a row for each: what it reads and writes, what it may leave, what it owes, how it may end,
-- and when its inputs are sound.
use Rattle.std.specs.Prelude.{◌≡◌, ◌≢◌, ◌⊎◌, ℕ, ⊤, Bool, false, true, List, [], ◌∷◌, ◌++◌, Some, None}
use Rattle.std.specs.declared.option.Option.{Option}
use Rattle.outside_io.specs.Contents.{Told, TellsAt}
use Rattle.plan_core.specs.declared.limits.TheConstants.{MAX_FILE_BYTES, MAX_LOG_BYTES}
use Rattle.plan_core.specs.Graph.{Graph}
use Rattle.plan_words.specs.declared.command.Command.{Command}
use Rattle.plan_words.specs.declared.command.Command.TheVariants.{Draw, Verify, Check, Graph as PrintGraph, Make}
use Rattle.plan_words.specs.declared.command.Command.TheVariants.{Trial, Signals, Front, Redraw, Explain, Trim}
use Rattle.plan_words.specs.declared.command.Command.TheVariants.{Recheck}
use Rattle.plan_text.specs.SheetText.{Sheet}
use Rattle.plan_text.specs.SheetFaults.{IsSheetText}
use Rattle.track_order.specs.Order.{EdgeOrder}
use Rattle.refute_log.specs.Lines.{log_text, MayAllBeTold}
use Rattle.refute_log.specs.Told.{Lines}
use Rattle.drawing_cnf.specs.Layout.{layout}
use Rattle.hint_log.specs.declared.text_fault.HintsWhat.{HintsWhat}
use Rattle.log_check.specs.declared.hint_verdict.HintsVerdict.TheVariants.{Faulty}
use Rattle.log_check.specs.HintsJudged.{IsHintsJudged}
use Rattle.station_make.specs.StationText.{station_text}
use Rattle.run_input.specs.declared.fault.RunFault.{RunFault}
use Rattle.run_input.specs.declared.status.Status.{Status}
use Rattle.run_input.specs.declared.status.Status.TheVariants.{Done, NoDrawing, Unfinished, Broken}
use Rattle.run_input.specs.Status.{IsRefused}
use Rattle.run_input.specs.Input.{IsShort, HasStation, HasSomeStation, HasFileFault}
use Rattle.run_input.specs.Signals.{HasFault}
use Rattle.run_check.specs.Verdict.{IsSoundSheet}
use Rattle.run_input.specs.Met.{Met}
use Rattle.run_input.specs.Answer.{InputFile, text_input, log_input, IsPrinted, IsFileJudged, IsAnswerAfter}
use Rattle.run_input.specs.Answer.{IsAnswerOn, IsAnswerToFile, HasReadStation}
use Rattle.run_check.specs.Verdict.{IsVerified}
use Rattle.run_input.specs.Written.{file_named}
use Rattle.run_draw_front.specs.Drawn.{job, IsDrawAnswer, IsLeftByDraw, DrawMayTell}
use Rattle.run_draw_front.specs.Signalled.{IsSignalFileJudged, HasReadSignals, IsLeftBySignals, SignalsMayTell}
use Rattle.run_draw_front.specs.Tried.{IsMade, IsTried, TrialMayTell}
use Rattle.run_draw_front.specs.Fronted.{front_job, IsFrontAnswer, FrontMayLeave}
use Rattle.run_explain_redraw.specs.Redrawn.{redraw_job}
use Rattle.run_explain_redraw.specs.Answer.{IsRedrawAnswer, HasReadFormer, IsLeftByRedraw, RedrawMayTell}
use Rattle.run_explain_redraw.specs.Explained.{explain_job, IsExplainAnswer, ExplainMayLeave}
use Rattle.run_check.specs.CheckLine.{claim_of}
use Rattle.run_check.specs.Checked.{IsCheckAnswer}
use Rattle.run_check.specs.Trimmed.{IsTrimAnswer, HasReadCertified, IsLeftByTrim}
use Rattle.run_check.specs.Rechecked.{IsRecheckAnswer}

-- ---- what is asked

-- the two criteria of a front differ
abbrev pub HasApartPair : Command → Type 0
HasApartPair (Draw input grid order budget svg log) = ⊤
HasApartPair (PrintGraph input) = ⊤
HasApartPair (Verify input sheet) = ⊤
HasApartPair (Check input sheet log) = ⊤
HasApartPair (Make n) = ⊤
HasApartPair (Trial n) = ⊤
HasApartPair (Signals input grid order budget log) = ⊤
HasApartPair (Front input first second grid budget) = first ≢ second
HasApartPair (Redraw input former sheet grid budget log) = ⊤
HasApartPair (Explain input grid budget) = ⊤
HasApartPair (Trim input sheet log hints) = ⊤
HasApartPair (Recheck input sheet hints) = ⊤

-- ---- what it reads and writes

-- the inputs that a command reads, in this order
abbrev pub inputs_of : Command → List InputFile
inputs_of (Draw input grid order budget svg log) = text_input 1 input ∷ []
inputs_of (PrintGraph input) = text_input 1 input ∷ []
inputs_of (Verify input sheet) = text_input 1 input ∷ text_input 2 sheet ∷ []
inputs_of (Check input sheet log) = text_input 1 input ∷ text_input 2 sheet ∷ log_input 3 log ∷ []
inputs_of (Make n) = []
inputs_of (Trial n) = []
inputs_of (Signals input grid order budget log) = text_input 1 input ∷ []
inputs_of (Front input first second grid budget) = text_input 1 input ∷ []
inputs_of (Redraw input former sheet grid budget log) =
    text_input 1 input ∷ text_input 2 former ∷ text_input 3 sheet ∷ []
inputs_of (Explain input grid budget) = text_input 1 input ∷ []
inputs_of (Trim input sheet log hints) = text_input 1 input ∷ text_input 2 sheet ∷ log_input 3 log ∷ []
inputs_of (Recheck input sheet hints) = text_input 1 input ∷ text_input 2 sheet ∷ log_input 3 hints ∷ []

-- the names of the files that a command writes, in this order
abbrev pub outputs_of : Command → List (List ℕ)
outputs_of (Draw input grid order budget svg log) = file_named log ++ file_named svg
outputs_of (PrintGraph input) = []
outputs_of (Verify input sheet) = []
outputs_of (Check input sheet log) = []
outputs_of (Make n) = []
outputs_of (Trial n) = []
outputs_of (Signals input grid order budget log) = file_named log
outputs_of (Front input first second grid budget) = []
outputs_of (Redraw input former sheet grid budget log) = file_named log
outputs_of (Explain input grid budget) = []
outputs_of (Trim input sheet log hints) = hints ∷ []
outputs_of (Recheck input sheet hints) = []

-- a command tells the lines of a search to the trace: draw, signals and redraw, where no file is named for them, trial,
-- front and explain
abbrev pub TellsTrace : Command → Type 0
TellsTrace (Draw input grid order budget svg log) = log ≡ None
TellsTrace (PrintGraph input) = ⊥
TellsTrace (Verify input sheet) = ⊥
TellsTrace (Check input sheet log) = ⊥
TellsTrace (Make n) = ⊥
TellsTrace (Trial n) = ⊤
TellsTrace (Signals input grid order budget log) = log ≡ None
TellsTrace (Front input first second grid budget) = ⊤
TellsTrace (Redraw input former sheet grid budget log) = log ≡ None
TellsTrace (Explain input grid budget) = ⊤
TellsTrace (Trim input sheet log hints) = ⊥
TellsTrace (Recheck input sheet hints) = ⊥

-- a command has something to search: draw, front and explain where it read its file and that has a station, trial where
-- its made file has one, signals where the file that it read has a station and signals without a fault, and redraw
-- where the three files that it read have a station and former points; trim has something to trim where the log that it
-- read certifies what the sheet claims
abbrev pub MaySearch : Command → Met → Type 0
MaySearch (Draw input grid order budget svg log) met = HasReadStation input met
MaySearch (PrintGraph input) met = ⊥
MaySearch (Verify input sheet) met = ⊥
MaySearch (Check input sheet log) met = ⊥
MaySearch (Make n) met = ⊥
MaySearch (Trial n) met = HasSomeStation (station_text n)
MaySearch (Signals input grid order budget log) met = HasReadSignals input met
MaySearch (Front input first second grid budget) met = HasReadStation input met
MaySearch (Redraw input former sheet grid budget log) met = HasReadFormer input former sheet met
MaySearch (Explain input grid budget) met = HasReadStation input met
MaySearch (Trim input sheet log hints) met = HasReadCertified input sheet log met
MaySearch (Recheck input sheet hints) met = ⊥

-- it may write a file, with what the run met
abbrev pub MayWrite : Command → Met → Type 0
MayWrite command met = (outputs_of command ≢ []) × MaySearch command met

-- it may tell the trace, with what the run met
abbrev pub MayTell : Command → Met → Type 0
MayTell command met = TellsTrace command × MaySearch command met

-- with these statuses it answers and writes no file: where it is refused, and trim where it ends with 4 or 8
abbrev pub AnswersAlone : Command → Status → Type 0
AnswersAlone (Draw input grid order budget svg log) status = IsRefused status
AnswersAlone (PrintGraph input) status = IsRefused status
AnswersAlone (Verify input sheet) status = IsRefused status
AnswersAlone (Check input sheet log) status = IsRefused status
AnswersAlone (Make n) status = IsRefused status
AnswersAlone (Trial n) status = IsRefused status
AnswersAlone (Signals input grid order budget log) status = IsRefused status
AnswersAlone (Front input first second grid budget) status = IsRefused status
AnswersAlone (Redraw input former sheet grid budget log) status = IsRefused status
AnswersAlone (Explain input grid budget) status = IsRefused status
AnswersAlone (Trim input sheet log hints) status = IsRefused status ⊎ (status ≡ Unfinished) ⊎ (status ≡ Broken)
AnswersAlone (Recheck input sheet hints) status = IsRefused status

-- ---- what it leaves

-- with every status that isn't a refusal, the bytes with which a command may leave the file of a name
abbrev pub MayLeave : Command → Met → (traced : Lines → Type 0) → (name bytes : List ℕ) → Type 0
MayLeave (Draw input grid order budget svg log) met traced name bytes =
    IsLeftByDraw input (job grid order budget svg log) met traced name bytes
MayLeave (PrintGraph input) met traced name bytes = ⊥
MayLeave (Verify input sheet) met traced name bytes = ⊥
MayLeave (Check input sheet log) met traced name bytes = ⊥
MayLeave (Make n) met traced name bytes = ⊥
MayLeave (Trial n) met traced name bytes = ⊥
MayLeave (Signals input grid order budget log) met traced name bytes =
    IsLeftBySignals input (job grid order budget None log) met name bytes
MayLeave (Front input first second grid budget) met traced name bytes = ⊥
MayLeave (Redraw input former sheet grid budget log) met traced name bytes =
    IsLeftByRedraw input former sheet (redraw_job grid budget log) met name bytes
MayLeave (Explain input grid budget) met traced name bytes = ⊥
MayLeave (Trim input sheet log hints) met traced name bytes = IsLeftByTrim input sheet log hints met name bytes
MayLeave (Recheck input sheet hints) met traced name bytes = ⊥

-- with every status, what a trace that had no line may hold: none, or lines of the search that there was, the clauses
-- that these give are the first of those that are expected, and no more were learnt than the budget allows; a command
-- that tells it nothing leaves none
abbrev pub TraceMayHold : Command → Met → Lines → Type 0
TraceMayHold (Draw input grid order budget svg log) met lines =
    DrawMayTell (job grid order budget svg log) input met lines
TraceMayHold (PrintGraph input) met lines = lines ≡ []
TraceMayHold (Verify input sheet) met lines = lines ≡ []
TraceMayHold (Check input sheet log) met lines = lines ≡ []
TraceMayHold (Make n) met lines = lines ≡ []
TraceMayHold (Trial n) met lines = TrialMayTell n lines
TraceMayHold (Signals input grid order budget log) met lines =
    SignalsMayTell (job grid order budget None log) input met lines
TraceMayHold (Front input first second grid budget) met lines =
    FrontMayLeave (front_job grid first second budget) input met lines
TraceMayHold (Redraw input former sheet grid budget log) met lines =
    RedrawMayTell input former sheet (redraw_job grid budget log) met lines
TraceMayHold (Explain input grid budget) met lines = ExplainMayLeave (explain_job grid budget) input met lines
TraceMayHold (Trim input sheet log hints) met lines = lines ≡ []
TraceMayHold (Recheck input sheet hints) met lines = lines ≡ []

-- ---- what it owes

-- with what the run met and what the trace was told, the status that a command ends with and the text that it puts.
-- verify reads the file, and then the sheet, before it judges what they say, check and trim so the log too, recheck the
-- hinted lines, and redraw the former file between them; draw, signals, front, explain and graph read the file alone;
-- make and trial read nothing, and trial judges a made file as draw does one that is read
abbrev pub Owes : Command → Met → (traced : Lines → Type 0) → Status → List ℕ → Type 0
Owes (Draw input grid order budget svg log) met traced status text =
    IsAnswerToFile input met (IsFileJudged (IsDrawAnswer (job grid order budget svg log) met traced)) status text
Owes (PrintGraph input) met traced status text = IsAnswerToFile input met (IsFileJudged IsPrinted) status text
Owes (Verify input sheet) met traced status text =
    IsAnswerOn (text_input 1 input) 0 met (λ bytes. IsAnswerOn (text_input 2 sheet) 1 met
    (IsAnswerAfter 2 met (IsVerified bytes))) status text
Owes (Check input sheet log) met traced status text = IsCheckAnswer input sheet log met status text
Owes (Make n) met traced status text = IsMade n status text
Owes (Trial n) met traced status text = IsFileJudged (IsTried n traced) (station_text n) status text
Owes (Signals input grid order budget log) met traced status text =
    IsAnswerToFile input met (IsSignalFileJudged (job grid order budget None log) met traced) status text
Owes (Front input first second grid budget) met traced status text =
    IsAnswerToFile input met (IsFileJudged (IsFrontAnswer (front_job grid first second budget) traced)) status text
Owes (Redraw input former sheet grid budget log) met traced status text =
    IsRedrawAnswer input former sheet (redraw_job grid budget log) met traced status text
Owes (Explain input grid budget) met traced status text =
    IsAnswerToFile input met (IsFileJudged (IsExplainAnswer (explain_job grid budget) traced)) status text
Owes (Trim input sheet log hints) met traced status text = IsTrimAnswer input sheet log hints met status text
Owes (Recheck input sheet hints) met traced status text = IsRecheckAnswer input sheet hints met status text

-- ---- how it ends

-- how a command ends where nothing is wrong with its inputs
abbrev pub ends_of : Command → Status → Type 0
ends_of (Draw input grid order budget svg log) status = (status ≡ Done) ⊎ (status ≡ NoDrawing) ⊎ (status ≡ Unfinished)
ends_of (PrintGraph input) status = status ≡ Done
ends_of (Verify input sheet) status = (status ≡ Done) ⊎ (status ≡ Broken)
ends_of (Check input sheet log) status = (status ≡ Done) ⊎ (status ≡ Unfinished) ⊎ (status ≡ Broken)
ends_of (Make n) status = status ≡ Done
ends_of (Trial n) status = (status ≡ Done) ⊎ (status ≡ NoDrawing) ⊎ (status ≡ Unfinished)
ends_of (Signals input grid order budget log) status = (status ≡ Done) ⊎ (status ≡ NoDrawing) ⊎ (status ≡ Unfinished)
ends_of (Front input first second grid budget) status = (status ≡ Done) ⊎ (status ≡ NoDrawing) ⊎ (status ≡ Unfinished)
ends_of (Redraw input former sheet grid budget log) status =
    (status ≡ Done) ⊎ (status ≡ NoDrawing) ⊎ (status ≡ Unfinished)
ends_of (Explain input grid budget) status = (status ≡ Done) ⊎ (status ≡ Unfinished)
ends_of (Trim input sheet log hints) status = (status ≡ Done) ⊎ (status ≡ Unfinished) ⊎ (status ≡ Broken)
ends_of (Recheck input sheet hints) status = (status ≡ Done) ⊎ (status ≡ Unfinished) ⊎ (status ≡ Broken)

-- the file of this name is told, and its bytes have none of the faults
pub record HasSoundFile (name : List ℕ) (contents : Option Told) : Type 0 where
  pub bytes : List ℕ
  pub there : TellsAt contents name (Some bytes)
  pub sound : (fault : RunFault) → HasFileFault bytes fault → ⊥

-- and neither its bytes nor their signals have one
pub record HasSoundSignals (name : List ℕ) (contents : Option Told) : Type 0 where
  pub bytes : List ℕ
  pub there : TellsAt contents name (Some bytes)
  pub sound : (fault : RunFault) → HasFault bytes fault → ⊥

-- the sheet of this name is told, isn't too long, and has no fault as one of such a graph, a drawing being due or not
pub record HasSoundSheet (name : List ℕ) (contents : Option Told) (needs_drawing : Bool) (IsGraph : Graph → Type 0) :
    Type 0 where
  pub bytes : List ℕ
  pub there : TellsAt contents name (Some bytes)
  pub short : IsShort MAX_FILE_BYTES bytes
  pub sound : (g : Graph) → IsGraph g → IsSoundSheet g needs_drawing bytes

-- the log of this name is told, isn't too long, and is the text of some lines
pub record HasSoundLog (name : List ℕ) (contents : Option Told) : Type 0 where
  pub lines : Lines
  pub formed : MayAllBeTold lines
  pub there : TellsAt contents name (Some (log_text lines))
  pub short : IsShort MAX_LOG_BYTES (log_text lines)

-- the hinted lines of this name are told, aren't too long, and of such a file and sheet no fault of them decides
pub record HasSoundHints (name : List ℕ) (contents : Option Told) (file sheet : List ℕ) : Type 0 where
  pub bytes : List ℕ
  pub there : TellsAt contents name (Some bytes)
  pub short : IsShort MAX_LOG_BYTES bytes
  pub sound : (g : Graph) (o : EdgeOrder) (said : Sheet) → HasStation file g o → IsSheetText g false sheet said →
      (what : HintsWhat) (line : ℕ) → IsHintsJudged (layout g o said.grid) said.order
      (claim_of said.order said.found said.ending) bytes (Faulty what line) → ⊥

-- the bytes have a station with this graph
abbrev pub HasStationGraph : List ℕ → Graph → Type 0
HasStationGraph bytes g = (o : EdgeOrder) × HasStation bytes g o

-- nothing is wrong with the inputs of a command, nor with the file that a trial makes
abbrev pub AreSound : Command → Option Told → Type 0
AreSound (Draw input grid order budget svg log) contents = HasSoundFile input contents
AreSound (PrintGraph input) contents = HasSoundFile input contents
AreSound (Verify input sheet) contents =
    (file : HasSoundFile input contents) × HasSoundSheet sheet contents true (HasStationGraph file.bytes)
AreSound (Check input sheet log) contents =
    (file : HasSoundFile input contents) × HasSoundSheet sheet contents false (HasStationGraph file.bytes)
    × HasSoundLog log contents
AreSound (Make n) contents = ⊤
AreSound (Trial n) contents = (fault : RunFault) → HasFileFault (station_text n) fault → ⊥
AreSound (Signals input grid order budget log) contents = HasSoundSignals input contents
AreSound (Front input first second grid budget) contents = HasSoundFile input contents
AreSound (Redraw input former sheet grid budget log) contents =
    HasSoundFile input contents × (old : HasSoundFile former contents)
    × HasSoundSheet sheet contents true (HasStationGraph old.bytes)
AreSound (Explain input grid budget) contents = HasSoundFile input contents
AreSound (Trim input sheet log hints) contents =
    (file : HasSoundFile input contents) × HasSoundSheet sheet contents false (HasStationGraph file.bytes)
    × HasSoundLog log contents
AreSound (Recheck input sheet hints) contents =
    (file : HasSoundFile input contents) × (said : HasSoundSheet sheet contents false (HasStationGraph file.bytes))
    × HasSoundHints hints contents file.bytes said.bytes
