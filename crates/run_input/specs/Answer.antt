-- What is answered to an input, to the bytes of a file and to a sheet: the status and the text that goes with it. What
-- a command answers to a station, and which of it a run owes, is said in the crates above.
use Rattle.std.specs.Prelude.{◌≡◌, ℕ, Bool, suc, ◌⊎◌, List}
use Rattle.outside_io.specs.Contents.{IsFileWhereTold}
use Rattle.plan_core.specs.declared.limits.TheConstants.{MAX_FILE_BYTES, MAX_LOG_BYTES}
use Rattle.plan_core.specs.Graph.{Graph}
use Rattle.track_order.specs.Order.{EdgeOrder, is_above}
use Rattle.plan_text.specs.GraphText.{graph_text}
use Rattle.plan_text.specs.declared.sheet_fault.SheetWhat.{SheetWhat}
use Rattle.plan_text.specs.SheetFaults.{HasSheetFault}
use Rattle.run_input.specs.declared.fault.RunFault.{RunFault}
use Rattle.run_input.specs.declared.fault.RunFault.TheVariants.{Long, ReadFailed, Sheet}
use Rattle.run_input.specs.declared.status.Status.{Status}
use Rattle.run_input.specs.declared.status.Status.TheVariants.{Done}
use Rattle.run_input.specs.Fault.{IsFaultLine}
use Rattle.run_input.specs.Input.{IsLong, IsShort, HasStation, HasFileFault, IsStationOf}
use Rattle.run_input.specs.Met.{Met, HasRead, ReadFails}

-- ---- graph

-- the text is that of this station's graph and of the order of its edges
pub record IsPrinted (g : Graph) (o : EdgeOrder) (status : Status) (text : List ℕ) : Type 0 where
  pub status_is : status ≡ Done
  pub spelled : text ≡ graph_text g (is_above o)

-- ---- the file of a station

-- the bytes have a fault, and this is its line
pub record IsFileRefused (bytes : List ℕ) (status : Status) (text : List ℕ) : Type 0 where
  pub fault : RunFault
  pub has : HasFileFault bytes fault
  pub answers : IsFaultLine fault status text

-- the bytes have this station and the answer is one to it, or they have a fault
abbrev pub IsFileJudged : (Graph → EdgeOrder → Status → List ℕ → Type 0) → List ℕ → Status → List ℕ → Type 0
IsFileJudged Answers bytes status text =
    ((g : Graph) × (o : EdgeOrder) × HasStation bytes g o × Answers g o status text) ⊎ IsFileRefused bytes status text

-- ---- a sheet

-- the sheet's text, whether it needs a drawing or not, has this fault first, and this is its line
pub record IsSheetRefused (g : Graph) (needs_drawing : Bool) (sheet : List ℕ) (status : Status) (text : List ℕ) : Type 0
  where
    pub what : SheetWhat
    pub line : ℕ
    pub first : HasSheetFault g needs_drawing sheet what line
    pub answers : IsFaultLine (Sheet what line) status text

-- ---- an input

-- an input of a command: its number, counted from 1, the file's name, and how many bytes it may have
pub record InputFile : Type 0 where
  pub number : ℕ
  pub name : List ℕ
  pub limit : ℕ

-- an input with this number, name and limit
abbrev pub input_file : (number : ℕ) → List ℕ → (limit : ℕ) → InputFile
input_file number name limit = record { number = number; name = name; limit = limit }

-- a railML file, or the text of a drawing
abbrev pub text_input : (number : ℕ) → List ℕ → InputFile
text_input number name = input_file number name MAX_FILE_BYTES

-- the text of a log
abbrev pub log_input : (number : ℕ) → List ℕ → InputFile
log_input number name = input_file number name MAX_LOG_BYTES

-- so many reads were done in all, and the bytes are answered like this
abbrev pub IsAnswerAfter : (done : ℕ) → Met → (List ℕ → Status → List ℕ → Type 0) → List ℕ → Status → List ℕ → Type 0
IsAnswerAfter done met Answers bytes status text = HasRead met done × Answers bytes status text

-- the input, which is read after so many reads, has more bytes than it may have, its line says so and nothing is
-- read after it; or its bytes are answered like this
abbrev pub IsAnswerWithin : InputFile → (done : ℕ) → Met → (List ℕ → Status → List ℕ → Type 0) → List ℕ → Status →
    List ℕ → Type 0
IsAnswerWithin input done met Answers bytes status text =
    (IsLong input.limit bytes × HasRead met (suc done) × IsFaultLine (Long input.number) status text)
    ⊎ (IsShort input.limit bytes × Answers bytes status text)

-- so is the input answered, which is read after so many reads: as the file is that stands under its name, or the
-- read failed
abbrev pub IsAnswerOn : InputFile → (done : ℕ) → Met → (List ℕ → Status → List ℕ → Type 0) → Status → List ℕ → Type 0
IsAnswerOn input done met Answers status text =
    ((bytes : List ℕ) × IsFileWhereTold met.before.contents input.name bytes
    × IsAnswerWithin input done met Answers bytes status text)
    ⊎ (ReadFails met done × IsFaultLine (ReadFailed input.number) status text)

-- so is the one input of a command answered
abbrev pub IsAnswerToFile : (input : List ℕ) → Met → (List ℕ → Status → List ℕ → Type 0) → Status → List ℕ → Type 0
IsAnswerToFile input met Answers status text =
    IsAnswerOn (text_input 1 input) 0 met (IsAnswerAfter 1 met Answers) status text

-- ---- a station that was read

-- the file of this name was read, and no other, and it has this station
abbrev pub IsReadStation : (input : List ℕ) → Met → Graph → EdgeOrder → Type 0
IsReadStation input met g o = HasRead met 1 × IsStationOf input met.before.contents g o

-- such a one: there is something to search
abbrev pub HasReadStation : (input : List ℕ) → Met → Type 0
HasReadStation input met = (g : Graph) × (o : EdgeOrder) × IsReadStation input met g o
