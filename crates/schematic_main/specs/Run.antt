-- What a run owes, by its words: what their command owes, or the line of their fault.
use Rattle.std.specs.Prelude.{◌≡◌, ℕ, ◌<◌, ◌⊎◌, List, [], length, Some}
use Rattle.std.specs.declared.option.Option.{Option}
use Rattle.std.specs.Io.KnownBytes.{Appends, Keeps}
use Rattle.outside_io.specs.Contents.{Told}
use Rattle.outside_io.specs.Given.{AppendsPrefix}
use Rattle.plan_core.specs.declared.limits.TheConstants.{MAX_LOG_BYTES}
use Rattle.plan_words.specs.declared.command.Command.{Command}
use Rattle.plan_words.specs.declared.fault.WordWhat.{WordWhat}
use Rattle.plan_words.specs.WordFaults.{IsFaultOfWords}
use Rattle.plan_words.specs.Words.{IsCommandOf}
use Rattle.refute_log.specs.Told.{Lines}
use Rattle.run_input.specs.declared.fault.RunFault.TheVariants.{Words}
use Rattle.run_input.specs.declared.status.Status.{Status}
use Rattle.run_input.specs.declared.status.Status.TheVariants.{NoMemory}
use Rattle.run_input.specs.Status.{IsRefused}
use Rattle.run_input.specs.Fault.{IsFaultLine}
use Rattle.run_input.specs.Input.{IsShort}
use Rattle.run_input.specs.Met.{Met, ReadFails}
use Rattle.run_input.specs.Written.{FailsToWrite}
use Rattle.schematic_main.specs.Commands.{inputs_of, outputs_of, TellsTrace, MayWrite, MayTell, MayLeave, Owes}
use Rattle.schematic_main.specs.Commands.{AnswersAlone, AreSound, ends_of, TraceMayHold}

-- the words ask for a command of which this holds
abbrev pub Asks : List (List ℕ) → (Command → Type 0) → Type 0
Asks words P = (command : Command) × IsCommandOf words command × P command

-- where the words ask for a command, this holds of it
abbrev pub WhereAsked : List (List ℕ) → (Command → Type 0) → Type 0
WhereAsked words P = (command : Command) → IsCommandOf words command → P command

-- the words have a fault, and this is its line
pub record IsWordsAnswer (words : List (List ℕ)) (status : Status) (text : List ℕ) : Type 0 where
  pub what : WordWhat
  pub position : ℕ
  pub fault : IsFaultOfWords words what position
  pub answers : IsFaultLine (Words what position) status text

-- this is due where the words ask for it, the run met this, and the trace was told this
abbrev pub IsAnswerDue : List (List ℕ) → Met → (traced : Lines → Type 0) → Status → List ℕ → Type 0
IsAnswerDue words met traced status text = Asks words (λ command. Owes command met traced status text)
    ⊎ IsWordsAnswer words status text

-- this is a text that the run may answer, with some status
abbrev pub IsSomeAnswerDue : List (List ℕ) → Met → (traced : Lines → Type 0) → List ℕ → Type 0
IsSomeAnswerDue words met traced text = (status : Status) × IsAnswerDue words met traced status text

-- a whole text with this property was given
abbrev pub GivenAll : Option (List ℕ) → Option (List ℕ) → (List ℕ → Type 0) → Type 0
GivenAll old new P = (text : List ℕ) × P text × Appends old new text

-- nothing was given, or a prefix of a text with this property
abbrev pub GivenPrefix : Option (List ℕ) → Option (List ℕ) → (List ℕ → Type 0) → Type 0
GivenPrefix old new P = Keeps old new ⊎ ((text : List ℕ) × P text × AppendsPrefix old new text)

-- ---- what it read

-- the words ask for no command that reads a file
abbrev pub ReadsNothing : List (List ℕ) → Type 0
ReadsNothing words = WhereAsked words (λ command. inputs_of command ≡ [])

-- one of the command's inputs couldn't be read, after those before it were
abbrev pub FailsIn : Command → Met → Type 0
FailsIn command met = (done : ℕ) × (done < length (inputs_of command)) × ReadFails met done

-- ---- what it wrote

-- the words ask for no command that may write a file, with what the run met
abbrev pub WritesNothing : List (List ℕ) → Met → Type 0
WritesNothing words met = WhereAsked words (λ command. MayWrite command met → ⊥)

-- a run that ends with this status has written no file: it is refused, or it is one with which the command that the
-- words ask for answers alone
abbrev pub EndsUnwritten : List (List ℕ) → Status → Type 0
EndsUnwritten words status = IsRefused status ⊎ Asks words (λ command. AnswersAlone command status)

-- the bytes with which a run may leave the file of a name: so may the command that the words ask for, and the run isn't
-- refused
abbrev pub RunMayLeave : List (List ℕ) → (Refused : Type 0) → Met → (traced : Lines → Type 0) → (name bytes : List ℕ) →
    Type 0
RunMayLeave words Refused met traced name bytes = (Refused → ⊥)
    × Asks words (λ command. MayLeave command met traced name bytes)

-- the command couldn't write what it was to write
abbrev pub CommandFailsToWrite : Command → Met → (trace_rose : Type 0) → Type 0
CommandFailsToWrite command met trace_rose = FailsToWrite (outputs_of command) (TellsTrace command) met trace_rose

-- a write of the run failed: a put, or what its command was to write
abbrev pub WriteFails : List (List ℕ) → Met → (put_rose trace_rose : Type 0) → Type 0
WriteFails words met put_rose trace_rose = put_rose ⊎ Asks words (λ command. CommandFailsToWrite command met trace_rose)

-- where nothing is wrong with the inputs of the command that the words ask for, and no read and no write failed, the
-- run ends as its command does, or memory was wanting
abbrev pub Completes : List (List ℕ) → Met → (put_rose trace_rose : Type 0) → Status → Type 0
Completes words met put_rose trace_rose status = WhereAsked words (λ command.
    AreSound command met.before.contents → (FailsIn command met → ⊥) → (WriteFails words met put_rose trace_rose → ⊥) →
    ends_of command status ⊎ (status ≡ NoMemory))

-- the words ask for no command that may tell a search to the trace, with what the run met
abbrev pub TellsNothing : List (List ℕ) → Met → Type 0
TellsNothing words met = WhereAsked words (λ command. MayTell command met → ⊥)

-- ---- what it told

-- what a trace that had no line may hold after a run: nothing, or what the command that the words ask for may leave in
-- it
abbrev pub RunMayTell : List (List ℕ) → Met → Lines → Type 0
RunMayTell words met lines = (lines ≡ []) ⊎ Asks words (λ command. TraceMayHold command met lines)

-- ---- a run of check on what a run of draw left

-- the later run finds the file that the earlier one read, the text that it put under the name of the sheet, and the log
-- as it left it, which isn't too long to be read
pub record IsCheckOfDrawn (met next : Met) (input sheet log text : List ℕ) : Type 0 where
  pub before : Told
  pub after : Told
  pub now : Told
  pub is_before : met.before.contents ≡ Some before
  pub is_after : met.after.contents ≡ Some after
  pub is_now : next.before.contents ≡ Some now
  pub same_input : now input ≡ before input
  pub is_sheet : now sheet ≡ Some text
  pub same_log : now log ≡ after log
  pub short : (bytes : List ℕ) → now log ≡ Some bytes → IsShort MAX_LOG_BYTES bytes
