-- What a command prints with 1 for a fault of the file or of the sheet, where contents are known. It follows from
-- `specs/So`.
use Rattle.std.specs.Prelude.{◌≡◌, ℕ, Bool, false, true, List, [], ◌∷◌, Some}
use Rattle.outside_io.specs.Contents.{Told}
use Rattle.plan_core.specs.declared.limits.TheConstants.{MAX_FILE_BYTES, MAX_LOG_BYTES}
use Rattle.plan_core.specs.Graph.{Graph}
use Rattle.track_order.specs.Order.{EdgeOrder}
use Rattle.plan_words.specs.declared.command.Command.{Command}
use Rattle.plan_text.specs.declared.sheet_fault.SheetWhat.{SheetWhat}
use Rattle.plan_text.specs.SheetFaults.{HasSheetFault}
use Rattle.run_input.specs.declared.fault.RunFault.{RunFault}
use Rattle.run_input.specs.declared.fault.RunFault.TheVariants.{Sheet as SheetFault}
use Rattle.run_input.specs.declared.status.Status.TheVariants.{Refused}
use Rattle.run_input.specs.Fault.{fault_line}
use Rattle.run_input.specs.Input.{IsShort, HasFileFault, IsStationOf}
use Rattle.run_input.specs.Answer.{text_input}
use Rattle.schematic_main.specs.Commands.{inputs_of}
use Rattle.schematic_main.specs.So.{VerifyIsSo, CheckIsSo, IsSo}

-- the command reads this file, and no other
abbrev pub ReadsAlone : Command → (input : List ℕ) → Type 0
ReadsAlone command input = inputs_of command ≡ text_input 1 input ∷ []

-- where the file has a fault, a command that reads no other prints with 1 its line; a file has one at most
-- (`one_fault` of run_input)
abbrev pub FileFaultIsNamed : Type 0
FileFaultIsNamed = (command : Command) (told : Told) (input bytes : List ℕ) (fault : RunFault) (text : List ℕ) →
    ReadsAlone command input → told input ≡ Some bytes → HasFileFault bytes fault →
    IsSo command (Some told) Refused text → text ≡ fault_line fault

-- the text under this name isn't too long, and as a sheet of this graph, which must have a drawing or need not, this is
-- its first fault
pub record IsFaultOfSheet (told : Told) (needs_drawing : Bool) (g : Graph) (sheet : List ℕ) (what : SheetWhat)
    (line : ℕ) : Type 0 where
  pub bytes : List ℕ
  pub there : told sheet ≡ Some bytes
  pub short : IsShort MAX_FILE_BYTES bytes
  pub first : HasSheetFault g needs_drawing bytes what line

-- where the file has a station and the sheet a fault, verify prints with 1 the line of the sheet's first
abbrev pub VerifyNamesSheetFault : Type 0
VerifyNamesSheetFault = (told : Told) (input sheet : List ℕ) (g : Graph) (o : EdgeOrder) (what : SheetWhat) (line : ℕ)
    (text : List ℕ) → IsStationOf input (Some told) g o → IsFaultOfSheet told true g sheet what line →
    VerifyIsSo input sheet (Some told) Refused text → text ≡ fault_line (SheetFault what line)

-- so do check and recheck, where the third file isn't too long
abbrev pub CheckNamesSheetFault : Type 0
CheckNamesSheetFault = (hinted : Bool) (told : Told) (input sheet third kept : List ℕ) (g : Graph) (o : EdgeOrder)
    (what : SheetWhat) (line : ℕ) (text : List ℕ) → IsStationOf input (Some told) g o →
    IsFaultOfSheet told false g sheet what line → told third ≡ Some kept → IsShort MAX_LOG_BYTES kept →
    CheckIsSo hinted input sheet third (Some told) Refused text → text ≡ fault_line (SheetFault what line)
