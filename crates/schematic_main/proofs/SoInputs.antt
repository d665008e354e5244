-- What is so of an answer to an input follows from what is so where it is too long, where it wasn't read, and where its bytes are judged;
-- what is so of an answer to a railML file from what is so where it has a fault, and where it has a station.
use Rattle.std.proofs.Common.{◌≡◌, ℕ, List, refl, sym, ◌∙◌, subst, inl, inr}
use Rattle.std.specs.declared.option.Option.{Option}
use Rattle.outside_io.specs.Contents.{Told, IsFileWhereTold}
use Rattle.plan_core.specs.declared.limits.TheConstants.{MAX_FILE_BYTES}
use Rattle.plan_core.specs.Graph.{Graph}
use Rattle.track_order.specs.Order.{EdgeOrder}
use Rattle.run_input.specs.declared.fault.RunFault.{RunFault}
use Rattle.run_input.specs.declared.fault.RunFault.TheVariants.{Long, ReadFailed}
use Rattle.run_input.specs.declared.status.Status.{Status}
use Rattle.run_input.specs.declared.status.Status.TheVariants.{Refused, Unread}
use Rattle.run_input.specs.Fault.{fault_line}
use Rattle.run_input.specs.Input.{IsLong, HasStation, HasFileFault, IsOfFile}
use Rattle.run_input.specs.Met.{Met}
use Rattle.run_input.specs.Answer.{InputFile, IsFileJudged, IsAnswerOn}
use Rattle.run_input.proofs.InputLemmas.{file_fault_status}
use Rattle.schematic_main.specs.So.{HasFaultyFile}

pub so_input : (P : Status → Type 0) (input : InputFile) (done : ℕ) (met : Met) (Answers : List ℕ → Status → List ℕ → Type 0) (status : Status) (text : List ℕ)
    →
    (IsOfFile (IsLong input.limit) input.name met.before.contents → text ≡ fault_line (Long input.number) → P Refused) →
    (text ≡ fault_line (ReadFailed input.number) → P Unread) →
    ((bytes : List ℕ) → IsFileWhereTold met.before.contents input.name bytes → Answers bytes status text → P status) →
    IsAnswerOn input done met Answers status text → P status
so_input P input done met Answers status text long unread answers (inl (bytes, is, inl (passes, read, told))) = subst P (sym told.status_is)
    (long (bytes, is, passes) told.line_is)
so_input P input done met Answers status text long unread answers (inl (bytes, is, inr (short, answer))) = answers bytes is answer
so_input P input done met Answers status text long unread answers (inr (fails, told)) = subst P (sym told.status_is) (unread told.line_is)

pub so_file : (P : Status → Type 0) (Answers : Graph → EdgeOrder → Status → List ℕ → Type 0) (bytes : List ℕ) (status : Status) (text : List ℕ) →
    ((fault : RunFault) → HasFileFault bytes fault → text ≡ fault_line fault → P Refused) →
    ((g : Graph) (o : EdgeOrder) → HasStation bytes g o → Answers g o status text → P status) → IsFileJudged Answers bytes status text → P status
so_file P Answers bytes status text refused answers (inl (g, o, has, answer)) = answers g o has answer
so_file P Answers bytes status text refused answers (inr r) = subst P (sym (r.answers.status_is ∙ file_fault_status bytes r.fault r.has))
    (refused r.fault r.has r.answers.line_is)

-- the first input has a fault
pub too_long : (input : List ℕ) (files : Option Told) (text : List ℕ) → IsOfFile (IsLong MAX_FILE_BYTES) input files → text ≡ fault_line (Long 1) →
    HasFaultyFile files input text
too_long input files text (bytes, is, long) line = (Long 1, (bytes, is, (refl, long)), line)
