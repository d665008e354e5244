-- What three files give to trim, an answer or what is left of the log; for private contracts.
use Rattle.std.specs.Prelude.{◌≢◌, ℕ, false, List}
use Rattle.plan_core.specs.Graph.{Graph}
use Rattle.track_order.specs.Order.{EdgeOrder}
use Rattle.plan_text.specs.SheetText.{Sheet}
use Rattle.plan_text.specs.SheetFaults.{IsSheetText}
use Rattle.log_trim.specs.declared.trimming.TrimmedLog.{TrimmedLog}
use Rattle.run_input.specs.declared.status.Status.TheVariants.{Done}
use Rattle.run_check.specs.Checked.{IsSheetAnswer, IsClaimJudged, IsChecked}
use Rattle.run_check.specs.CertifiedSheet.{CertifiesSheet}
use Rattle.run_check.specs.declared.trimming.Finding.{Finding}
use Rattle.run_check.specs.declared.trimming.Finding.TheVariants.{Answered, Left, PastLimits}
use Rattle.run_check.specs.Trimmed.{IsLeftFor, PassesFor, LeavesLines, FilesPassLimits}

-- check answers 0 to a sheet and a log, and that has more variables or words than hints are found in
pub record ClaimPassesLimits (g : Graph) (o : EdgeOrder) (said : Sheet) (log : List ℕ) : Type 0 where
  pub text : List ℕ
  pub checked : IsSheetAnswer g o said log Done text
  pub passes : PassesFor g o said log

-- a sheet and a log: the answer of check, which isn't 0, or what is left
abbrev pub IsClaimFinding : Graph → EdgeOrder → Sheet → List ℕ → Finding → Type 0
IsClaimFinding g o said log (Answered reply) = IsSheetAnswer g o said log reply.status reply.text.items
    × (reply.status ≢ Done)
IsClaimFinding g o said log (Left r) =
    ((sheet : List ℕ) → IsSheetText g false sheet said → CertifiesSheet g o sheet log said) × IsLeftFor g o said log r
IsClaimFinding g o said log PastLimits = ClaimPassesLimits g o said log

-- the bytes are those of a sheet and of a log that certifies what the sheet claims, and this is left of it
pub record LeavesOfSheet (g : Graph) (o : EdgeOrder) (sheet log : List ℕ) (r : TrimmedLog) : Type 0 where
  pub said : Sheet
  pub certifies : CertifiesSheet g o sheet log said
  pub left : IsLeftFor g o said log r

-- the bytes are those of a sheet and of such a log
pub record SheetPassesLimits (g : Graph) (o : EdgeOrder) (sheet log : List ℕ) : Type 0 where
  pub said : Sheet
  pub is_text : IsSheetText g false sheet said
  pub claim : ClaimPassesLimits g o said log

-- what the bytes of a sheet and of a log give: the answer of check, which isn't 0, or what is left
abbrev pub IsSheetFinding : Graph → EdgeOrder → (sheet log : List ℕ) → Finding → Type 0
IsSheetFinding g o sheet log (Answered reply) = IsClaimJudged g o sheet log reply.status reply.text.items
    × (reply.status ≢ Done)
IsSheetFinding g o sheet log (Left r) = LeavesOfSheet g o sheet log r
IsSheetFinding g o sheet log PastLimits = SheetPassesLimits g o sheet log

-- and those of the railML file too
abbrev pub IsFinding : (file sheet log : List ℕ) → Finding → Type 0
IsFinding file sheet log (Answered reply) = IsChecked file sheet log reply.status reply.text.items
    × (reply.status ≢ Done)
IsFinding file sheet log (Left r) = LeavesLines file sheet log r
IsFinding file sheet log PastLimits = FilesPassLimits file sheet log
