-- What trim answers and leaves: what check answers, or hinted lines where that ends with 0.
use Rattle.std.specs.Prelude.{◌≡◌, ◌≢◌, ◌⊎◌, ℕ, List, ◌++◌, Some}
use Rattle.outside_io.specs.Contents.{WhereTold}
use Rattle.plan_core.specs.Graph.{Graph}
use Rattle.track_order.specs.Order.{EdgeOrder}
use Rattle.plan_text.specs.SheetText.{Sheet}
use Rattle.drawing_cnf.specs.Layout.{layout}
use Rattle.log_trim.specs.declared.trimming.TrimmedLog.{TrimmedLog}
use Rattle.log_trim.specs.TrimmedLog.{IsTrimmedLog}
use Rattle.log_trim.specs.HintRoom.{LogPassesLimits}
use Rattle.run_input.specs.declared.status.Status.{Status}
use Rattle.run_input.specs.declared.status.Status.TheVariants.{Done, Unfinished}
use Rattle.run_input.specs.Input.{HasStation}
use Rattle.run_input.specs.Met.{Met, HasRead}
use Rattle.run_input.specs.Answer.{log_input}
use Rattle.run_input.specs.ThreeFiles.{IsAnswerToThree, AreThreeFiles}
use Rattle.run_check.specs.CheckLine.{claim_of}
use Rattle.run_check.specs.Checked.{IsChecked}
use Rattle.run_check.specs.CertifiedSheet.{CertifiesSheet}
use Rattle.run_check.specs.Texts.{left_text, trimmed_line, no_room_line}

-- what is left of a log for what a sheet claims of a station
abbrev pub IsLeftFor : Graph → EdgeOrder → Sheet → (log : List ℕ) → TrimmedLog → Type 0
IsLeftFor g o said log r =
    IsTrimmedLog (layout g o said.grid) said.order (claim_of said.order said.found said.ending) log r

-- for this the log has more variables or words than hints are found in
abbrev pub PassesFor : Graph → EdgeOrder → Sheet → (log : List ℕ) → Type 0
PassesFor g o said log =
    LogPassesLimits (layout g o said.grid) said.order (claim_of said.order said.found said.ending) log

-- the bytes are those of a file with a station, of a sheet and of a log that certifies what the sheet claims, and this
-- is left of it
pub record LeavesLines (file sheet log : List ℕ) (r : TrimmedLog) : Type 0 where
  pub graph : Graph
  pub order : EdgeOrder
  pub said : Sheet
  pub station : HasStation file graph order
  pub certifies : CertifiesSheet graph order sheet log said
  pub left : IsLeftFor graph order said log r

-- its text stands in the file of this name, where files are told, and the answer counts the lines
pub record TellsLeft (r : TrimmedLog) (hints : List ℕ) (met : Met) (status : Status) (text : List ℕ) : Type 0 where
  pub status_is : status ≡ Done
  pub line_is : text ≡ trimmed_line r
  pub written : WhereTold met.before.contents met.after.contents (λ _ after. after hints ≡ Some (left_text r))

-- the bytes are those of a file with a station, of a sheet and of a log to which check answers 0, and the log has more
-- variables or words than hints are found in
pub record FilesPassLimits (file sheet log : List ℕ) : Type 0 where
  pub graph : Graph
  pub order : EdgeOrder
  pub said : Sheet
  pub station : HasStation file graph order
  pub certifies : CertifiesSheet graph order sheet log said
  pub passes : PassesFor graph order said log

-- the answer says that there is no room to find hints
pub record TellsNoRoom (status : Status) (text : List ℕ) : Type 0 where
  pub status_is : status ≡ Unfinished
  pub line_is : text ≡ no_room_line

-- where check would end with other than 0 this is its answer; else the lines that are left are written, or the log is
-- too large to find hints in, and that is said
abbrev pub AreTrimmed : (hints : List ℕ) → Met → (file sheet log : List ℕ) → Status → List ℕ → Type 0
AreTrimmed hints met file sheet log status text =
    (IsChecked file sheet log status text × (status ≢ Done))
    ⊎ ((r : TrimmedLog) × LeavesLines file sheet log r × TellsLeft r hints met status text)
    ⊎ (FilesPassLimits file sheet log × TellsNoRoom status text)

-- what trim answers to the files of three names
abbrev pub IsTrimAnswer : (input sheet log hints : List ℕ) → Met → Status → List ℕ → Type 0
IsTrimAnswer input sheet log hints met status text =
    IsAnswerToThree input sheet (log_input 3 log) met (AreTrimmed hints met) status text

-- the three files were read, and no other, and this is left of the log
pub record HasReadLeft (input sheet log : List ℕ) (met : Met) (r : TrimmedLog) : Type 0 where
  pub read : HasRead met 3
  pub bytes : List ℕ
  pub said : List ℕ
  pub lines : List ℕ
  pub files : AreThreeFiles input sheet (log_input 3 log) met.before.contents bytes said lines
  pub leaves : LeavesLines bytes said lines r

-- there is something to trim: check would end with 0
abbrev pub HasReadCertified : (input sheet log : List ℕ) → Met → Type 0
HasReadCertified input sheet log met = (r : TrimmedLog) × HasReadLeft input sheet log met r

-- the bytes begin the text of what is left
pub record BeginsLeft (r : TrimmedLog) (bytes : List ℕ) : Type 0 where
  pub more : List ℕ
  pub spelled : bytes ++ more ≡ left_text r

-- the bytes with which trim may leave the file of this name: it is the one that is named for hinted lines, there was
-- something to trim, and they begin the text of what is left
abbrev pub IsLeftByTrim : (input sheet log hints : List ℕ) → Met → (name bytes : List ℕ) → Type 0
IsLeftByTrim input sheet log hints met name bytes =
    (hints ≡ name) × ((r : TrimmedLog) × HasReadLeft input sheet log met r × BeginsLeft r bytes)
