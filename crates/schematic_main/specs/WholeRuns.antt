-- Whole runs, none of whose reads failed, and what they found: of verify, check and recheck on files whose contents are
-- told, of draw, before check of what it put and left, and of trim, before recheck of what it left. What a trace was
-- told plays no part.
use Rattle.std.specs.Prelude.{◌≡◌, ◌≢◌, ℕ, ⊤, List, None, Some}
use Rattle.std.specs.declared.option.Option.{Option}
use Rattle.outside_io.specs.Contents.{Told, IsFileWhereTold}
use Rattle.plan_core.specs.declared.limits.TheConstants.{MAX_LOG_BYTES}
use Rattle.plan_core.specs.declared.criterion.Criterion.{Criterion}
use Rattle.plan_core.specs.Grid.{GridSize}
use Rattle.plan_core.specs.Graph.{Graph}
use Rattle.plan_core.specs.Drawing.{Drawing}
use Rattle.plan_words.specs.declared.command.Command.{Command}
use Rattle.plan_words.specs.declared.command.Command.TheVariants.{Draw, Verify, Check, Trim, Recheck}
use Rattle.plan_text.specs.SheetText.{Sheet}
use Rattle.track_order.specs.Order.{EdgeOrder}
use Rattle.log_trim.specs.declared.trimming.TrimmedLog.{TrimmedLog}
use Rattle.run_input.specs.declared.status.Status.{Status}
use Rattle.run_input.specs.declared.status.Status.TheVariants.{Done}
use Rattle.run_input.specs.Input.{IsShort, HasStation}
use Rattle.run_input.specs.Status.{IsAnswered}
use Rattle.run_input.specs.Met.{Met}
use Rattle.run_check.specs.Verdict.{HasDrawnFiles}
use Rattle.run_check.specs.CertifiedSheet.{ClaimsTruly, IsCertifiedLine, HasCertifiedFiles}
use Rattle.run_check.specs.Texts.{left_text}
use Rattle.run_check.specs.Trimmed.{HasReadLeft}
use Rattle.run_check.specs.Rechecked.{HintsCertifySheet, IsHintsLine}
use Rattle.run_check.specs.Fitting.{FitsRoom}
use Rattle.schematic_main.specs.Commands.{Owes}
use Rattle.schematic_main.specs.Run.{FailsIn}

-- a whole run of the command, none of whose reads failed, ends with this status and puts this text
pub record IsWholeRun (command : Command) (met : Met) (status : Status) (text : List ℕ) : Type 0 where
  pub read : FailsIn command met → ⊥
  pub owes : Owes command met (λ lines. ⊤) status text

-- such a run of verify ends with this status, and the sheet that it reads has this drawing for the file's station
pub record HasVerified (g : Graph) (o : EdgeOrder) (grid : GridSize) (d : Drawing) (status : Status) : Type 0 where
  pub input : List ℕ
  pub sheet : List ℕ
  pub met : Met
  pub line : List ℕ
  pub told : met.before.contents ≢ None
  pub files : HasDrawnFiles met.before.contents input sheet g o grid d
  pub run : IsWholeRun (Verify input sheet) met status line

-- such a run of check ends with this status and puts this line, and the log that it reads certifies what the sheet
-- claims of the file's station
pub record HasChecked (g : Graph) (o : EdgeOrder) (said : Sheet) (status : Status) (line : List ℕ) : Type 0 where
  pub input : List ℕ
  pub sheet : List ℕ
  pub log : List ℕ
  pub met : Met
  pub told : met.before.contents ≢ None
  pub files : HasCertifiedFiles met.before.contents input sheet log g o said
  pub run : IsWholeRun (Check input sheet log) met status line

-- the log of these files certifies what their sheet claims of the station, which is so, and the line says it
abbrev pub AreCertified : Option Told → (input sheet log line : List ℕ) → Type 0
AreCertified contents input sheet log line =
    (g : Graph) × (o : EdgeOrder) × (said : Sheet) × HasCertifiedFiles contents input sheet log g o said
    × ClaimsTruly g o said × IsCertifiedLine said line

-- a run of draw, which names a file for the log, has an answer and puts this text
pub record HasDrawn (input log : List ℕ) (met : Met) (text : List ℕ) : Type 0 where
  pub grid : GridSize
  pub order : List Criterion
  pub budget : ℕ
  pub svg : Option (List ℕ)
  pub status : Status
  pub owes : Owes (Draw input grid order budget svg (Some log)) met (λ lines. ⊤) status text
  pub answered : IsAnswered status

-- ---- hinted lines

-- the files of these three names, as far as files are told: the first has this station, the second is the text of this
-- sheet, and the third, which isn't too long to be read, has hinted lines that certify what the sheet claims
pub record HasHintedFiles (contents : Option Told) (input sheet hints : List ℕ) (g : Graph) (o : EdgeOrder)
    (said : Sheet) : Type 0 where
  pub file : List ℕ
  pub is_file : IsFileWhereTold contents input file
  pub station : HasStation file g o
  pub text : List ℕ
  pub is_sheet : IsFileWhereTold contents sheet text
  pub kept : List ℕ
  pub is_hints : IsFileWhereTold contents hints kept
  pub short : IsShort MAX_LOG_BYTES kept
  pub certify : HintsCertifySheet g o text kept said

-- a run of recheck ends with this status and puts this line, and the hinted lines that it reads certify what the sheet
-- claims of the file's station
pub record HasRechecked (g : Graph) (o : EdgeOrder) (said : Sheet) (status : Status) (line : List ℕ) : Type 0 where
  pub input : List ℕ
  pub sheet : List ℕ
  pub hints : List ℕ
  pub met : Met
  pub told : met.before.contents ≢ None
  pub files : HasHintedFiles met.before.contents input sheet hints g o said
  pub run : IsWholeRun (Recheck input sheet hints) met status line

-- the hinted lines of these files certify what their sheet claims of the station, which is so, and the line says it
abbrev pub AreHinted : Option Told → (input sheet hints line : List ℕ) → Type 0
AreHinted contents input sheet hints line =
    (g : Graph) × (o : EdgeOrder) × (said : Sheet) × HasHintedFiles contents input sheet hints g o said
    × ClaimsTruly g o said × IsHintsLine said line

-- a run of trim that ends with 0
pub record HasTrimmed (input sheet log hints : List ℕ) (met : Met) : Type 0 where
  pub line : List ℕ
  pub owes : Owes (Trim input sheet log hints) met (λ lines. ⊤) Done line

-- the later run finds the railML file and the sheet that the earlier one read, and the hinted lines as it left them.
-- These aren't too long to be read, and there is room for what is expected for their caps, and for them with it
pub record IsRecheckOfTrimmed (met next : Met) (input sheet log hints : List ℕ) : Type 0 where
  pub before : Told
  pub after : Told
  pub now : Told
  pub is_before : met.before.contents ≡ Some before
  pub is_after : met.after.contents ≡ Some after
  pub is_now : next.before.contents ≡ Some now
  pub same_input : now input ≡ before input
  pub same_sheet : now sheet ≡ before sheet
  pub same_hints : now hints ≡ after hints
  pub short : (bytes : List ℕ) → now hints ≡ Some bytes → IsShort MAX_LOG_BYTES bytes
  pub fits : (r : TrimmedLog) (left : HasReadLeft input sheet log met r) → after hints ≡ Some (left_text r) →
      FitsRoom left.leaves.graph left.leaves.order left.leaves.said r
