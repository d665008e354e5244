-- What recheck answers to a station, the bytes of a sheet and those of hinted lines; and when hinted lines certify what
-- a sheet claims.
use Rattle.std.specs.Prelude.{◌≡◌, ◌⊎◌, ℕ, false, List, IfSome}
use Rattle.plan_core.specs.Graph.{Graph}
use Rattle.plan_core.specs.Lawful.{Lawful}
use Rattle.track_order.specs.Order.{EdgeOrder, is_above}
use Rattle.plan_text.specs.SheetText.{Sheet}
use Rattle.plan_text.specs.SheetFaults.{IsSheetText}
use Rattle.drawing_cnf.specs.Layout.{layout}
use Rattle.log_check.specs.declared.hint_verdict.HintsVerdict.{HintsVerdict}
use Rattle.log_check.specs.declared.hint_verdict.HintsVerdict.TheVariants.{Certified}
use Rattle.log_check.specs.HintsJudged.{HintsCertify, IsHintsJudged}
use Rattle.run_input.specs.declared.status.Status.{Status}
use Rattle.run_input.specs.Input.{HasStation}
use Rattle.run_input.specs.Answer.{log_input, IsFileJudged, IsSheetRefused}
use Rattle.run_input.specs.Met.{Met}
use Rattle.run_input.specs.ThreeFiles.{IsAnswerToThree}
use Rattle.run_check.specs.CheckLine.{claimed, claim_of}
use Rattle.run_check.specs.Checked.{IsFoundBroken}
use Rattle.run_check.specs.CertifiedSheet.{ClaimsTruly}
use Rattle.run_check.specs.Texts.{hints_line, TellsHints}

-- the sheet's drawing is lawful, if there is one, and the answer tells the verdict on the hinted lines
pub record AreHintsChecked (g : Graph) (o : EdgeOrder) (said : Sheet) (hints : List ℕ) (status : Status)
    (text : List ℕ) : Type 0 where
  pub lawful : IfSome said.found (Lawful g (is_above o) said.grid)
  pub verdict : HintsVerdict
  pub judged : IsHintsJudged (layout g o said.grid) said.order (claim_of said.order said.found said.ending) hints
      verdict
  pub told : TellsHints (claimed said.order said.ending) verdict status text

-- or it breaks a law, and the hinted lines aren't judged
abbrev pub IsHintsAnswer : Graph → EdgeOrder → Sheet → List ℕ → Status → List ℕ → Type 0
IsHintsAnswer g o said hints status text = IsFoundBroken g o said said.found status text
    ⊎ AreHintsChecked g o said hints status text

-- the bytes are the text of a sheet, and it and the hinted lines are answered so
pub record IsSheetRechecked (g : Graph) (o : EdgeOrder) (sheet hints : List ℕ) (status : Status) (text : List ℕ) :
    Type 0 where
  pub said : Sheet
  pub is_text : IsSheetText g false sheet said
  pub answer : IsHintsAnswer g o said hints status text

-- or they have a fault, and this is its line
abbrev pub IsHintsClaimJudged : Graph → EdgeOrder → (sheet hints : List ℕ) → Status → List ℕ → Type 0
IsHintsClaimJudged g o sheet hints status text = IsSheetRechecked g o sheet hints status text
    ⊎ IsSheetRefused g false sheet status text

-- what recheck answers to the bytes of the file, the sheet and the hinted lines: the file's fault comes first, then the
-- sheet's
abbrev pub IsRechecked : (file sheet hints : List ℕ) → Status → List ℕ → Type 0
IsRechecked file sheet hints status text = IsFileJudged (λ g o. IsHintsClaimJudged g o sheet hints) file status text

-- what it answers to the files of these three names, as they stand where it reads them
abbrev pub IsRecheckAnswer : (input sheet hints : List ℕ) → Met → Status → List ℕ → Type 0
IsRecheckAnswer input sheet hints met status text =
    IsAnswerToThree input sheet (log_input 3 hints) met IsRechecked status text

-- the bytes are the text of the sheet, whose drawing is lawful, if it has one; and hinted lines that certify what it
-- claims
pub record HintsCertifySheet (g : Graph) (o : EdgeOrder) (sheet hints : List ℕ) (said : Sheet) : Type 0 where
  pub is_text : IsSheetText g false sheet said
  pub lawful : IfSome said.found (Lawful g (is_above o) said.grid)
  pub certify : HintsCertify (layout g o said.grid) said.order (claim_of said.order said.found said.ending) hints

-- the line says on how many criteria that is certified
abbrev pub IsHintsLine : Sheet → List ℕ → Type 0
IsHintsLine said line = line ≡ hints_line (claimed said.order said.ending) Certified

-- the file has a station, the hinted lines certify what the sheet claims of it, which is so, and the line says it
abbrev pub AreHintedBytes : (file sheet hints line : List ℕ) → Type 0
AreHintedBytes file sheet hints line =
    (g : Graph) × (o : EdgeOrder) × (said : Sheet) × HasStation file g o × HintsCertifySheet g o sheet hints said
    × ClaimsTruly g o said × IsHintsLine said line
