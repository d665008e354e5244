-- What check answers to a station, the bytes of a sheet and those of a log.
use Rattle.std.specs.Prelude.{◌⊎◌, ℕ, false, List, None, Some, IfSome}
use Rattle.std.specs.declared.option.Option.{Option}
use Rattle.plan_core.specs.Graph.{Graph}
use Rattle.plan_core.specs.Drawing.{Drawing}
use Rattle.plan_core.specs.Lawful.{Lawful}
use Rattle.track_order.specs.Order.{EdgeOrder, is_above}
use Rattle.plan_text.specs.SheetText.{Sheet, sheet_text}
use Rattle.refute_log.specs.Lines.{log_text}
use Rattle.refute_log.specs.Told.{Lines}
use Rattle.plan_text.specs.SheetFaults.{IsSheetText}
use Rattle.drawing_cnf.specs.Layout.{layout}
use Rattle.log_check.specs.declared.verdict.Verdict.{Verdict}
use Rattle.log_check.specs.declared.verdict.Verdict.TheVariants as verdicts
use Rattle.log_check.specs.Judged.{IsLogJudged}
use Rattle.run_input.specs.declared.status.Status.{Status}
use Rattle.run_input.specs.declared.status.Status.TheVariants.{Done}
use Rattle.run_check.specs.Verdict.{IsBrokenAnswer}
use Rattle.run_check.specs.CheckLine.{claimed, claim_of, TellsVerdict, verdict_line}
use Rattle.run_input.specs.Met.{Met}
use Rattle.run_input.specs.Answer.{text_input, log_input, IsFileJudged, IsSheetRefused, IsAnswerAfter, IsAnswerOn}

-- the sheet has a drawing that breaks a law, which the answer names, and the log isn't judged
abbrev pub IsFoundBroken : Graph → EdgeOrder → Sheet → Option Drawing → Status → List ℕ → Type 0
IsFoundBroken g o said None status text = ⊥
IsFoundBroken g o said (Some d) status text = IsBrokenAnswer g o said.grid d status text

-- the sheet's drawing is lawful, if there is one, and the answer tells the verdict on the log
pub record IsClaimChecked (g : Graph) (o : EdgeOrder) (said : Sheet) (log : List ℕ) (status : Status) (text : List ℕ) :
    Type 0 where
  pub lawful : IfSome said.found (Lawful g (is_above o) said.grid)
  pub verdict : Verdict
  pub judged : IsLogJudged (layout g o said.grid) said.order (claim_of said.order said.found said.ending) log verdict
  pub told : TellsVerdict (claimed said.order said.ending) verdict status text

-- what check answers to a station, a sheet and the bytes of a log: the sheet's drawing breaks a law, or it
-- is lawful, if there is one, and the answer tells the verdict on the log
abbrev pub IsSheetAnswer : Graph → EdgeOrder → Sheet → List ℕ → Status → List ℕ → Type 0
IsSheetAnswer g o said log status text = IsFoundBroken g o said said.found status text
    ⊎ IsClaimChecked g o said log status text

-- the bytes are the text of a sheet, and it and the log are answered so
pub record IsSheetChecked (g : Graph) (o : EdgeOrder) (sheet log : List ℕ) (status : Status) (text : List ℕ) : Type 0
  where
    pub said : Sheet
    pub is_text : IsSheetText g false sheet said
    pub answer : IsSheetAnswer g o said log status text

-- or they have a fault, and this is its line
abbrev pub IsClaimJudged : Graph → EdgeOrder → (sheet log : List ℕ) → Status → List ℕ → Type 0
IsClaimJudged g o sheet log status text = IsSheetChecked g o sheet log status text
    ⊎ IsSheetRefused g false sheet status text

-- what check answers to the bytes of the file, the sheet and the log: the file's fault comes first, then the sheet's
abbrev pub IsChecked : (file sheet log : List ℕ) → Status → List ℕ → Type 0
IsChecked file sheet log status text = IsFileJudged (λ g o. IsClaimJudged g o sheet log) file status text

-- what check answers to the files of these three names, as they stand where it reads them: it reads all three before it
-- judges what they say
abbrev pub IsCheckAnswer : (input sheet log : List ℕ) → Met → Status → List ℕ → Type 0
IsCheckAnswer input sheet log met status text =
    IsAnswerOn (text_input 1 input) 0 met (λ bytes. IsAnswerOn (text_input 2 sheet) 1 met
    (λ said. IsAnswerOn (log_input 3 log) 2 met (IsAnswerAfter 3 met (IsChecked bytes said)))) status text

-- check of this sheet with the log of these lines ends with 0
abbrev pub PassesCheck : Graph → EdgeOrder → Sheet → Lines → Type 0
PassesCheck g o s lines =
    IsClaimJudged g o (sheet_text g s) (log_text lines) Done
    (verdict_line (claimed s.order s.ending) verdicts.Certified)
