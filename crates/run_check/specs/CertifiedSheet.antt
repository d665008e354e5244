-- When a log certifies what a sheet claims of the lawful drawings of a station.
use Rattle.std.specs.Prelude.{◌≡◌, ℕ, false, List, [], IfSome}
use Rattle.std.specs.declared.option.Option.{Option}
use Rattle.outside_io.specs.Contents.{Told, IsFileWhereTold}
use Rattle.plan_core.specs.declared.limits.TheConstants.{MAX_LOG_BYTES}
use Rattle.plan_core.specs.Graph.{Graph}
use Rattle.plan_core.specs.Lawful.{Lawful}
use Rattle.plan_core.specs.Values.{limit_of}
use Rattle.track_order.specs.Order.{EdgeOrder, is_above}
use Rattle.plan_text.specs.SheetText.{Sheet}
use Rattle.plan_text.specs.SheetFaults.{IsSheetText}
use Rattle.refute_log.specs.Told.{Lines}
use Rattle.drawing_cnf.specs.Layout.{layout}
use Rattle.log_check.specs.Expectation.{Expectation, IsExpectedOf}
use Rattle.log_check.specs.Accepted.{AcceptsFront}
use Rattle.log_check.specs.Claimed.{CertifiesClaim, IsTrueClaim}
use Rattle.run_input.specs.Input.{IsShort, HasStation}
use Rattle.log_check.specs.declared.verdict.Verdict.TheVariants.{Certified}
use Rattle.run_check.specs.CheckLine.{claimed, claim_of, verdict_line}

-- the bytes are the text of the sheet, whose drawing is lawful, if it has one; and the whole log is accepted, by what
-- is expected of it, and certifies what the sheet claims
pub record CertifiesSheet (g : Graph) (o : EdgeOrder) (sheet log : List ℕ) (said : Sheet) : Type 0 where
  pub is_text : IsSheetText g false sheet said
  pub lawful : IfSome said.found (Lawful g (is_above o) said.grid)
  pub expected : Expectation
  pub is_expected : IsExpectedOf (layout g o said.grid) said.order log expected
  pub lines : Lines
  pub whole : AcceptsFront expected log lines []
  pub certified : CertifiesClaim (limit_of g said.grid) lines said.order (claim_of said.order said.found said.ending)

-- what the sheet claims is so
abbrev pub ClaimsTruly : Graph → EdgeOrder → Sheet → Type 0
ClaimsTruly g o said = IsTrueClaim (Lawful g (is_above o) said.grid) said.order
    (claim_of said.order said.found said.ending)

-- the line says on how many criteria that is certified
abbrev pub IsCertifiedLine : Sheet → List ℕ → Type 0
IsCertifiedLine said line = line ≡ verdict_line (claimed said.order said.ending) Certified

-- the files of these three names, as far as files are told: the first has this station, the second is the text of this
-- sheet, and the third, which isn't too long to be read, is a log that certifies what the sheet claims of the station
pub record HasCertifiedFiles (contents : Option Told) (input sheet log : List ℕ) (g : Graph) (o : EdgeOrder)
    (said : Sheet) : Type 0 where
  pub file : List ℕ
  pub is_file : IsFileWhereTold contents input file
  pub station : HasStation file g o
  pub text : List ℕ
  pub is_sheet : IsFileWhereTold contents sheet text
  pub kept : List ℕ
  pub is_log : IsFileWhereTold contents log kept
  pub short : IsShort MAX_LOG_BYTES kept
  pub certifies : CertifiesSheet g o text kept said
