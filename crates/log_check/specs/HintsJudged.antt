-- The verdict on the text of a hinted log: that it certifies a claim, or what is first wrong with it.
use Rattle.std.specs.Prelude.{◌≡◌, ◌+◌, ◌⊎◌, ℕ, List, [], ◌++◌, length}
use Rattle.plan_core.specs.declared.criterion.Criterion.{Criterion}
use Rattle.plan_core.specs.declared.criterion.Values.{Values}
use Rattle.plan_core.specs.Lawful.{Lawful}
use Rattle.plan_core.specs.Values.{limit_of}
use Rattle.track_order.specs.Order.{is_above}
use Rattle.drawing_cnf.specs.Layout.{Layout}
use Rattle.log_check.specs.declared.claim.Claim.{Claim}
use Rattle.log_check.specs.Expectation.{Expectation, PassesLimits}
use Rattle.log_check.specs.Claimed.{CertifiesClaim, LacksAt, IsTrueClaim}
use Rattle.hint_log.specs.declared.hint_line.HintLine.{HintLine}
use Rattle.hint_log.specs.HintedLines.{HintLines}
use Rattle.hint_log.specs.declared.text_fault.HintsWhat.{HintsWhat}
use Rattle.hint_log.specs.declared.text_fault.HintsWhat.TheVariants as whats
use Rattle.hint_log.specs.HintText.{hints_header, ended_hint, MayBeWritten}
use Rattle.log_check.specs.Hinted.{log_of}
use Rattle.log_check.specs.declared.hint_verdict.HintRefusal.{HintRefusal}
use Rattle.log_check.specs.declared.hint_verdict.HintRefusal.TheVariants as refusals
use Rattle.log_check.specs.declared.hint_verdict.HintsVerdict.{HintsVerdict}
use Rattle.log_check.specs.declared.hint_verdict.HintsVerdict.TheVariants.{Certified, Lacks, Refused, Faulty}
use Rattle.log_check.specs.HintAccepted.{expected_for, BeginsWithCaps, AcceptsHints}
use Rattle.log_check.specs.HintRefused.{IsHintRefusedFor, HasNextHintFault, HasNextCapsFault}

-- all lines behind the caps are accepted, and certify the claim
pub record BodyCertifies (y : Layout) (order : List Criterion) (claim : Claim) (e : Expectation) (body : List ℕ) :
    Type 0 where
  pub lines : HintLines
  pub whole : AcceptsHints e body lines []
  pub certified : CertifiesClaim (limit_of y.graph y.grid) (log_of e.lines lines) order claim

-- and the claim is so, whoever wrote the text
pub record ProvesClaim (y : Layout) (order : List Criterion) (claim : Claim) (e : Expectation) (body : List ℕ) : Type 0
  where
    pub certifies : BodyCertifies y order claim e body
    pub is_so : IsTrueClaim (Lawful y.graph (is_above y.order) y.grid) order claim

-- all lines are accepted, and this is the place that they lack first
pub record BodyLacks (y : Layout) (order : List Criterion) (claim : Claim) (e : Expectation) (body : List ℕ)
    (place : ℕ) : Type 0 where
  pub lines : HintLines
  pub whole : AcceptsHints e body lines []
  pub lacks : LacksAt (limit_of y.graph y.grid) (log_of e.lines lines) order claim place

-- all lines before the one of this number are accepted, and it is refused; the first line behind the caps has number 3
pub record IsHintRefused (e : Expectation) (body : List ℕ) (why : HintRefusal) (number : ℕ) : Type 0 where
  pub before : HintLines
  pub line : HintLine
  pub more : List ℕ
  pub accepts : AcceptsHints e body before (ended_hint line ++ more)
  pub formed : MayBeWritten line
  pub refused : IsHintRefusedFor e before line why
  pub numbered : number ≡ length before + 3

-- what is expected for the caps passes the limits, which is so at their line
pub record CapsPassLimits (e : Expectation) (why : HintRefusal) (number : ℕ) : Type 0 where
  pub passes : PassesLimits e
  pub why_is : why ≡ refusals.Room
  pub numbered : number ≡ 2

-- all lines before the one of this number are accepted, and its text has this fault
pub record IsHintFaulty (e : Expectation) (body : List ℕ) (what : HintsWhat) (number : ℕ) : Type 0 where
  pub before : HintLines
  pub rest : List ℕ
  pub accepts : AcceptsHints e body before rest
  pub fault : HasNextHintFault rest what
  pub numbered : number ≡ length before + 3

-- the verdict by what stands behind the caps
abbrev pub IsBodyVerdict : Layout → List Criterion → Claim → Expectation → List ℕ → HintsVerdict → Type 0
IsBodyVerdict y order claim e body Certified = ProvesClaim y order claim e body
IsBodyVerdict y order claim e body (Lacks place) = BodyLacks y order claim e body place
IsBodyVerdict y order claim e body (Refused why number) = CapsPassLimits e why number ⊎ IsHintRefused e body why number
IsBodyVerdict y order claim e body (Faulty what number) = IsHintFaulty e body what number

-- the text has caps, and this is the verdict by what is expected for them
pub record IsJudgedBehind (y : Layout) (order : List Criterion) (claim : Claim) (bytes : List ℕ)
    (verdict : HintsVerdict) : Type 0 where
  pub caps : Values
  pub body : List ℕ
  pub begins : BeginsWithCaps y order bytes caps body
  pub is_verdict : IsBodyVerdict y order claim (expected_for y order caps) body verdict

-- the text has caps, and all lines behind them are accepted and certify the claim; where the order has as
-- many places as are claimed, the verdict is Certified exactly then (proved by hints_certified_exactly)
pub record HintsCertify (y : Layout) (order : List Criterion) (claim : Claim) (bytes : List ℕ) : Type 0 where
  pub caps : Values
  pub body : List ℕ
  pub begins : BeginsWithCaps y order bytes caps body
  pub certifies : BodyCertifies y order claim (expected_for y order caps) body

-- the line of the caps has this fault
pub record IsCapsRefused (y : Layout) (order : List Criterion) (bytes : List ℕ) (what : HintsWhat) (number : ℕ) : Type 0
  where
    pub rest : List ℕ
    pub spelled : bytes ≡ hints_header ++ rest
    pub fault : HasNextCapsFault (limit_of y.graph y.grid) order rest what
    pub numbered : number ≡ 2

-- the text doesn't begin with the first line of every such text
pub record IsHintsHeaderRefused (bytes : List ℕ) (what : HintsWhat) (number : ℕ) : Type 0 where
  pub lacks : (rest : List ℕ) → bytes ≡ hints_header ++ rest → ⊥
  pub what_is : what ≡ whats.Header
  pub numbered : number ≡ 1

-- the first two lines have a fault, and this is the verdict
abbrev pub IsBeginRefused : Layout → List Criterion → List ℕ → HintsVerdict → Type 0
IsBeginRefused y order bytes (Faulty what number) = IsHintsHeaderRefused bytes what number
    ⊎ IsCapsRefused y order bytes what number
IsBeginRefused y order bytes other = ⊥

-- the verdict on the hinted log of a layout's drawings and an order
abbrev pub IsHintsJudged : Layout → List Criterion → Claim → List ℕ → HintsVerdict → Type 0
IsHintsJudged y order claim bytes verdict = IsBeginRefused y order bytes verdict
    ⊎ IsJudgedBehind y order claim bytes verdict
