-- The verdict on a log: that it certifies a claim, or what is first wrong with it.
use Rattle.std.specs.Prelude.{◌≡◌, ◌+◌, ◌⊎◌, ℕ, List, [], ◌++◌, length}
use Rattle.plan_core.specs.declared.criterion.Criterion.{Criterion}
use Rattle.plan_core.specs.Lawful.{Lawful}
use Rattle.plan_core.specs.Values.{limit_of}
use Rattle.track_order.specs.Order.{is_above}
use Rattle.refute_log.specs.declared.line.LogLine.{LogLine}
use Rattle.refute_log.specs.declared.fault.LogWhat.{LogWhat}
use Rattle.refute_log.specs.declared.fault.LogWhat.TheVariants as whats
use Rattle.refute_log.specs.Lines.{header, ended_text, MayBeTold}
use Rattle.refute_log.specs.Told.{Lines}
use Rattle.drawing_cnf.specs.Layout.{Layout}
use Rattle.log_check.specs.declared.claim.Claim.{Claim}
use Rattle.log_check.specs.declared.verdict.Refusal.{Refusal}
use Rattle.log_check.specs.declared.verdict.Verdict.{Verdict}
use Rattle.log_check.specs.declared.verdict.Verdict.TheVariants.{Certified, Lacks, Refused, Faulty}
use Rattle.log_check.specs.TextLines.{HasNextFault}
use Rattle.log_check.specs.Expectation.{Expectation, IsExpectedOf}
use Rattle.log_check.specs.Accepted.{AcceptsFront}
use Rattle.log_check.specs.Refused.{IsRefusedFor}
use Rattle.log_check.specs.Claimed.{CertifiesClaim, LacksAt, IsTrueClaim}

-- the whole log is accepted, by what is expected of its text, and certifies the claim
pub record CertifiesWhole (y : Layout) (order : List Criterion) (claim : Claim) (log : List ℕ) : Type 0 where
  pub expected : Expectation
  pub lines : Lines
  pub is_expected : IsExpectedOf y order log expected
  pub whole : AcceptsFront expected log lines []
  pub certified : CertifiesClaim (limit_of y.graph y.grid) lines order claim

-- the whole log is accepted and certifies the claim, which is so, whoever wrote the log
pub record IsCertified (y : Layout) (order : List Criterion) (claim : Claim) (e : Expectation) (bytes : List ℕ) : Type 0
  where
    pub lines : Lines
    pub whole : AcceptsFront e bytes lines []
    pub certified : CertifiesClaim (limit_of y.graph y.grid) lines order claim
    pub is_so : IsTrueClaim (Lawful y.graph (is_above y.order) y.grid) order claim

-- the whole log is accepted, and this is the place that it lacks first
pub record IsLacking (y : Layout) (order : List Criterion) (claim : Claim) (e : Expectation) (bytes : List ℕ)
    (place : ℕ) : Type 0 where
  pub lines : Lines
  pub whole : AcceptsFront e bytes lines []
  pub lacks : LacksAt (limit_of y.graph y.grid) lines order claim place

-- all lines before the one of this number are accepted, and it is refused; the first line of the text has number 1
pub record IsLineRefused (e : Expectation) (bytes : List ℕ) (why : Refusal) (number : ℕ) : Type 0 where
  pub before : Lines
  pub line : LogLine
  pub more : List ℕ
  pub accepts : AcceptsFront e bytes before (ended_text line ++ more)
  pub formed : MayBeTold line
  pub refused : IsRefusedFor e before line why
  pub numbered : number ≡ length before + 2

-- all lines before the one of this number are accepted, and its text has this fault
pub record IsTextRefused (e : Expectation) (bytes : List ℕ) (what : LogWhat) (number : ℕ) : Type 0 where
  pub before : Lines
  pub rest : List ℕ
  pub accepts : AcceptsFront e bytes before rest
  pub fault : HasNextFault rest what
  pub numbered : number ≡ length before + 2

-- the text doesn't begin with the first line of every log
pub record IsHeaderRefused (bytes : List ℕ) (what : LogWhat) (number : ℕ) : Type 0 where
  pub lacks : (rest : List ℕ) → bytes ≡ header ++ rest → ⊥
  pub what_is : what ≡ whats.Header
  pub numbered : number ≡ 1

-- the verdict on the text by what is expected of it
abbrev pub IsLogVerdict : Layout → List Criterion → Claim → Expectation → List ℕ → Verdict → Type 0
IsLogVerdict y order claim e bytes Certified = IsCertified y order claim e bytes
IsLogVerdict y order claim e bytes (Lacks place) = IsLacking y order claim e bytes place
IsLogVerdict y order claim e bytes (Refused why number) = IsLineRefused e bytes why number
IsLogVerdict y order claim e bytes (Faulty what number) = IsTextRefused e bytes what number
    ⊎ IsHeaderRefused bytes what number

-- the verdict on the log of a layout's drawings and an order, by what is expected of the whole text
pub record IsLogJudged (y : Layout) (order : List Criterion) (claim : Claim) (log : List ℕ) (verdict : Verdict) : Type 0
  where
    pub expected : Expectation
    pub is_expected : IsExpectedOf y order log expected
    pub is_verdict : IsLogVerdict y order claim expected log verdict
