-- A log that is read line by line: what stands next, and what is known of the lines that were accepted.
-- No public clause names this but IsNext.
use Rattle.std.specs.Prelude.{◌≡◌, ◌≢◌, ◌⊎◌, ⊤, ℕ, Option, Some, List, [], ◌∷◌, ◌++◌, MatchOption, flat_map}
use Rattle.plan_core.specs.declared.criterion.Criterion.{Criterion}
use Rattle.refute_log.specs.declared.line.LogLine.{LogLine}
use Rattle.refute_log.specs.Lines.{ended_text, MayBeTold}
use Rattle.refute_log.specs.LineText.{IsTextOf, HasLineFault}
use Rattle.refute_log.specs.Told.{Lines}
use Rattle.refute_log.specs.Log.{clause_line, clause_lines}
use Rattle.refute_check.specs.declared.fault.LineFault.{LineFault}
use Rattle.refute_check.specs.declared.fault.LineFault.TheVariants.{NewVar, WrongQuery, Room, NotImplied, NotNew}
use Rattle.refute_check.specs.declared.fault.LineFault.TheVariants.{Memory}
use Rattle.refute_check.specs.Lacking.{told_bound}
use Rattle.log_check.specs.declared.claim.Claim.{Claim}
use Rattle.log_check.specs.declared.reading.Next.{Next}
use Rattle.log_check.specs.declared.reading.Next.TheVariants.{Line, Fault}
use Rattle.log_check.specs.declared.verdict.Verdict.{Verdict}
use Rattle.log_check.specs.declared.verdict.Verdict.TheVariants.{Certified, Lacks, Refused, Faulty}
use Rattle.log_check.specs.declared.verdict.Refusal.{Refusal}
use Rattle.log_check.specs.declared.verdict.Refusal.TheVariants as refusals
use Rattle.log_check.specs.declared.awaited.Awaited.{Awaited}
use Rattle.log_check.specs.declared.accepting.Progress.{Progress}
use Rattle.log_check.specs.declared.accepting.Compared.{Compared}
use Rattle.log_check.specs.declared.accepting.Compared.TheVariants as compared
use Rattle.log_check.specs.TextLines.{HasNextFault}
use Rattle.log_check.specs.Expectation.{Expectation, PassesLimits}
use Rattle.log_check.specs.Accepted.{AreAccepted, AcceptsFront}
use Rattle.log_check.specs.Refused.{IsOverLimits, IsNextExpected, IsComparedLine, kept_of_lines}
use Rattle.log_check.specs.Claimed.{CertifiesClaim, LacksAt}
use Rattle.log_check.specs.Judged.{IsLineRefused, IsTextRefused, IsHeaderRefused}
use Rattle.log_check.specs.Awaited.{awaited_lines, IsAwaited}

-- the text is that of the line, and this follows; or it has the fault
abbrev pub IsLineRead : List ℕ → List ℕ → Next → Type 0
IsLineRead text more (Line line after) = IsTextOf text line × (after.now ≡ more)
IsLineRead text more (Fault what) = HasLineFault text what

-- the text begins with the line, and this follows; or its next line has the fault
abbrev pub IsNext : List ℕ → Next → Type 0
IsNext rest (Line line after) = MayBeTold line × (rest ≡ ended_text line ++ after.now)
IsNext rest (Fault what) = HasNextFault rest what

-- the awaited lines are those behind the Formula and Bound lines that came; there are none where what is expected
-- passes the limits
abbrev pub AreAwaited : Expectation → Lines → Option Awaited → Type 0
AreAwaited e lines awaited =
    MatchOption awaited (PassesLimits e)
    (λ a. (PassesLimits e → ⊥) × IsAwaited a × (e.lines ≡ clause_lines lines ++ awaited_lines a))

-- the lines are accepted, and this is kept of them
pub record HasAccepted (e : Expectation) (lines : Lines) (p : Progress) : Type 0 where
  pub accepted : AreAccepted e lines
  pub awaited : AreAwaited e lines p.awaited
  pub checker : p.checker ≡ kept_of_lines lines
  pub bounds : p.bounds.items ≡ flat_map told_bound lines

-- the same of the lines before one that is the next expected, if it is a Formula or Bound line; what is awaited is
-- what stands behind it
pub record HasCompared (e : Expectation) (before : Lines) (line : LogLine) (p : Progress) : Type 0 where
  pub accepted : AreAccepted e before
  pub compared : IsComparedLine e before line
  pub within : clause_lines (before ++ line ∷ []) ≢ [] → PassesLimits e → ⊥
  pub awaited : AreAwaited e (before ++ line ∷ []) p.awaited
  pub checker : p.checker ≡ kept_of_lines before
  pub bounds : p.bounds.items ≡ flat_map told_bound before

-- the line isn't compared; or it is the next that is expected; or it is over the limits, or another one
abbrev pub IsCompared : Expectation → Lines → LogLine → Compared → Type 0
IsCompared e before line compared.Same = clause_line line ≡ []
IsCompared e before line (compared.Next a) = AreAwaited e (before ++ line ∷ []) (Some a)
IsCompared e before line (compared.Wrong refusals.Room) = IsOverLimits e before line
IsCompared e before line (compared.Wrong refusals.Differs) = (IsOverLimits e before line → ⊥)
    × (IsNextExpected e before line → ⊥)
IsCompared e before line (compared.Wrong why) = ⊥

abbrev pub IsNextAwaited : Compared → Type 0
IsNextAwaited (compared.Next a) = IsAwaited a
IsNextAwaited other = ⊤

-- the refusal that a fault of the checker is; none where memory is wanting
abbrev pub refusals_of : LineFault → List Refusal
refusals_of NewVar = refusals.NewVar ∷ []
refusals_of WrongQuery = refusals.WrongQuery ∷ []
refusals_of Room = refusals.Room ∷ []
refusals_of NotImplied = refusals.NotImplied ∷ []
refusals_of NotNew = refusals.NotNew ∷ []
refusals_of Memory = []

-- all lines are accepted up to one that is refused, or whose text has a fault
abbrev pub IsStopped : Expectation → List ℕ → Verdict → Type 0
IsStopped e bytes (Refused why number) = IsLineRefused e bytes why number
IsStopped e bytes (Faulty what number) = IsTextRefused e bytes what number ⊎ IsHeaderRefused bytes what number
IsStopped e bytes verdict = ⊥

-- the claim is certified by these lines, or lacks this place first
abbrev pub AreLinesJudged : (Criterion → ℕ) → Lines → List Criterion → Claim → Verdict → Type 0
AreLinesJudged greatest lines order claim Certified = CertifiesClaim greatest lines order claim
AreLinesJudged greatest lines order claim (Lacks place) = LacksAt greatest lines order claim place
AreLinesJudged greatest lines order claim verdict = ⊥

-- the text is judged up to its end, or to a line that is refused or faulty
abbrev pub IsTextJudged : (Criterion → ℕ) → List Criterion → Claim → Expectation → List ℕ → Verdict → Type 0
IsTextJudged greatest order claim e bytes verdict =
    ((lines : Lines) × AcceptsFront e bytes lines [] × AreLinesJudged greatest lines order claim verdict)
    ⊎ IsStopped e bytes verdict
