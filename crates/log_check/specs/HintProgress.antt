-- A hinted log that is read line by line, for private contracts alone.
use Rattle.std.specs.Prelude.{◌≡◌, ◌≤◌, ◌⊎◌, ℕ, List, [], ◌++◌, flat_map, length}
use Rattle.plan_core.specs.declared.criterion.Criterion.{Criterion}
use Rattle.plan_core.specs.declared.criterion.Values.{Values}
use Rattle.cnf_core.specs.declared.limits.TheConstants.{ROOM}
use Rattle.refute_log.specs.Told.{Lines}
use Rattle.refute_check.specs.declared.told_bound.ToldBound.{ToldBound}
use Rattle.refute_check.specs.Lacking.{told_bound}
use Rattle.log_check.specs.declared.claim.Claim.{Claim}
use Rattle.log_check.specs.declared.awaited.Part.{Part}
use Rattle.log_check.specs.Expectation.{Expectation, expectation, PassesLimits}
use Rattle.log_check.specs.Expecting.{IsExpecting}
use Rattle.drawing_cnf.specs.Encoding.{Encoding}
use Rattle.drawing_cnf.specs.Layout.{Layout}
use Rattle.log_check.specs.Claimed.{CertifiesClaim, LacksAt}
use Rattle.hint_log.specs.Hint.{hints_of}
use Rattle.hint_log.specs.Checked.{HintFacts, refuted_of}
use Rattle.hint_log.specs.HintedLines.{HintLines}
use Rattle.hint_log.specs.HintText.{ended_hint, ended_caps, MayBeWritten}
use Rattle.hint_log.specs.Caps.{AreSmallCaps, AreInRange}
use Rattle.log_check.specs.Hinted.{log_of, AreClauseLines}
use Rattle.log_check.specs.declared.hint_reading.Next.{Next}
use Rattle.log_check.specs.declared.hint_reading.Next.TheVariants.{Line, Fault}
use Rattle.log_check.specs.declared.hint_verdict.HintsVerdict.{HintsVerdict}
use Rattle.log_check.specs.declared.hint_verdict.HintsVerdict.TheVariants.{Certified, Lacks, Refused, Faulty}
use Rattle.log_check.specs.HintAccepted.{clauses_with, AreAcceptedHints, AcceptsHints}
use Rattle.log_check.specs.HintRefused.{HasNextHintFault}
use Rattle.log_check.specs.HintsJudged.{IsHintRefused, IsHintFaulty}

-- the text begins with the line, and this follows; or its next line has the fault
abbrev pub IsNextHint : List ℕ → Next → Type 0
IsNextHint rest (Line line after) = MayBeWritten line × (length (hints_of line) ≤ length rest)
    × (rest ≡ ended_hint line ++ after.now)
IsNextHint rest (Fault what) = HasNextHintFault rest what

-- the text begins with the line of caps in range, and this follows
pub record AreNextCaps (greatest : Criterion → ℕ) (order : List Criterion) (rest : List ℕ) (caps : Values)
    (body : List ℕ) : Type 0 where
  pub small : AreSmallCaps caps
  pub range : AreInRange greatest order caps
  pub spelled : rest ≡ ended_caps caps ++ body

-- what a checker of ROOM words keeps of lines that it accepted
abbrev pub facts_for : Expectation → HintLines → HintFacts
facts_for e lines = record { room = ROOM; clauses = clauses_with e lines; refuted = flat_map refuted_of lines }

-- the lines are accepted, and this is kept of them
pub record HasAcceptedHints (e : Expectation) (lines : HintLines) (kept : HintFacts) : Type 0 where
  pub accepted : AreAcceptedHints e lines
  pub kept_is : kept ≡ facts_for e lines

-- no line came yet, and these are the bounds of what is expected
pub record HasBegun (e : Expectation) (kept : HintFacts) (bounds : List ToldBound) : Type 0 where
  pub none : HasAcceptedHints e [] kept
  pub alone : AreClauseLines e.lines
  pub bounds_are : bounds ≡ flat_map told_bound e.lines

-- this is what is expected, with so many bounds, and it is within the limits
pub record IsExpectingWithin (y : Layout) (order : List Criterion) (cap : Criterion → ℕ) (e : Encoding)
    (parts : List Part) : Type 0 where
  pub expecting : IsExpecting y order cap e parts
  pub fits : PassesLimits (expectation y order cap) → ⊥

-- all lines are accepted up to one that is refused, or whose text has a fault
abbrev pub AreHintsStopped : Expectation → List ℕ → HintsVerdict → Type 0
AreHintsStopped e body (Refused why number) = IsHintRefused e body why number
AreHintsStopped e body (Faulty what number) = IsHintFaulty e body what number
AreHintsStopped e body verdict = ⊥

-- the claim is certified by these lines, or lacks this place first
abbrev pub AreHintsJudged : (Criterion → ℕ) → Lines → List Criterion → Claim → HintsVerdict → Type 0
AreHintsJudged greatest log order claim Certified = CertifiesClaim greatest log order claim
AreHintsJudged greatest log order claim (Lacks place) = LacksAt greatest log order claim place
AreHintsJudged greatest log order claim verdict = ⊥

-- the text behind the caps is judged up to its end, or to a line that is refused or faulty
abbrev pub IsBodyJudged : (Criterion → ℕ) → List Criterion → Claim → Expectation → List ℕ → HintsVerdict → Type 0
IsBodyJudged greatest order claim e body verdict =
    ((lines : HintLines) × AcceptsHints e body lines []
    × AreHintsJudged greatest (log_of e.lines lines) order claim verdict)
    ⊎ AreHintsStopped e body verdict
