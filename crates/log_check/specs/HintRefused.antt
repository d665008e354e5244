-- Why a hinted line is refused after lines that are accepted, and what is wrong with the text of the next line.
use Rattle.std.specs.Prelude.{◌≡◌, ◌≢◌, ◌<◌, ◌⊎◌, ℕ, List, [], ◌∷◌, ◌++◌, codes}
use Rattle.plan_core.specs.declared.criterion.Criterion.{Criterion}
use Rattle.cnf_core.specs.declared.limits.TheConstants.{ROOM}
use Rattle.cnf_core.specs.Clause.{words_of}
use Rattle.outside_io.specs.Fields.{LacksByte, IsCutAt}
use Rattle.hint_log.specs.declared.hint_line.HintLine.{HintLine}
use Rattle.hint_log.specs.Hint.{IsGood}
use Rattle.hint_log.specs.HintedLines.{HintLines}
use Rattle.hint_log.specs.declared.text_fault.HintsWhat.{HintsWhat}
use Rattle.hint_log.specs.declared.text_fault.HintsWhat.TheVariants as whats
use Rattle.hint_log.specs.HintFaults.{HasHintTextFault}
use Rattle.hint_log.specs.Caps.{HasCapsFault}
use Rattle.log_check.specs.Expectation.{Expectation}
use Rattle.log_check.specs.declared.hint_verdict.HintRefusal.{HintRefusal}
use Rattle.log_check.specs.declared.hint_verdict.HintRefusal.TheVariants.{BadHint, Room}
use Rattle.log_check.specs.HintAccepted.{clauses_with}

-- the line isn't good; or it is, and with its clause the words pass the room
abbrev pub IsHintRefusedFor : Expectation → HintLines → HintLine → HintRefusal → Type 0
IsHintRefusedFor e before line BadHint = IsGood (clauses_with e before) line → ⊥
IsHintRefusedFor e before line Room = IsGood (clauses_with e before) line
    × (ROOM < words_of (clauses_with e (before ++ line ∷ [])))

-- the next line has this fault, or has no line feed
abbrev pub HasNextHintFault : List ℕ → HintsWhat → Type 0
HasNextHintFault rest what =
    ((text : List ℕ) × (more : List ℕ) × IsCutAt 10 rest text more × HasHintTextFault text what)
    ⊎ ((what ≡ whats.Form) × (rest ≢ []) × LacksByte 10 rest)

-- the line of the caps has this fault, or is missing, or has no line feed
abbrev pub HasNextCapsFault : (Criterion → ℕ) → List Criterion → List ℕ → HintsWhat → Type 0
HasNextCapsFault greatest order rest what =
    ((text : List ℕ) × (more : List ℕ) × IsCutAt 10 rest text more × HasCapsFault greatest order text what)
    ⊎ ((what ≡ whats.Form) × LacksByte 10 rest)

-- a refusal's word, as the line of a verdict has it
abbrev pub word_of : HintRefusal → List ℕ
word_of BadHint = codes "BadHint"
word_of Room = codes "Room"
