-- Why a line of a log is refused after lines that are accepted.
use Rattle.std.specs.Prelude.{◌≡◌, ◌≢◌, ◌⊎◌, ℕ, List, [], ◌∷◌, ◌++◌, codes, false}
use Rattle.cnf_core.specs.declared.limits.TheConstants.{ROOM}
use Rattle.refute_log.specs.declared.line.LogLine.{LogLine}
use Rattle.refute_log.specs.Told.{Lines}
use Rattle.refute_log.specs.Log.{facts_of, clause_line, clause_lines, BeginsLines}
use Rattle.refute_check.specs.Kept.{CheckedFacts, NamesNew, AnswersWrongly, PassesRoom, IsUnproved, IsOld}
use Rattle.log_check.specs.declared.verdict.Refusal.{Refusal}
use Rattle.log_check.specs.declared.verdict.Refusal.TheVariants.{Room, Differs, NewVar, WrongQuery, NotImplied, NotNew}
use Rattle.log_check.specs.Expectation.{Expectation, PassesLimits}

-- it is the first Formula or Bound line, and what is expected passes the limits
pub record IsOverLimits (e : Expectation) (before : Lines) (line : LogLine) : Type 0 where
  pub compared : clause_line line ≢ []
  pub first : clause_lines before ≡ []
  pub passes : PassesLimits e

-- with it the Formula and Bound lines still begin what is expected
abbrev pub IsNextExpected : Expectation → Lines → LogLine → Type 0
IsNextExpected e before line = BeginsLines (clause_lines (before ++ line ∷ [])) e.lines

-- neither is wrong with it, so that the checker judges it
pub record IsComparedLine (e : Expectation) (before : Lines) (line : LogLine) : Type 0 where
  pub within : IsOverLimits e before line → ⊥
  pub expected : IsNextExpected e before line

-- what a checker of ROOM words keeps of lines that it accepted
abbrev pub kept_of_lines : Lines → CheckedFacts
kept_of_lines lines = record { room = ROOM; facts = facts_of lines; lost = false }

-- where there are several causes: no room for what is expected, another line than the next, and then the checker's
-- causes, of which want of room comes behind a wrong answer to the query
abbrev pub IsRefusedFor : Expectation → Lines → LogLine → Refusal → Type 0
IsRefusedFor e before line Room =
    IsOverLimits e before line ⊎ (IsComparedLine e before line × PassesRoom (kept_of_lines before) line)
IsRefusedFor e before line Differs = (IsOverLimits e before line → ⊥) × (IsNextExpected e before line → ⊥)
IsRefusedFor e before line NewVar = IsComparedLine e before line × NamesNew (facts_of before) line
IsRefusedFor e before line WrongQuery = IsComparedLine e before line × AnswersWrongly (kept_of_lines before) line
IsRefusedFor e before line NotImplied = IsComparedLine e before line × IsUnproved (kept_of_lines before) line
IsRefusedFor e before line NotNew = IsComparedLine e before line × IsOld (kept_of_lines before) line

-- ---- the words

-- a refusal's word, as the line of a verdict has it
abbrev pub word_of : Refusal → List ℕ
word_of Room = codes "Room"
word_of Differs = codes "Differs"
word_of NewVar = codes "NewVar"
word_of WrongQuery = codes "WrongQuery"
word_of NotImplied = codes "NotImplied"
word_of NotNew = codes "NotNew"
