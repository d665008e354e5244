-- What a search tells, round by round.
use Rattle.std.specs.Prelude.{◌≡◌, ℕ, Option, Some, MatchOption, List, [], ◌∷◌, ◌++◌, length, map}
use Rattle.cnf_core.specs.Lit.{Literal}
use Rattle.cnf_core.specs.Clause.{Clauses}
use Rattle.outside_io.specs.Counts.{next_count, rose_by}
use Rattle.refute_log.specs.declared.line.LogLine.{LogLine}
use Rattle.refute_log.specs.declared.line.LogLine.TheVariants.{Formula, Learnt, Bound, Query, Refuted as RefutedLine}
use Rattle.refute_log.specs.declared.line.LogLine.TheVariants.{Model as ModelLine}
use Rattle.refute_log.specs.Lines.{MayBeTold}
use Rattle.refute_log.specs.Told.{Lines, AddsLine}
use Rattle.refute_log.specs.Log.{facts_of, clause_lines, Derives}
use Rattle.cdcl_core.specs.declared.search.Search.{Search}
use Rattle.cdcl_core.specs.declared.answer.Answer.{Answer}
use Rattle.cdcl_core.specs.Kept.{IsDeduced, IsOpenQuery, HasLearnt, AreGiven}
use Rattle.cdcl_core.specs.Belongs.{BelongsTo, EndsWith, HasSpent, HasSolved}
use Rattle.cdcl_core.specs.Search.{clauses, seen, IsSameStore, IsSearchAnswer}

-- the literals of a line's clause; none where it has no clause
abbrev pub line_clause : LogLine → List Literal
line_clause (Formula c) = c
line_clause (Learnt c) = c
line_clause (Bound criterion k x) = []
line_clause (Query c) = c
line_clause (RefutedLine c) = c
line_clause ModelLine = []

-- the lines belong to a solver, and the latest query is this one
pub record BelongsAt (query : List Literal) (lines : Lines) (cs : Clauses) (count : ℕ) : Type 0 where
  pub belongs : BelongsTo lines cs count
  pub asked : (facts_of lines).query ≡ Some query

-- what is told after an error derives, where P held of what was told before, and has no further Formula or Bound line
pub record IsBrokenOff (P : Lines → Type 0) (lines more : Lines) : Type 0 where
  pub derives : P lines → Derives more
  pub gives : clause_lines more ≡ clause_lines lines

abbrev pub BreaksOff : (Lines → Type 0) → (Lines → Type 0) → (Lines → Type 0) → Type 0
BreaksOff before now P = (lines : Lines) → before lines → (more : Lines) → now more → IsBrokenOff P lines more

-- the same where what was told before belonged to the search, and where it asked this besides
abbrev pub BreaksOffLog : (Lines → Type 0) → (Lines → Type 0) → Search → Type 0
BreaksOffLog before now s = BreaksOff before now (λ lines. BelongsTo lines (clauses s) s.words)

abbrev pub BreaksOffAt : (Lines → Type 0) → (Lines → Type 0) → List Literal → Search → Type 0
BreaksOffAt before now query s = BreaksOff before now (λ lines. BelongsAt query lines (clauses s) s.words)

-- one clause was learnt, which may be told, where the query was open
pub record LearnsOne (before now : Lines → Type 0) (count after : ℕ) (query : List Literal) (old new : Search) : Type 0
  where
    pub clause : List Literal
    pub formed : MayBeTold (Learnt clause)
    pub deduced : IsDeduced (clauses old) clause
    pub open_ : IsOpenQuery (clauses old) query
    pub kept : HasLearnt (seen old) (seen new) (clause ∷ [])
    pub told : AddsLine before now (Learnt clause)
    pub counted : after ≡ next_count count

-- the search ended with an answer
pub record EndsSo (before now : Lines → Type 0) (count after : ℕ) (query : List Literal) (old new : Search)
    (answer : Answer) : Type 0 where
  pub store : IsSameStore old new
  pub says : IsSearchAnswer answer query new
  pub ending : Lines
  pub ends : EndsWith answer query ending
  pub told : (lines : Lines) → before lines → now (lines ++ ending)
  pub belongs : (lines : Lines) → BelongsAt query lines (clauses old) old.words →
      BelongsTo (lines ++ ending) (clauses new) new.words
  pub counted : after ≡ count

-- a clause was learnt, or the search ended with an answer
abbrev pub LearnsOrEnds : (before now : Lines → Type 0) (count after : ℕ) (query : List Literal) (old new : Search) →
    Option Answer → Type 0
LearnsOrEnds before now count after query old new answer =
    MatchOption answer (LearnsOne before now count after query old new) (EndsSo before now count after query old new)

-- so many clauses were learnt, each where the query was open
pub record HasGone (before now : Lines → Type 0) (count after : ℕ) (query : List Literal) (old new : Search) (n : ℕ) :
    Type 0 where
  pub learnt : Clauses
  pub many : length learnt ≡ n
  pub kept : HasLearnt (seen old) (seen new) learnt
  pub given : (cs : Clauses) → AreGiven cs (clauses old) → AreGiven cs (clauses new)
  pub told : (lines : Lines) → before lines → now (lines ++ map Learnt learnt)
  pub belongs : (lines : Lines) → BelongsAt query lines (clauses old) old.words →
      BelongsAt query (lines ++ map Learnt learnt) (clauses new) new.words
  pub counted : after ≡ rose_by n count

-- so many clauses were learnt at most, and then the search ended
pub record EndsAfter (before now : Lines → Type 0) (count after : ℕ) (query : List Literal) (old new : Search)
    (answer : Answer) (budget : ℕ) : Type 0 where
  pub learnt : Clauses
  pub kept : HasLearnt (seen old) (seen new) learnt
  pub spent : HasSpent answer budget (length learnt)
  pub given : (cs : Clauses) → AreGiven cs (clauses old) → AreGiven cs (clauses new)
  pub says : IsSearchAnswer answer query new
  pub ending : Lines
  pub ends : EndsWith answer query ending
  pub told : (lines : Lines) → before lines → now (lines ++ (map Learnt learnt ++ ending))
  pub belongs : (lines : Lines) → BelongsAt query lines (clauses old) old.words →
      BelongsTo (lines ++ (map Learnt learnt ++ ending)) (clauses new) new.words
  pub counted : after ≡ rose_by (length learnt) count

-- the same behind the query's line
pub record EndsBehindQuery (before now : Lines → Type 0) (count after : ℕ) (query : List Literal) (old new : Search)
    (answer : Answer) (budget : ℕ) : Type 0 where
  pub searched : HasSolved before now query (seen old) (seen new) answer budget count after
  pub given : (cs : Clauses) → AreGiven cs (clauses old) → AreGiven cs (clauses new)
  pub says : IsSearchAnswer answer query new
