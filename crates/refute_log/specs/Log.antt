-- Logs: the clauses of their lines, which lines stand, and which logs derive.
use Rattle.std.specs.Prelude.{◌≡◌, ◌≤◌, ℕ, min, max, ⊤, Option, Some, None, MatchOption, List, [], ◌∷◌, ◌++◌, length}
use Rattle.std.specs.Prelude.{All, Contains, flat_map, fold, take, slice_get}
use Rattle.outside_io.specs.Counts.{last_count}
use Rattle.cnf_core.specs.Lit.{Literal, negate, has}
use Rattle.cnf_core.specs.Clause.{Clauses, HasAllOf}
use Rattle.cnf_core.specs.Propagation.{Falsifies, Rup, IsNew, greatest_var}
use Rattle.refute_log.specs.declared.line.LogLine.{LogLine}
use Rattle.refute_log.specs.declared.line.LogLine.TheVariants.{Formula, Learnt, Bound, Query, Refuted}
use Rattle.refute_log.specs.Told.{Lines}

-- the clauses that one line adds to what further lines follow from
abbrev pub added : LogLine → Clauses
added (Formula c) = c ∷ []
added (Learnt c) = c ∷ []
added line = []

-- the clause of a Formula line
abbrev pub given : LogLine → Clauses
given (Formula c) = c ∷ []
given line = []

-- the clause of a Learnt line
abbrev pub learnt : LogLine → Clauses
learnt (Learnt c) = c ∷ []
learnt line = []

-- the clause of a Refuted line
abbrev pub refuted : LogLine → Clauses
refuted (Refuted c) = c ∷ []
refuted line = []

-- the line, where it is a Formula or Bound line
abbrev pub clause_line : LogLine → Lines
clause_line (Formula c) = Formula c ∷ []
clause_line (Bound c k x) = Bound c k x ∷ []
clause_line line = []

-- the Formula and Bound lines of a log, in their order
abbrev pub clause_lines : Lines → Lines
clause_lines lines = flat_map clause_line lines

-- the first list begins the second
abbrev pub BeginsLines : Lines → Lines → Type 0
BeginsLines front lines = (rest : Lines) × (lines ≡ front ++ rest)

-- a Refuted line with only allowed literals
abbrev pub IsRefutedWithin : List Literal → LogLine → Type 0
IsRefutedWithin allowed (Refuted c) = HasAllOf allowed c
IsRefutedWithin allowed line = ⊥

-- how many Learnt lines there are, up to 2^64 - 1
abbrev pub learnt_count : Lines → ℕ
learnt_count lines = min (length (flat_map learnt lines)) last_count

-- the query after a line
abbrev pub asked : Option (List Literal) → LogLine → Option (List Literal)
asked query (Query c) = Some c
asked query line = query

-- what of the lines so far a further line is judged by: the greatest variable of their Formula
-- lines, their Formula and Learnt clauses, their latest query, and their Refuted clauses
pub record Facts : Type 0 where
  pub greatest : ℕ
  pub clauses : Clauses
  pub query : Option (List Literal)
  pub refuted : Clauses

-- the facts of these lines
abbrev pub facts_of : Lines → Facts
facts_of lines = record {
  greatest = greatest_var (flat_map given lines);
  clauses = flat_map added lines;
  query = fold asked None lines;
  refuted = flat_map refuted lines;
}

-- the facts with one more line
abbrev pub facts_after : Facts → LogLine → Facts
facts_after facts line = record {
  greatest = max facts.greatest (greatest_var (given line));
  clauses = facts.clauses ++ added line;
  query = asked facts.query line;
  refuted = facts.refuted ++ refuted line;
}

-- the literals of a line that may name no further variable
abbrev pub bounded : LogLine → List Literal
bounded (Learnt c) = c
bounded (Query c) = c
bounded (Refuted c) = c
bounded line = []

-- each literal is the negation of one of the query
abbrev pub Answers : Option (List Literal) → LogLine → Type 0
Answers query (Refuted c) = MatchOption query ⊥ (λ q. All (λ l. Contains q (negate l)) c)
Answers query line = ⊤

-- the clause of a Learnt or Refuted line follows by unit propagation
abbrev pub IsImplied : Clauses → LogLine → Type 0
IsImplied clauses (Learnt c) = Rup clauses c
IsImplied clauses (Refuted c) = Rup clauses c
IsImplied clauses line = ⊤

-- the clause has a literal and is new: it names no variable above the greatest of the clauses, and where
-- its literals but the first are false, propagation falsifies no clause and doesn't make the first true
abbrev pub IsNewClause : Clauses → List Literal → Type 0
IsNewClause clauses [] = ⊥
IsNewClause clauses (first ∷ others) = IsNew clauses first others

-- the clause of a Learnt line is new
abbrev pub SaysMore : Clauses → LogLine → Type 0
SaysMore clauses (Learnt c) = IsNewClause clauses c
SaysMore clauses line = ⊤

-- the line stands after lines of these facts: it names no variable greater than all in their
-- Formula lines, a Refuted line answers the latest query, a Learnt or Refuted line follows by unit
-- propagation, and a Learnt line is new
pub record StandsOn (facts : Facts) (line : LogLine) : Type 0 where
  pub named : All (λ l. l.var ≤ facts.greatest) (bounded line)
  pub answers : Answers facts.query line
  pub implied : IsImplied facts.clauses line
  pub says_more : SaysMore facts.clauses line

-- the line stands on the facts of these lines, which are those before it
abbrev pub Stands : Lines → LogLine → Type 0
Stands lines line = StandsOn (facts_of lines) line

-- each line stands after those before it
abbrev pub Derives : Lines → Type 0
Derives lines = (i : ℕ) (line : LogLine) → slice_get lines i ≡ Some line → Stands (take i lines) line

-- there is a query, and its literals falsify no clause
abbrev pub IsOpen : Facts → Type 0
IsOpen facts = MatchOption facts.query ⊥ (λ q. Falsifies facts.clauses (has q) → ⊥)

-- the log of these lines is open: it has a query, and the literals of the latest one falsify no clause by
-- unit propagation
abbrev pub Open : Lines → Type 0
Open lines = IsOpen (facts_of lines)

-- each Learnt line comes where the latest query is open
abbrev pub Due : Lines → Type 0
Due lines = (i : ℕ) (c : List Literal) → slice_get lines i ≡ Some (Learnt c) → Open (take i lines)
