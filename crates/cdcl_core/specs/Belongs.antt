-- Logs that belong to a solver, and the lines that a search tells.
use Rattle.std.specs.Prelude.{◌≡◌, ◌≤◌, ◌⊎◌, ℕ, List, [], ◌∷◌, ◌++◌, All, Contains, length, map}
use Rattle.cnf_core.specs.Lit.{Literal, negate}
use Rattle.cnf_core.specs.Clause.{Clauses, words_of}
use Rattle.cnf_core.specs.Propagation.{AreAmong}
use Rattle.outside_io.specs.Counts.{rose_by}
use Rattle.refute_log.specs.declared.line.LogLine.TheVariants.{Formula, Learnt, Query, Refuted as RefutedLine}
use Rattle.refute_log.specs.declared.line.LogLine.TheVariants.{Model as ModelLine}
use Rattle.refute_log.specs.Lines.{MayAllBeTold}
use Rattle.refute_log.specs.Told.{Lines}
use Rattle.refute_log.specs.Log.{facts_of, clause_lines, Derives, Due}
use Rattle.cdcl_core.specs.declared.answer.Answer.{Answer}
use Rattle.cdcl_core.specs.declared.answer.Answer.TheVariants.{Model, Refuted, Spent, Room}
use Rattle.cdcl_core.specs.Kept.{Kept, HasLearnt}

-- a log of these lines belongs to a solver that keeps these clauses, of so many words: the lines may
-- be told and derive, and each Learnt line was due; each of their clauses is kept, as a set of literals; each kept
-- clause is one of theirs; the words add up
pub record BelongsTo (lines : Lines) (clauses : Clauses) (count : ℕ) : Type 0 where
  pub formed : MayAllBeTold lines
  pub derives : Derives lines
  pub due : Due lines
  pub told : AreAmong (facts_of lines).clauses clauses
  pub all : AreAmong clauses (facts_of lines).clauses
  pub words : count ≡ words_of (facts_of lines).clauses

-- a log of these lines belongs to this solver
abbrev pub Belongs : Lines → Kept → Type 0
Belongs lines k = BelongsTo lines k.clauses k.words

-- whatever is told after an error has the Formula and Bound lines of what was told before, or these and a Formula line
-- of this clause behind them
abbrev pub GivesAtMost : (Lines → Type 0) → (Lines → Type 0) → List Literal → Type 0
GivesAtMost before now c = (lines : Lines) → before lines → (more : Lines) → now more →
    (clause_lines more ≡ clause_lines lines) ⊎ (clause_lines more ≡ clause_lines lines ++ Formula c ∷ [])

-- no more Learnt lines than these were counted
pub record HasCounted (budget before_count now_count : ℕ) : Type 0 where
  pub number : ℕ
  pub few : number ≤ budget
  pub counted : now_count ≡ rose_by number before_count

-- the lines of a search: the query, what was learnt, and how it ended
abbrev pub search_lines : List Literal → Clauses → Lines → Lines
search_lines assume learnt ending = Query assume ∷ (map Learnt learnt ++ ending)

-- a Refuted line has negations of assumptions alone
pub record IsRefutedLine (assume : List Literal) (ending : Lines) : Type 0 where
  pub clause : List Literal
  pub is : ending ≡ RefutedLine clause ∷ []
  pub answers : All (λ l. Contains assume (negate l)) clause

-- how the lines of a search end: with a Model line, with a Refuted line, or with no line more
abbrev pub EndsWith : Answer → List Literal → Lines → Type 0
EndsWith Model assume ending = ending ≡ ModelLine ∷ []
EndsWith Refuted assume ending = IsRefutedLine assume ending
EndsWith Spent assume ending = ending ≡ []
EndsWith Room assume ending = ending ≡ []

-- as many clauses were learnt as the budget allows where the answer is Spent, and no more than that
-- otherwise
abbrev pub HasSpent : Answer → ℕ → ℕ → Type 0
HasSpent Model budget n = n ≤ budget
HasSpent Refuted budget n = n ≤ budget
HasSpent Spent budget n = n ≡ budget
HasSpent Room budget n = n ≤ budget

-- what a search with an answer has told to a log, and left of the solver
pub record HasSolved (before now : Lines → Type 0) (assume : List Literal) (old new : Kept) (answer : Answer)
    (budget before_count now_count : ℕ) : Type 0 where
  pub learnt : Clauses
  pub ending : Lines
  pub kept : HasLearnt old new learnt
  pub spent : HasSpent answer budget (length learnt)
  pub counted : now_count ≡ rose_by (length learnt) before_count
  pub ends : EndsWith answer assume ending
  pub told : (lines : Lines) → before lines → now (lines ++ search_lines assume learnt ending)
  pub belongs : (lines : Lines) → Belongs lines old → Belongs (lines ++ search_lines assume learnt ending) new
