-- What is so in between two questions.
use Rattle.std.specs.Prelude.{◌≡◌, ℕ, List, [], ◌++◌, Contains}
use Rattle.cnf_core.specs.Lit.{Literal}
use Rattle.refute_log.specs.declared.line.LogLine.TheVariants.{Refuted}
use Rattle.refute_log.specs.Told.{Lines}
use Rattle.refute_log.specs.Log.{clause_lines}
use Rattle.search_least.specs.declared.fewest.Fewest.{Fewest}
use Rattle.search_least.specs.CountTask.{CountTask}
use Rattle.search_least.specs.CountPlaced.{HasComeTo, AreCountsAsked}
use Rattle.search_least.specs.Fewest.{IsEnd}

-- no line refutes anything
abbrev pub RefutesNothing : Lines → Type 0
RefutesNothing lines = (clause : List Literal) → Contains lines (Refuted clause) → ⊥

-- the lines stand where they may, and the search has come to this number
pub record IsAskedDownTo (p : CountTask) (n : ℕ) (lines : Lines) : Type 0 where
  pub placed : AreCountsAsked p lines
  pub comes : HasComeTo p lines n

-- a run of questions with drawings as answers, from the first number down to the last, tells no clauses and refutes
-- nothing, and its lines stand where they may
pub record IsRunOfDrawings (p : CountTask) (first last : ℕ) (lines more : Lines) : Type 0 where
  pub none : clause_lines more ≡ []
  pub nothing : RefutesNothing lines → RefutesNothing (lines ++ more)
  pub placed : IsAskedDownTo p first lines → IsAskedDownTo p last (lines ++ more)

-- a run of questions from the first number to this end tells no clauses of the formula; where the search has come to
-- that number, its lines stand where they may, and where the lines before it refute nothing, all together have this end
pub record IsRunToEnd (p : CountTask) (first : ℕ) (outcome : Fewest) (lines more : Lines) : Type 0 where
  pub none : clause_lines more ≡ []
  pub end : RefutesNothing lines → IsAskedDownTo p first lines → IsEnd p outcome (lines ++ more)
  pub placed : IsAskedDownTo p first lines → AreCountsAsked p (lines ++ more)
