-- One question, and the lines that it tells.
use Rattle.std.specs.Prelude.{◌≡◌, ◌≤◌, ◌<◌, ⊤, ℕ, List, [], ◌∷◌, ◌++◌, All, map, Option, None, Some, MatchOption}
use Rattle.cnf_core.specs.Lit.{Literal, negate}
use Rattle.cnf_core.specs.Clause.{Clauses}
use Rattle.refute_log.specs.declared.line.LogLine.TheVariants.{Learnt, Query, Refuted as RefutedLine, Model}
use Rattle.refute_log.specs.Told.{Lines}
use Rattle.refute_log.specs.Cause.{IsCause}
use Rattle.search_least.specs.declared.questions.Answer.{Answer}
use Rattle.search_least.specs.declared.questions.Answer.TheVariants.{Found, Refuted, Stopped}
use Rattle.search_least.specs.CountTask.{CountTask, IsOne}

-- a count is below the limit, where there is one
abbrev pub IsBelow : Option ℕ → ℕ → Type 0
IsBelow None n = ⊤
IsBelow (Some limit) n = n < limit

-- where there is a limit, it is a number that has a literal
abbrev pub IsLimit : CountTask → Option ℕ → Type 0
IsLimit p limit = MatchOption limit ⊤ (λ k. (1 ≤ k) × (k ≤ p.most))

-- as a query
abbrev pub query_of : CountTask → Option ℕ → List Literal
query_of p None = []
query_of p (Some limit) = negate (p.at_least limit) ∷ []

-- the literal says that the limit is reached
abbrev pub SaysReached : CountTask → Option ℕ → Literal → Type 0
SaysReached p None l = ⊥
SaysReached p (Some limit) l = l ≡ p.at_least limit

-- the lines are this query, learnt clauses, and this end
pub record IsAsked (p : CountTask) (limit : Option ℕ) (ending more : Lines) : Type 0 where
  pub clauses : Clauses
  pub is : more ≡ Query (query_of p limit) ∷ (map Learnt clauses ++ ending)

-- the lines of a question with this answer: the query, Learnt lines, and a Model line, a Refuted line that
-- has no literal but the limit's, or nothing, where the search stopped for its cause
abbrev pub IsAnswer : CountTask → Lines → Option ℕ → Answer → Lines → Type 0
IsAnswer p lines limit (Found d) more = IsAsked p limit (Model ∷ []) more
IsAnswer p lines limit Refuted more =
    (clause : List Literal) × All (SaysReached p limit) clause × IsAsked p limit (RefutedLine clause ∷ []) more
IsAnswer p lines limit (Stopped stop) more = IsAsked p limit [] more × IsCause p.budget p.room stop (lines ++ more)

-- a drawing that is found is one, and below the limit
abbrev pub IsRightAnswer : CountTask → Option ℕ → Answer → Type 0
IsRightAnswer p limit (Found d) = IsOne p d × IsBelow limit (p.count d)
IsRightAnswer p limit Refuted = ⊤
IsRightAnswer p limit (Stopped stop) = ⊤
