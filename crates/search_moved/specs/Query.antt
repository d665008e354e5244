-- A question as an assumption of the solver, and which reply is of which answer.
use Rattle.std.specs.Prelude.{⊤, ℕ, ◌+◌, List, [], ◌∷◌, Option, None, Some}
use Rattle.cnf_core.specs.Lit.{Literal, negative_of}
use Rattle.cdcl_core.specs.declared.answer.Answer.{Answer as Verdict}
use Rattle.cdcl_core.specs.declared.answer.Answer.TheVariants.{Model, Refuted as RefutedVerdict, Spent, Room}
use Rattle.refute_log.specs.declared.stop.Stop.TheVariants.{BudgetSpent, RoomFull}
use Rattle.search_least.specs.declared.questions.Answer.{Answer}
use Rattle.search_least.specs.declared.questions.Answer.TheVariants.{Found, Refuted, Stopped}

-- the question as an assumption: the negation of the variable that stands as far behind the last as the
-- limit says; nothing where there is no limit
abbrev pub query_at : ℕ → Option ℕ → List Literal
query_at last None = []
query_at last (Some n) = negative_of (last + n) ∷ []

-- the answer to the question is of this answer of the solver
abbrev pub IsAnswerOf : Verdict → Answer → Type 0
IsAnswerOf Model (Found d) = ⊤
IsAnswerOf RefutedVerdict Refuted = ⊤
IsAnswerOf Spent (Stopped BudgetSpent) = ⊤
IsAnswerOf Room (Stopped RoomFull) = ⊤
IsAnswerOf verdict answer = ⊥
