-- Why a search stopped.
use Rattle.std.specs.Prelude.{◌≡◌, ℕ, List, ◌∷◌, ◌++◌, map, length, flat_map}
use Rattle.cnf_core.specs.Lit.{Literal}
use Rattle.cnf_core.specs.Clause.{Clauses}
use Rattle.refute_log.specs.declared.line.LogLine.TheVariants.{Learnt, Query}
use Rattle.refute_log.specs.Told.{Lines}
use Rattle.refute_log.specs.Log.{learnt, Open}
use Rattle.refute_log.specs.declared.stop.Stop.{Stop}
use Rattle.refute_log.specs.declared.stop.Stop.TheVariants.{BudgetSpent, RoomFull}
use Rattle.refute_log.specs.Full.{NextClausePasses}

-- the latest query has no answer: only Learnt lines are behind it
pub record IsUnanswered (lines : Lines) : Type 0 where
  pub before : Lines
  pub query : List Literal
  pub clauses : Clauses
  pub is : lines ≡ before ++ Query query ∷ map Learnt clauses

-- why a search of these lines stopped in a question, which has no answer: the whole budget of learnt clauses is spent,
-- and the latest query is open; or one more clause has no room
abbrev pub IsCause : (budget room : ℕ) → Stop → Lines → Type 0
IsCause budget room BudgetSpent lines = IsUnanswered lines × (length (flat_map learnt lines) ≡ budget) × Open lines
IsCause budget room RoomFull lines = IsUnanswered lines × NextClausePasses lines room
