-- Questions as assumptions of the solver.
use Rattle.std.specs.Prelude.{◌≡◌, ◌≤◌, ⊤, ◌+◌, List, [], ◌∷◌, ◌++◌, Contains}
use Rattle.cnf_core.specs.declared.literal.Var.{Var}
use Rattle.cnf_core.specs.Lit.{Literal, negative_of}
use Rattle.drawing_cnf.specs.Bounded.{Bound}
use Rattle.cdcl_core.specs.declared.answer.Answer.{Answer}
use Rattle.cdcl_core.specs.declared.answer.Answer.TheVariants.{Model as ModelAnswer, Refuted as RefutedAnswer}
use Rattle.cdcl_core.specs.declared.answer.Answer.TheVariants.{Spent as SpentAnswer, Room as RoomAnswer}
use Rattle.refute_log.specs.declared.line.LogLine.TheVariants.{Refuted as RefutedLine, Model as ModelLine}
use Rattle.refute_log.specs.Told.{Lines}
use Rattle.search_least.specs.declared.oracle.Below.{Below}
use Rattle.search_least.specs.declared.oracle.Reply.{Reply}
use Rattle.search_least.specs.declared.oracle.Reply.TheVariants.{Found, Refuted, Stopped}
use Rattle.refute_log.specs.declared.stop.Stop.TheVariants.{BudgetSpent, RoomFull}
use Rattle.search_least.specs.Task.{Task, greatest_of}
use Rattle.refute_log.specs.Cause.{IsCause}
use Rattle.search_least.specs.Asked.{IsAsked, AreAgainst}

-- the bound is of the criterion, and goes as far as the limit
abbrev pub HasLimit : Below → Bound → Type 0
HasLimit b bound = (bound.criterion ≡ b.criterion) × (b.limit ≤ bound.cap)

-- the variable of a told bound that says "the value is at least the limit"
pub record IsLimitOf (told : List Bound) (b : Below) (x : Var) : Type 0 where
  pub bound : Bound
  pub among : Contains told bound
  pub same : bound.criterion ≡ b.criterion
  pub from : 1 ≤ b.limit
  pub to : b.limit ≤ bound.cap
  pub is : x.0 ≡ bound.last + b.limit

-- the literal says that the value is below the limit
abbrev pub IsAssumed : List Bound → Below → Literal → Type 0
IsAssumed told b l = (x : Var) × IsLimitOf told b x × (l ≡ negative_of x.0)

-- the literals say so of each limit, in their order
abbrev pub AreAssumed : List Bound → List Below → List Literal → Type 0
AreAssumed told [] [] = ⊤
AreAssumed told [] (l ∷ ls) = ⊥
AreAssumed told (b ∷ bs) [] = ⊥
AreAssumed told (b ∷ bs) (l ∷ ls) = IsAssumed told b l × AreAssumed told bs ls

-- the lines of a question that the solver answered so
abbrev pub TellsAnswer : Task → Lines → List Below → Answer → Lines → Type 0
TellsAnswer p lines bounds ModelAnswer more = IsAsked lines bounds (ModelLine ∷ []) more
TellsAnswer p lines bounds RefutedAnswer more =
    (clause : List Literal) × AreAgainst (greatest_of p) lines bounds clause
    × IsAsked lines bounds (RefutedLine clause ∷ []) more
TellsAnswer p lines bounds SpentAnswer more = IsAsked lines bounds [] more
    × IsCause p.budget p.room BudgetSpent (lines ++ more)
TellsAnswer p lines bounds RoomAnswer more = IsAsked lines bounds [] more
    × IsCause p.budget p.room RoomFull (lines ++ more)

-- the reply is of that answer
abbrev pub IsReplyOf : Answer → Reply → Type 0
IsReplyOf ModelAnswer (Found d) = ⊤
IsReplyOf RefutedAnswer Refuted = ⊤
IsReplyOf SpentAnswer (Stopped BudgetSpent) = ⊤
IsReplyOf RoomAnswer (Stopped RoomFull) = ⊤
IsReplyOf answer reply = ⊥
