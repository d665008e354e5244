-- One question to the solver: its bounds, and the lines that it tells.
use Rattle.std.specs.Prelude.{◌≡◌, ◌≢◌, ◌≤◌, ◌<◌, ⊤, ℕ, List, [], ◌∷◌, ◌++◌, All, AllPairs, Any, Contains, map, fold}
use Rattle.std.specs.Prelude.{Option, None, Some, MatchOption}
use Rattle.plan_core.specs.declared.criterion.Values.{Values}
use Rattle.plan_core.specs.declared.criterion.Criterion.{Criterion}
use Rattle.plan_core.specs.Values.{values_of, value_of}
use Rattle.cnf_core.specs.declared.literal.Var.{Var}
use Rattle.cnf_core.specs.Lit.{Literal, negative_of}
use Rattle.cnf_core.specs.Clause.{Clauses}
use Rattle.refute_log.specs.declared.line.LogLine.{LogLine}
use Rattle.refute_log.specs.declared.line.LogLine.TheVariants.{Learnt, Bound, Query, Refuted as RefutedLine, Model}
use Rattle.refute_log.specs.Told.{Lines}
use Rattle.refute_log.specs.Bounds.{SaysAtLeast}
use Rattle.refute_log.specs.Cause.{IsCause}
use Rattle.search_least.specs.declared.oracle.Below.{Below}
use Rattle.search_least.specs.declared.oracle.Reply.{Reply}
use Rattle.search_least.specs.declared.oracle.Reply.TheVariants.{Found, Refuted, Stopped}
use Rattle.search_least.specs.Task.{Task, IsLawful, greatest_of}

-- "the value of the criterion is below the limit"
abbrev pub below_limit : Criterion → ℕ → Below
below_limit c k = record { criterion = c; limit = k }

-- there is a bound for this number, where the criterion has so many
abbrev pub IsWithinCap : (Criterion → ℕ) → Below → Type 0
IsWithinCap caps b = (1 ≤ b.limit) × (b.limit ≤ caps b.criterion)

-- no two of them are of one criterion
abbrev pub AreOnce : List Below → Type 0
AreOnce bounds = AllPairs (λ a b. a.criterion ≢ b.criterion) bounds

-- a drawing of these values meets them all
abbrev pub AreMet : Values → List Below → Type 0
AreMet v bounds = All (λ b. value_of v b.criterion < b.limit) bounds

-- the literal is the negation of the variable of such a Bound line
abbrev pub IsNegated : Lines → Below → Literal → Type 0
IsNegated lines b l = (x : Var) × Contains lines (Bound b.criterion b.limit x) × (l ≡ negative_of x.0)

-- the literals are the negations of these bounds, one for each, in their order
abbrev pub AreNegated : Lines → List Below → List Literal → Type 0
AreNegated lines [] [] = ⊤
AreNegated lines [] (l ∷ ls) = ⊥
AreNegated lines (b ∷ bs) [] = ⊥
AreNegated lines (b ∷ bs) (l ∷ ls) = IsNegated lines b l × AreNegated lines bs ls

-- the lines are a query of these bounds, learnt clauses, and this end
pub record IsAsked (lines : Lines) (bounds : List Below) (ending more : Lines) : Type 0 where
  pub query : List Literal
  pub negated : AreNegated lines bounds query
  pub clauses : Clauses
  pub is : more ≡ Query query ∷ (map Learnt clauses ++ ending)

-- each literal of the clause says that one of the bounds doesn't hold
abbrev pub AreAgainst : (Criterion → ℕ) → Lines → List Below → List Literal → Type 0
AreAgainst greatest lines bounds clause = All (λ l. Any (λ b. SaysAtLeast greatest lines b.criterion b.limit l) bounds)
    clause

-- the lines of a question with this answer
abbrev pub IsReply : Task → Lines → List Below → Reply → Lines → Type 0
IsReply p lines bounds (Found d) more = IsAsked lines bounds (Model ∷ []) more
IsReply p lines bounds Refuted more =
    (clause : List Literal) × AreAgainst (greatest_of p) lines bounds clause
    × IsAsked lines bounds (RefutedLine clause ∷ []) more
IsReply p lines bounds (Stopped stop) more = IsAsked lines bounds [] more × IsCause p.budget p.room stop (lines ++ more)

-- a drawing that is found is lawful and meets the bounds
abbrev pub IsRightReply : Task → List Below → Reply → Type 0
IsRightReply p bounds (Found d) = IsLawful p d × AreMet (values_of d) bounds
IsRightReply p bounds Refuted = ⊤
IsRightReply p bounds (Stopped stop) = ⊤

-- no two Bound lines of different criteria or numbers have one variable
abbrev pub AreApart : Lines → Type 0
AreApart lines = (c d : Criterion) (k n : ℕ) (x y : Var) →
    Contains lines (Bound c k x) → Contains lines (Bound d n y) → x.0 ≡ y.0 → (c ≡ d) × (k ≡ n)

-- the latest query, and the latest before the last Model line
pub record Queries : Type 0 where
  pub latest : Option (List Literal)
  pub modelled : Option (List Literal)

-- the queries after one more line
abbrev pub after_line : Queries → LogLine → Queries
after_line q (Query c) = record { latest = Some c; modelled = q.modelled }
after_line q Model = record { latest = q.latest; modelled = q.latest }
after_line q line = q

-- the latest query of these lines, and the latest before the last Model line
abbrev pub queries : Lines → Queries
queries lines = fold after_line (record { latest = None; modelled = None }) lines

-- there is a query before the last Model line, and for each negated bound in the latest such one the value is below
-- the bound's number
abbrev pub MeetsQuery : Lines → Values → Type 0
MeetsQuery lines v = MatchOption (queries lines).modelled ⊥ (λ q.
    (c : Criterion) (k : ℕ) (x : Var) → Contains lines (Bound c k x) → Contains q (negative_of x.0) → value_of v c < k)

-- the same with the query's bounds as they were asked
pub record IsMet (lines : Lines) (v : Values) : Type 0 where
  pub query : List Literal
  pub modelled : (queries lines).modelled ≡ Some query
  pub bounds : List Below
  pub negated : AreNegated lines bounds query
  pub met : AreMet v bounds
