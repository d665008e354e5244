-- A question as assumptions of the solver, which places a refutation needs, and which reply is of which answer.
use Rattle.std.specs.Prelude.{◌≡◌, ⊤, ℕ, Bool, false, ◌||◌, ◌==◌, List, [], ◌∷◌, All, Some, map, filter}
use Rattle.std.specs.Prelude.{slice_index_or}
use Rattle.plan_core.specs.Drawing.{Drawing}
use Rattle.cnf_core.specs.Lit.{Literal, positive_of}
use Rattle.refute_log.specs.declared.line.LogLine.{LogLine}
use Rattle.refute_log.specs.declared.line.LogLine.TheVariants.{Query, Model as ModelLine}
use Rattle.refute_log.specs.Told.{Lines}
use Rattle.refute_log.specs.Log.{facts_of}
use Rattle.refute_log.specs.declared.stop.Stop.TheVariants.{BudgetSpent, RoomFull}
use Rattle.drawing_cnf.specs.Expected.{laws_first}
use Rattle.cdcl_core.specs.declared.answer.Answer.{Answer}
use Rattle.cdcl_core.specs.declared.answer.Answer.TheVariants.{Model, Refuted as RefutedAnswer, Spent, Room}
use Rattle.search_least.specs.Placed.{EachBehind}
use Rattle.search_why.specs.Explained.{IsLoose}
use Rattle.search_why.specs.Task.{Task, MeetsAt}
use Rattle.search_why.specs.Asked.{AreLawPlaces}
use Rattle.search_why.specs.declared.oracle.Reply.{Reply}
use Rattle.search_why.specs.declared.oracle.Reply.TheVariants.{Found, Refuted, Stopped}
use Rattle.law_core.specs.Choices.{selectors}

-- the selecting variables of the laws at these places are true
abbrev pub query_of : (selecting wanted : List ℕ) → List Literal
query_of selecting wanted = map (λ n. positive_of (slice_index_or selecting n 0)) wanted

-- one of the literals is of the variable
abbrev pub has_variable : List Literal → ℕ → Bool
has_variable [] x = false
has_variable (l ∷ ls) x = (l.var == x) || has_variable ls x

-- those of the places whose selecting variables these literals have
abbrev pub places_in : List ℕ → List Literal → List ℕ → List ℕ
places_in selecting literals wanted = filter (λ n. has_variable literals (slice_index_or selecting n 0)) wanted

-- the query that selects the laws at these places
abbrev pub laws_query : Task → List ℕ → List Literal
laws_query p wanted = query_of (selectors (laws_first p.graph p.grid) p.laws) wanted

-- the query selects laws, each once
abbrev pub SelectsLaws : Task → List Literal → Type 0
SelectsLaws p query = (wanted : List ℕ) × AreLawPlaces p wanted × (query ≡ laws_query p wanted)

-- a Model line answers the latest query: a loose drawing meets the laws that it selects
pub record HasLaws (p : Task) (before : Lines) : Type 0 where
  pub wanted : List ℕ
  pub places : AreLawPlaces p wanted
  pub latest : (facts_of before).query ≡ Some (laws_query p wanted)
  pub drawing : Drawing
  pub loose : IsLoose p.graph p.grid drawing
  pub meets : All (MeetsAt p drawing) wanted

-- the line may stand behind these: a Query line selects laws, a Model line is an answer
abbrev pub IsLawPlaced : Task → Lines → LogLine → Type 0
IsLawPlaced p before (Query query) = SelectsLaws p query
IsLawPlaced p before ModelLine = HasLaws p before
IsLawPlaced p before line = ⊤

-- each line stands so behind those before it
abbrev pub AreAboutLaws : Task → Lines → Type 0
AreAboutLaws p lines = EachBehind (IsLawPlaced p) lines

-- the reply is one of this answer
abbrev pub IsReplyOf : Answer → Reply → Type 0
IsReplyOf Model (Found d) = ⊤
IsReplyOf RefutedAnswer (Refuted core) = ⊤
IsReplyOf Spent (Stopped BudgetSpent) = ⊤
IsReplyOf Room (Stopped RoomFull) = ⊤
IsReplyOf answer reply = ⊥
