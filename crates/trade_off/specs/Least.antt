-- The least value of one criterion among the drawings that meet some bounds.
use Rattle.std.specs.Prelude.{◌≡◌, ◌≢◌, ◌≤◌, ◌<◌, ◌⊎◌, ⊤, List, [], ◌∷◌, ◌++◌, All, Contains, Option, None, Some}
use Rattle.plan_core.specs.declared.criterion.Criterion.{Criterion}
use Rattle.plan_core.specs.Drawing.{Drawing}
use Rattle.plan_core.specs.Values.{values_of, value_of}
use Rattle.refute_log.specs.declared.line.LogLine.{LogLine}
use Rattle.refute_log.specs.declared.line.LogLine.TheVariants.{Query, Model}
use Rattle.refute_log.specs.Told.{Lines}
use Rattle.cnf_core.specs.Lit.{Literal}
use Rattle.refute_log.specs.Log.{facts_of, clause_lines}
use Rattle.search_least.specs.declared.oracle.Below.{Below}
use Rattle.refute_log.specs.declared.stop.Stop.{Stop}
use Rattle.search_least.specs.Task.{Task, IsLawful}
use Rattle.refute_log.specs.Cause.{IsCause}
use Rattle.search_least.specs.Asked.{below_limit, AreMet, AreOnce, AreNegated}
use Rattle.search_least.specs.Placed.{EachBehind, AreUnderBounds}

-- no lawful drawing that meets the bounds has less of the criterion
abbrev pub IsLeastUnder : Task → List Below → Criterion → Drawing → Type 0
IsLeastUnder p bounds c d =
    (e : Drawing) → IsLawful p e → AreMet (values_of e) bounds → value_of (values_of d) c ≤ value_of (values_of e) c

-- no lawful drawing meets the bounds
abbrev pub NoneMeets : Task → List Below → Type 0
NoneMeets p bounds = (e : Drawing) → IsLawful p e → AreMet (values_of e) bounds → ⊥

-- the bounds are of different criteria, and none of them of this one
pub record AreBeside (c : Criterion) (bounds : List Below) : Type 0 where
  pub once : AreOnce bounds
  pub other : All (λ b. b.criterion ≢ c) bounds

-- the held bounds, and one that asks for less of this criterion than the drawing has
abbrev pub lowered : List Below → Criterion → Drawing → List Below
lowered held c d = held ++ below_limit c (value_of (values_of d) c) ∷ []

-- such are the bounds, with a lawful drawing that meets the held ones
abbrev pub LowersUnder : List Below → Criterion → Task → List Below → Type 0
LowersUnder held c p bounds =
    (d : Drawing) × IsLawful p d × AreMet (values_of d) held × (bounds ≡ lowered held c d)

-- where the bound is of this criterion, the others have one of it that is no greater
abbrev pub HasNoGreater : Criterion → List Below → Below → Type 0
HasNoGreater c others x =
    x.criterion ≡ c → (y : Below) × Contains others y × (y.criterion ≡ c) × (y.limit ≤ x.limit)

-- of this criterion the bounds ask for no less than the others
abbrev pub AskNoLess : Criterion → (bounds others : List Below) → Type 0
AskNoLess c bounds others = All (HasNoGreater c others) bounds

-- a Query line asks for no less of it than these bounds
abbrev pub IsNoLess : Criterion → List Below → Lines → LogLine → Type 0
IsNoLess c others before (Query query) =
    (bounds : List Below) × AreNegated before bounds query × AskNoLess c bounds others
IsNoLess c others before line = ⊤

-- the limits of this criterion have come down to these bounds: no query asks for less of it
abbrev pub HasComeDown : Criterion → List Below → Lines → Type 0
HasComeDown c bounds lines = EachBehind (IsNoLess c bounds) lines

-- the others have a bound of this criterion that is below each one of it
abbrev pub AsksLess : Criterion → (bounds others : List Below) → Type 0
AsksLess c bounds others = (y : Below) × Contains others y × (y.criterion ≡ c)
    × All (λ x. x.criterion ≡ c → y.limit < x.limit) bounds

-- the others may be asked for behind these bounds: they ask for less of c, or for no more of c and for no more of d
abbrev pub MayComeBehind : (c d : Criterion) → (bounds others : List Below) → Type 0
MayComeBehind c d bounds others = AsksLess c bounds others ⊎ (AskNoLess c bounds others × AskNoLess d bounds others)

-- a Model line answers a query under bounds that aren't such
abbrev pub IsFoundBeside : (List Below → Type 0) → Lines → LogLine → Type 0
IsFoundBeside Such before Model = (query : List Literal) × ((facts_of before).query ≡ Some query)
    × (bounds : List Below) × AreNegated before bounds query × (Such bounds → ⊥)
IsFoundBeside Such before line = ⊤

-- no query under such bounds has a Model line
abbrev pub NoneIsFound : (List Below → Type 0) → Lines → Type 0
NoneIsFound Such lines = EachBehind (IsFoundBeside Such) lines

-- the questions have come to these bounds: the limits of c have come down to them, and no query that may come behind
-- them has a Model line
pub record HaveComeTo (c d : Criterion) (bounds : List Below) (lines : Lines) : Type 0 where
  pub down : HasComeDown c bounds lines
  pub fresh : NoneIsFound (MayComeBehind c d bounds) lines

-- a Model line doesn't answer this query
abbrev pub AnswersOther : List Literal → Lines → LogLine → Type 0
AnswersOther query before Model = (facts_of before).query ≡ Some query → ⊥
AnswersOther query before line = ⊤

-- the latest query asks under such bounds, none before it asks for less of this criterion, and no Model line answers
-- the same query
pub record AsksUnder (Such : List Below → Type 0) (c : Criterion) (lines : Lines) : Type 0 where
  pub bounds : List Below
  pub such : Such bounds
  pub query : List Literal
  pub negated : AreNegated lines bounds query
  pub latest : (facts_of lines).query ≡ Some query
  pub down : HasComeDown c bounds lines
  pub fresh : EachBehind (AnswersOther query) lines

-- the search stopped for this cause, in a question under such bounds
abbrev pub StopsUnder : Task → (List Below → Type 0) → Criterion → Stop → Lines → Type 0
StopsUnder p Such c stop lines = IsCause p.budget p.room stop lines × AsksUnder Such c lines

-- how the least value of c is asked for: the questions have come to the bounds behind the last drawing, or the search
-- stopped in such a question
abbrev pub EndsLowered : Task → List Below → (c m : Criterion) → Drawing → Option Stop → Lines → Type 0
EndsLowered p held c m d None lines = HaveComeTo m c (lowered held c d) lines
EndsLowered p held c m d (Some stop) lines = StopsUnder p (LowersUnder held c p) m stop lines

-- questions under bounds, and their answers: they tell no clauses of the formula; and where it began so, they end so
pub record AreAsked (p : Task) (BeginsSo EndsSo : Lines → Type 0) (lines more : Lines) : Type 0 where
  pub none : clause_lines more ≡ []
  pub placed : AreUnderBounds p lines → AreUnderBounds p (lines ++ more)
  pub ends : BeginsSo lines → EndsSo (lines ++ more)
