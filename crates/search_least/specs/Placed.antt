-- Where the lines of a search stand: what the lines before each of them are.
use Rattle.std.specs.Prelude.{◌≡◌, ⊤, ℕ, List, [], ◌∷◌, ◌++◌, take, Some, slice_get}
use Rattle.plan_core.specs.declared.criterion.Criterion.{Criterion}
use Rattle.plan_core.specs.Values.{values_of}
use Rattle.plan_core.specs.Drawing.{Drawing}
use Rattle.cnf_core.specs.Lit.{Literal}
use Rattle.refute_log.specs.declared.line.LogLine.{LogLine}
use Rattle.refute_log.specs.declared.line.LogLine.TheVariants.{Bound, Query, Model}
use Rattle.refute_log.specs.Told.{Lines}
use Rattle.refute_log.specs.Certified.{Certifies}
use Rattle.search_least.specs.declared.oracle.Below.{Below}
use Rattle.search_least.specs.Task.{Task, IsLawful, greatest_of}
use Rattle.search_least.specs.Asked.{AreOnce, AreNegated, IsMet}

-- the query asks under negations of bounds that were told, at most one of each criterion
pub record IsQuestion (before : Lines) (query : List Literal) : Type 0 where
  pub bounds : List Below
  pub once : AreOnce bounds
  pub negated : AreNegated before bounds query

-- a Model line answers the latest query: a lawful drawing meets it
pub record HasAnswer (p : Task) (before : Lines) : Type 0 where
  pub drawing : Drawing
  pub lawful : IsLawful p drawing
  pub met : IsMet (before ++ Model ∷ []) (values_of drawing)

-- the criterion is reached with a lawful drawing, which meets the latest query before the last Model line: at the
-- places of the order before it the drawing's values are certified
pub record IsReached (p : Task) (order : List Criterion) (before : Lines) (c : Criterion) : Type 0 where
  pub place : ℕ
  pub at : slice_get order place ≡ Some c
  pub drawing : Drawing
  pub lawful : IsLawful p drawing
  pub met : IsMet before (values_of drawing)
  pub certified : Certifies (greatest_of p) before order (values_of drawing) place

-- each line is so behind those before it
abbrev pub EachBehind : (Lines → LogLine → Type 0) → Lines → Type 0
EachBehind IsSo lines = (i : ℕ) (line : LogLine) → slice_get lines i ≡ Some line → IsSo (take i lines) line

-- the line may stand behind these in a search under bounds: a Query line is a question, a Model line an answer
abbrev pub IsUnderBounds : Task → Lines → LogLine → Type 0
IsUnderBounds p before (Query query) = IsQuestion before query
IsUnderBounds p before Model = HasAnswer p before
IsUnderBounds p before line = ⊤

-- each line is so behind those before it, as a search under bounds tells it
abbrev pub AreUnderBounds : Task → Lines → Type 0
AreUnderBounds p lines = EachBehind (IsUnderBounds p) lines

-- the same in a search for least values, and a criterion's bounds are told once it is reached
abbrev pub IsPlaced : Task → List Criterion → Lines → LogLine → Type 0
IsPlaced p order before (Bound c k x) = IsReached p order before c
IsPlaced p order before line = IsUnderBounds p before line

-- each line stands so behind those before it
abbrev pub AreInTurn : Task → List Criterion → Lines → Type 0
AreInTurn p order lines = EachBehind (IsPlaced p order) lines
