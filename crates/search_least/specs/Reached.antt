-- How far a search has come: the first i criteria of the order have their least values.
use Rattle.std.specs.Prelude.{◌≡◌, ◌≤◌, ◌<◌, ◌+◌, ◌⊎◌, ℕ, List, [], ◌++◌, All, Contains, take, Option, None, Some}
use Rattle.std.specs.Prelude.{slice_get}
use Rattle.plan_core.specs.declared.criterion.Values.{Values}
use Rattle.plan_core.specs.declared.criterion.Criterion.{Criterion}
use Rattle.plan_core.specs.Values.{values_of, value_of}
use Rattle.plan_core.specs.Drawing.{Drawing}
use Rattle.cnf_core.specs.Lit.{Literal}
use Rattle.refute_log.specs.declared.line.LogLine.TheVariants.{Refuted}
use Rattle.refute_log.specs.Told.{Lines}
use Rattle.refute_log.specs.Log.{clause_lines}
use Rattle.refute_log.specs.Certified.{Certifies, IsOutOfReach}
use Rattle.search_least.specs.declared.oracle.Below.{Below}
use Rattle.refute_log.specs.declared.stop.Stop.{Stop}
use Rattle.search_least.specs.Task.{Task, IsLawful, greatest_of}
use Rattle.refute_log.specs.Cause.{IsCause}
use Rattle.search_least.specs.Asked.{below_limit, IsMet}
use Rattle.search_least.specs.Placed.{AreInTurn}

-- the clause is the answer at one of the first i places
pub record IsAnswerAt (greatest : Criterion → ℕ) (lines : Lines) (order : List Criterion) (v : Values) (i : ℕ)
    (clause : List Literal) : Type 0 where
  pub place : ℕ
  pub before : place < i
  pub criterion : Criterion
  pub there : slice_get order place ≡ Some criterion
  pub each : All (IsOutOfReach greatest lines (take place order) criterion v) clause

-- the drawing's values are certified at the first i places, it meets the query before the last Model line, each
-- Refuted line is the answer at one of these places, and each Query, Model and Bound line is due by the lines before it
pub record Reached (p : Task) (order : List Criterion) (i : ℕ) (d : Drawing) (lines : Lines) : Type 0 where
  pub lawful : IsLawful p d
  pub certified : Certifies (greatest_of p) lines order (values_of d) i
  pub met : IsMet lines (values_of d)
  pub answered : (clause : List Literal) → Contains lines (Refuted clause) →
      IsAnswerAt (greatest_of p) lines order (values_of d) i clause
  pub placed : AreInTurn p order lines

-- the bounds hold the first i criteria at their values: none says more, and each criterion is held or can't be greater
pub record Holds (p : Task) (order : List Criterion) (i : ℕ) (bounds : List Below) (v : Values) : Type 0 where
  pub each : All (λ b. Contains (take i order) b.criterion × (b.limit ≡ value_of v b.criterion + 1)) bounds
  pub all : All (λ c. Contains bounds (below_limit c (value_of v c + 1)) ⊎ (greatest_of p c ≤ value_of v c))
      (take i order)

-- the two values are the same at the first i criteria of the order
abbrev pub HasSameValues : List Criterion → ℕ → Values → Values → Type 0
HasSameValues order i v w = All (λ c. value_of v c ≡ value_of w c) (take i order)

-- the place's least value was found, or the search stopped at it with a positive value
abbrev pub IsLowered : Task → List Criterion → ℕ → Option Stop → Drawing → Lines → Type 0
IsLowered p order i None d lines = Reached p order (i + 1) d lines
IsLowered p order i (Some stop) d lines =
    Reached p order i d lines × ((c : Criterion) → slice_get order i ≡ Some c → 1 ≤ value_of (values_of d) c)
    × IsCause p.budget p.room stop lines

-- a run of questions from the first drawing, with the held bounds, to this one; it tells no clauses
abbrev pub Run : Task → List Criterion → ℕ → List Below → Drawing → Drawing → Lines → Lines → Type 0
Run p order i held first d lines more = (clause_lines more ≡ []) ×
    (Reached p order i first lines → Holds p order i held (values_of first) →
    HasSameValues order i (values_of first) (values_of d) × Reached p order i d (lines ++ more))

-- to this end
abbrev pub RunTo : Task → List Criterion → ℕ → List Below → Drawing → Option Stop → Drawing → Lines → Lines → Type 0
RunTo p order i held first stop d lines more = (clause_lines more ≡ []) ×
    (Reached p order i first lines → Holds p order i held (values_of first) →
    HasSameValues order i (values_of first) (values_of d) × IsLowered p order i stop d (lines ++ more))
