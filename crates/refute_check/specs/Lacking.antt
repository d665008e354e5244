-- What is known of a log, and the first place of an order that it doesn't certify.
use Rattle.std.specs.Prelude.{◌≡◌, ◌≤◌, ◌<◌, ◌+◌, ◌⊎◌, ℕ, List, [], ◌∷◌, Contains, Option, Some, None, flat_map, take}
use Rattle.std.specs.Prelude.{slice_get}
use Rattle.plan_core.specs.declared.criterion.Values.{Values}
use Rattle.plan_core.specs.declared.criterion.Criterion.{Criterion}
use Rattle.plan_core.specs.Values.{value_of}
use Rattle.cnf_core.specs.Lit.{positive_of}
use Rattle.refute_log.specs.declared.line.LogLine.{LogLine}
use Rattle.refute_log.specs.declared.line.LogLine.TheVariants.{Bound}
use Rattle.refute_log.specs.Told.{Lines}
use Rattle.refute_log.specs.Log.{facts_of}
use Rattle.refute_check.specs.Kept.{CheckedFacts}
use Rattle.refute_log.specs.Certified.{IsCertifiedLeast, Certifies}
use Rattle.refute_check.specs.declared.told_bound.ToldBound.{ToldBound}

-- the bound of the line, where it is a Bound line
abbrev pub told_bound : LogLine → List ToldBound
told_bound (Bound c k x) = record { criterion = c; k = k; literal = positive_of x.0 } ∷ []
told_bound line = []

-- the checker keeps the facts of these lines, and the bounds are those of their Bound lines, in their order
pub record KnowsLog (lines : Lines) (kept : CheckedFacts) (bounds : List ToldBound) : Type 0 where
  pub facts : kept.facts ≡ facts_of lines
  pub told : bounds ≡ flat_map told_bound lines

-- values that are less than in v at c and the same before it don't reach the bound: its number is within reach of its
-- criterion, and it asks one more than v of an earlier criterion, or just v's value of c. A bound is unreached where
-- its literal is out of reach (IsOutOfReach): one notion, of bounds and of literals
pub record IsUnreached (greatest : Criterion → ℕ) (earlier : List Criterion) (c : Criterion) (v : Values)
    (b : ToldBound)
    : Type 0 where
  pub within : b.k ≤ greatest b.criterion
  pub either : (Contains earlier b.criterion × (b.k ≡ value_of v b.criterion + 1))
      ⊎ ((b.criterion ≡ c) × (b.k ≡ value_of v c))

-- all of the first s values are certified; or the place is the first at which the value isn't least
abbrev pub IsFirstLacking : (Criterion → ℕ) → Lines → List Criterion → Values → ℕ → Option ℕ → Type 0
IsFirstLacking greatest lines order v s None = Certifies greatest lines order v s
IsFirstLacking greatest lines order v s (Some i) =
    (i < s) × Certifies greatest lines order v i
    × ((c : Criterion) → slice_get order i ≡ Some c → IsCertifiedLeast greatest lines (take i order) c v → ⊥)
