-- Which values a log certifies: that with those of the criteria before it, none can be less.
-- What a log certifies is said of values alone, by each criterion's greatest value; for a graph on a grid
-- that is `limit_of`. A log that is written out in crates/cases_refutation/specs/Examples.antt shows what
-- is certified and what lacks.
use Rattle.std.specs.Prelude.{◌≡◌, ◌≤◌, ◌<◌, ◌+◌, ◌⊎◌, ℕ, List, [], All, Any, Contains, Option, Some, MatchOption}
use Rattle.std.specs.Prelude.{length, take, slice_get}
use Rattle.plan_core.specs.declared.criterion.Values.{Values}
use Rattle.plan_core.specs.declared.criterion.Criterion.{Criterion}
use Rattle.plan_core.specs.Values.{value_of}
use Rattle.cnf_core.specs.Lit.{Literal}
use Rattle.refute_log.specs.declared.line.LogLine.TheVariants.{Refuted}
use Rattle.refute_log.specs.Told.{Lines}
use Rattle.refute_log.specs.Bounds.{SaysAtLeast}

-- the literal is one of the bounds "the value of an earlier criterion is at least one more than in v" and "the
-- value of c is at least that in v". Values that are less at c and the same before it reach none of them
abbrev pub IsOutOfReach : (Criterion → ℕ) → Lines → List Criterion → Criterion → Values → Literal → Type 0
IsOutOfReach greatest lines earlier c v l =
    Any (λ b. SaysAtLeast greatest lines b (value_of v b + 1) l) earlier ⊎ SaysAtLeast greatest lines c (value_of v c) l

-- a Refuted line all of whose literals are among these bounds
pub record RefutesLess (greatest : Criterion → ℕ) (lines : Lines) (earlier : List Criterion) (c : Criterion)
    (v : Values) : Type 0 where
  pub clause : List Literal
  pub among : Contains lines (Refuted clause)
  pub each : All (IsOutOfReach greatest lines earlier c v) clause

-- where the value of c is positive there is such a line; a value of 0 can't be less
abbrev pub IsCertifiedLeast : (Criterion → ℕ) → Lines → List Criterion → Criterion → Values → Type 0
IsCertifiedLeast greatest lines earlier c v = 1 ≤ value_of v c → RefutesLess greatest lines earlier c v

-- the log certifies that the value of the criterion at this place is least, if the order has one there
abbrev pub IsLeastAt : (Criterion → ℕ) → Lines → List Criterion → Values → ℕ → Type 0
IsLeastAt greatest lines order v i =
    (c : Criterion) → slice_get order i ≡ Some c → IsCertifiedLeast greatest lines (take i order) c v

-- the log certifies the first s values of the order: at each place below s the value is least
abbrev pub Certifies : (Criterion → ℕ) → Lines → List Criterion → Values → ℕ → Type 0
Certifies greatest lines order v s =
    (i : ℕ) (c : Criterion) → i < s → slice_get order i ≡ Some c → IsCertifiedLeast greatest lines (take i order) c v

-- the log certifies that there is no drawing: it has a Refuted line without literals
abbrev pub CertifiesNone : Lines → Type 0
CertifiesNone lines = Contains lines (Refuted [])

-- two values are the same at each of these criteria
abbrev pub AreSameAt : List Criterion → Values → Values → Type 0
AreSameAt order v w = All (λ c. value_of v c ≡ value_of w c) order

-- s is the greatest number below the order's length to which v is certified
pub record IsSettled (greatest : Criterion → ℕ) (lines : Lines) (order : List Criterion) (v : Values) (s : ℕ) : Type 0
  where
    pub below : s < length order
    pub certified : Certifies greatest lines order v s
    pub most : (t : ℕ) → t < length order → Certifies greatest lines order v t → t ≤ s

-- the same of the values of the drawing that was found, and 0 where there is none
abbrev pub Settled : (Criterion → ℕ) → Lines → List Criterion → Option Values → ℕ → Type 0
Settled greatest lines order found s = MatchOption found (s ≡ 0) (λ v. IsSettled greatest lines order v s)
