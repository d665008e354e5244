-- Which lines of a log are wanted: Refuted ones by which it certifies what is claimed of drawings.
use Rattle.std.specs.Prelude.{◌≡◌, ◌≤◌, ◌<◌, ℕ, List, [], ◌∷◌, All, Contains, Some, slice_get, take}
use Rattle.plan_core.specs.declared.criterion.Criterion.{Criterion}
use Rattle.plan_core.specs.declared.criterion.Values.{Values}
use Rattle.plan_core.specs.Values.{value_of}
use Rattle.cnf_core.specs.Lit.{Literal}
use Rattle.refute_log.specs.declared.line.LogLine.TheVariants.{Refuted}
use Rattle.refute_log.specs.Told.{Lines}
use Rattle.refute_log.specs.Certified.{IsOutOfReach}
use Rattle.log_check.specs.declared.claim.Claim.{Claim}
use Rattle.log_check.specs.declared.claim.Claim.TheVariants.{Least, NoDrawing, Nothing}

-- the line at this place is the first Refuted one all of whose literals are out of reach, so that the value of c can't
-- be less
pub record ShowsLeast (greatest : Criterion → ℕ) (lines : Lines) (earlier : List Criterion) (c : Criterion)
    (v : Values) (p : ℕ) : Type 0 where
  pub clause : List Literal
  pub there : slice_get lines p ≡ Some (Refuted clause)
  pub each : All (IsOutOfReach greatest lines earlier c v) clause
  pub first : (q : ℕ) (d : List Literal) → q < p → slice_get lines q ≡ Some (Refuted d)
      → All (IsOutOfReach greatest lines earlier c v) d → ⊥

-- it is the first Refuted line without literals, so that there is no drawing
pub record ShowsNone (lines : Lines) (p : ℕ) : Type 0 where
  pub there : slice_get lines p ≡ Some (Refuted [])
  pub first : (q : ℕ) → q < p → slice_get lines q ≡ Some (Refuted []) → ⊥

-- the order has c at this place, one of the first s, and its value is positive: a value of 0 needs no line
pub record IsClaimedPlace (order : List Criterion) (v : Values) (s i : ℕ) (c : Criterion) : Type 0 where
  pub below : i < s
  pub at : slice_get order i ≡ Some c
  pub positive : 1 ≤ value_of v c

-- of the lines at these places each shows one of the first s values to be least, and each of these is shown by one
pub record AreOfLeast (greatest : Criterion → ℕ) (lines : Lines) (order : List Criterion) (v : Values) (s : ℕ)
    (wanted : List ℕ) : Type 0 where
  pub only : (p : ℕ) → Contains wanted p →
      (i : ℕ) × (c : Criterion) × IsClaimedPlace order v s i c × ShowsLeast greatest lines (take i order) c v p
  pub each : (i : ℕ) (c : Criterion) → IsClaimedPlace order v s i c →
      (p : ℕ) × Contains wanted p × ShowsLeast greatest lines (take i order) c v p

-- the lines at these places are those by which the claim is certified
abbrev pub AreWanted : (Criterion → ℕ) → Lines → List Criterion → Claim → List ℕ → Type 0
AreWanted greatest lines order (Least v s) wanted = AreOfLeast greatest lines order v s wanted
AreWanted greatest lines order NoDrawing wanted = (p : ℕ) × ShowsNone lines p × (wanted ≡ p ∷ [])
AreWanted greatest lines order Nothing wanted = wanted ≡ []
