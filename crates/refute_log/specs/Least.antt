-- What a log's certified values say of the lawful drawings.
use Rattle.std.specs.Prelude.{◌≤◌, ℕ, Bool, List, length, take}
use Rattle.plan_core.specs.declared.criterion.Values.{Values}
use Rattle.plan_core.specs.declared.criterion.Criterion.{Criterion}
use Rattle.plan_core.specs.Grid.{GridSize}
use Rattle.plan_core.specs.Graph.{Graph}
use Rattle.plan_core.specs.Drawing.{Drawing}
use Rattle.plan_core.specs.Lawful.{Lawful}
use Rattle.plan_core.specs.Values.{values_of, Better, IsBest}
use Rattle.refute_log.specs.Told.{Lines}
use Rattle.refute_log.specs.Log.{Derives}
use Rattle.refute_log.specs.Bounds.{CoversDrawings}
use Rattle.refute_log.specs.Certified.{Certifies}
use Rattle.refute_log.specs.Expected.{Problem, expected_lines, IsExpected}

-- no lawful drawing is better than values that the log certifies, on the criteria for which it certifies them
abbrev pub CertifiedAreLeast : Graph → (ℕ → ℕ → Bool) → GridSize → (Criterion → ℕ) → Lines → List Criterion → Type 0
CertifiedAreLeast g above grid greatest lines order = (v : Values) (s : ℕ) → Certifies greatest lines order v s →
    (d : Drawing) → Lawful g above grid d → Better (take s order) (values_of d) v → ⊥

-- a lawful drawing whose values the log certifies on the whole order is best
abbrev pub CertifiedAreBest : Graph → (ℕ → ℕ → Bool) → GridSize → (Criterion → ℕ) → Lines → List Criterion → Type 0
CertifiedAreBest g above grid greatest lines order = (d : Drawing) → Lawful g above grid d →
    Certifies greatest lines order (values_of d) (length order) → IsBest g above grid order d

-- the expected lines cover the lawful drawings, with whatever caps up to the greatest values; the log's Formula and
-- Bound lines begin those for its own caps, and it derives
pub record IsLogOf (g : Graph) (above : ℕ → ℕ → Bool) (grid : GridSize) (e : Problem) (greatest : Criterion → ℕ)
    (lines : Lines) (order : List Criterion) : Type 0 where
  pub covers : (cap : Criterion → ℕ) → ((c : Criterion) → cap c ≤ greatest c) →
      CoversDrawings g above grid (expected_lines e order cap)
  pub expected : IsExpected e greatest order lines
  pub derives : Derives lines
