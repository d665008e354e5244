-- Counts of Bound lines.
-- No public clause names this.
use Rattle.std.specs.Prelude.{◌≡◌, ℕ, ◌+◌, ◌++◌, List, All, Option, Some, None, cond, length, flat_map, codes}
use Rattle.plan_core.specs.declared.criterion.Criterion.{Criterion}
use Rattle.refute_log.specs.Told.{Lines}
use Rattle.outside_io.specs.Fields.{LacksByte}
use Rattle.refute_log.specs.Expected.{same_criterion, bound_vars, caps}
use Rattle.log_check.specs.TextLines.{AreToldBounds}

-- the counts with one more of a criterion
abbrev pub count_more : Criterion → (Criterion → ℕ) → Criterion → ℕ
count_more c counts d = cond (same_criterion d c) (counts d + 1) (counts d)

-- how many there are of each, where at most one is
abbrev pub count_of : Option Criterion → Criterion → ℕ
count_of None d = 0
count_of (Some c) d = cond (same_criterion d c) 1 0

-- the lines have one Bound line, of this criterion, or none
abbrev pub IsCountOf : Option Criterion → Lines → Type 0
IsCountOf found lines = (d : Criterion) → length (bound_vars d lines) ≡ count_of found d

-- of the text this rest isn't counted yet; each criterion has as many Bound lines as were counted, up to its greatest
pub record HasCounted (log rest : List ℕ) (greatest numbers : Criterion → ℕ) : Type 0 where
  pub texts : List (List ℕ)
  pub lines : Lines
  pub each : All (LacksByte 10) texts
  pub spelled : log ≡ flat_map (λ line. line ++ codes "\n") texts ++ rest
  pub bounds : AreToldBounds texts lines
  pub counts : (c : Criterion) → numbers c ≡ caps greatest lines c
