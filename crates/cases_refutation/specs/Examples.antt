-- A log of a few lines, worked out by hand, as an example of the definitions.
use Rattle.std.specs.Prelude.{ℕ, List, [], ◌∷◌}
use Rattle.plan_core.specs.declared.criterion.Criterion.{Criterion}
use Rattle.plan_core.specs.declared.criterion.Criterion.TheVariants.{Height, Bends, Diagonal, Width}
use Rattle.cnf_core.specs.declared.literal.Var.{Var}
use Rattle.cnf_core.specs.Lit.{positive_of, negative_of}
use Rattle.refute_log.specs.declared.line.LogLine.TheVariants.{Formula, Bound, Query, Refuted}
use Rattle.refute_log.specs.Told.{Lines}

abbrev pub variable : ℕ → Var
variable x = record { 0 = x }

-- the greatest values: n for the height, and 9 for each other criterion
abbrev pub height_up_to : ℕ → Criterion → ℕ
height_up_to n Height = n
height_up_to n c = 9

-- two criteria, one before the other
abbrev pub in_order : Criterion → Criterion → List Criterion
in_order first second = first ∷ second ∷ []

abbrev pub height_then_width : List Criterion
height_then_width = in_order Height Width

abbrev pub width_then_height : List Criterion
width_then_height = in_order Width Height

abbrev pub all_four : List Criterion
all_four = Height ∷ Bends ∷ Diagonal ∷ Width ∷ []

-- the height is at least 1; it is at least 2, or the width is at least 3
abbrev pub short_log : Lines
short_log =
    Formula (positive_of 1 ∷ [])
    ∷ Formula (positive_of 2 ∷ positive_of 3 ∷ [])
    ∷ Bound Height 1 (variable 1)
    ∷ Bound Height 2 (variable 2)
    ∷ Bound Width 3 (variable 3)
    ∷ Query (negative_of 1 ∷ [])
    ∷ Refuted (positive_of 1 ∷ [])
    ∷ Query (negative_of 2 ∷ negative_of 3 ∷ [])
    ∷ Refuted (positive_of 2 ∷ positive_of 3 ∷ [])
    ∷ []
