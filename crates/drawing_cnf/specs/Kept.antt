-- What is kept of the bounds behind the formula: the sums that count for each.
use Rattle.std.specs.Prelude.{◌≡◌, ⊤, List, [], ◌∷◌}
use Rattle.plan_core.specs.Grid.{GridSize}
use Rattle.plan_core.specs.Graph.{Graph}
use Rattle.drawing_cnf.specs.declared.kept_bound.KeptBound.{KeptBound}
use Rattle.cnf_laws.specs.Expected.{drawing_vars}
use Rattle.drawing_cnf.specs.Bounds.{bound_sums}
use Rattle.drawing_cnf.specs.Bounded.{Bound, bound}

-- the bound that is kept
abbrev pub bound_of : KeptBound → Bound
bound_of k = bound k.criterion k.last k.cap

-- the kept sums are those of the bound: none for height and width, the bends' one, and for the diagonal
-- each edge's from west to east, then that of their outputs
abbrev pub HasSums : Graph → GridSize → KeptBound → Type 0
HasSums g grid k = k.sums.items ≡ bound_sums g (drawing_vars g grid) grid k.last k.cap k.criterion

-- each bound has its sums
abbrev pub AreKept : Graph → GridSize → List KeptBound → Type 0
AreKept g grid [] = ⊤
AreKept g grid (k ∷ ks) = HasSums g grid k × AreKept g grid ks
