-- What a drawing measures, and which of two drawings is better.
use Rattle.std.specs.Prelude.{◌≡◌, ℕ, ◌*◌, ◌<◌, ◌⊎◌, Bool, List, [], ◌∷◌, length, map, max}
use Rattle.std.specs.List.{sum_by}
use Rattle.plan_core.specs.declared.criterion.Values.{Values}
use Rattle.plan_core.specs.declared.criterion.Criterion.{Criterion}
use Rattle.plan_core.specs.declared.criterion.Criterion.TheVariants.{Height, Bends, Diagonal, Width}
use Rattle.plan_core.specs.Grid.{GridSize}
use Rattle.plan_core.specs.Line.{bends, diagonal}
use Rattle.plan_core.specs.Graph.{Graph}
use Rattle.plan_core.specs.Drawing.{Drawing, all_points}
use Rattle.plan_core.specs.Lawful.{Lawful}

-- the greatest number of a list, or 0 where there is none
abbrev pub maximum : List ℕ → ℕ
maximum [] = 0
maximum (x ∷ xs) = max x (maximum xs)

-- the greatest y and x of all points, and the sums over the lines
abbrev pub values_of : Drawing → Values
values_of d = record {
  height = maximum (map (λ p. p.y) (all_points d));
  bends = sum_by bends d.lines;
  diagonal = sum_by diagonal d.lines;
  width = maximum (map (λ p. p.x) (all_points d));
}

-- the value of this criterion
abbrev pub value_of : Values → Criterion → ℕ
value_of v Height = v.height
value_of v Bends = v.bends
value_of v Diagonal = v.diagonal
value_of v Width = v.width

-- what no lawful drawing's value passes, proved by `no_value_passes_its_limit`
abbrev pub limit_of : Graph → GridSize → Criterion → ℕ
limit_of g grid Height = grid.height
limit_of g grid Bends = 2 * length g.edges
limit_of g grid Diagonal = length g.edges * grid.width
limit_of g grid Width = grid.width

-- a is less than b at the first criterion of the order at which they differ, proved by
-- `better_is_less_at_some_place`; on the first s criteria alone where the order is take s of one. Criteria
-- that are not in the order are free, a repeat adds nothing, and in an empty order nothing is better
abbrev pub Better : List Criterion → Values → Values → Type 0
Better [] a b = ⊥
Better (c ∷ rest) a b = (value_of a c < value_of b c) ⊎ ((value_of a c ≡ value_of b c) × Better rest a b)

-- the drawing is lawful, and no lawful drawing is better
pub record IsBest (g : Graph) (above : ℕ → ℕ → Bool) (grid : GridSize) (order : List Criterion) (d : Drawing) : Type 0
  where
    pub lawful : Lawful g above grid d
    pub none_better : (other : Drawing) → Lawful g above grid other → Better order (values_of other) (values_of d) → ⊥
