-- The greatest values of a station's criteria on a grid are small.
use Rattle.std.proofs.Common.{◌≤◌, ℕ, ◌*◌, length, arith}
use Rattle.plan_core.specs.declared.criterion.Criterion.{Criterion}
use Rattle.plan_core.specs.declared.criterion.Criterion.TheVariants.{Height, Bends, Diagonal, Width}
use Rattle.plan_core.specs.Grid.{GridSize, IsGrid}
use Rattle.plan_core.specs.Graph.{Graph}
use Rattle.plan_core.specs.Values.{limit_of}
use Rattle.port_graph.specs.StationGraph.{IsStationGraph}

-- so that a log's line may name each
pub small_limit : (g : Graph) (grid : GridSize) (c : Criterion) → IsStationGraph g → IsGrid grid → limit_of g grid c ≤ 10240
small_limit g grid Height s is = let h = is.height_limit in omega (arith, h)
small_limit g grid Bends s is = let e = s.few_edges in omega (arith, e)
small_limit g grid Diagonal s is = let e = s.few_edges in let w = is.width_limit in product (length g.edges) grid.width e w
  where
    product : (m n : ℕ) → m ≤ 160 → n ≤ 64 → m * n ≤ 10240
    product m n a b = grind (arith, a, b)
small_limit g grid Width s is = let w = is.width_limit in omega (arith, w)
