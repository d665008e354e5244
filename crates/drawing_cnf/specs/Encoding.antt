-- A formula of a graph's drawings on a grid.
use Rattle.std.specs.Prelude.{List}
use Rattle.plan_core.specs.Grid.{GridSize}
use Rattle.plan_core.specs.Graph.{Graph}
use Rattle.track_order.specs.Order.{EdgeOrder}
use Rattle.cnf_core.specs.Formula.{Cnf}
use Rattle.cnf_laws.specs.Stands.{DrawingVars}
use Rattle.cnf_laws.specs.Expected.{drawing_vars}
use Rattle.drawing_cnf.specs.Bounded.{Bound}

-- the graph, the order of its edges and the grid whose drawings the formula's models stand for, and the
-- bounds behind the drawing's clauses, in the order in which they were added
pub record Encoding : Type 0 where
  pub graph : Graph
  pub order : EdgeOrder
  pub grid : GridSize
  pub formula : Cnf
  pub bounds : List Bound

-- the encoding of these parts
abbrev pub encoding : Graph → EdgeOrder → GridSize → Cnf → List Bound → Encoding
encoding graph order grid formula bounds =
    record { graph = graph; order = order; grid = grid; formula = formula; bounds = bounds }

-- the variables of each node and of each edge
abbrev pub encoded_vars : Encoding → DrawingVars
encoded_vars e = drawing_vars e.graph e.grid
