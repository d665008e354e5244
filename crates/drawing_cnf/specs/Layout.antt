-- What is to be drawn, and on which grid; and the clause lists of its drawings.
use Rattle.plan_core.specs.Grid.{GridSize, IsGrid}
use Rattle.plan_core.specs.Graph.{Graph}
use Rattle.refute_log.specs.Expected.{Problem}
use Rattle.port_graph.specs.StationGraph.{IsStationGraph}
use Rattle.track_order.specs.Order.{EdgeOrder, is_above, is_overlap, IsOrderOf}
use Rattle.drawing_cnf.specs.Encoding.{Encoding}
use Rattle.drawing_cnf.specs.Lists.{drawing_problem}

-- a graph, the order of its edges, and a grid
pub record Layout : Type 0 where
  pub graph : Graph
  pub order : EdgeOrder
  pub grid : GridSize

-- a station's graph, an order of its edges, and a grid that there may be
pub record IsStationLayout (y : Layout) : Type 0 where
  pub station : IsStationGraph y.graph
  pub ordered : IsOrderOf y.graph y.order
  pub sized : IsGrid y.grid

-- the layout of this graph, this order and this grid
abbrev pub layout : Graph → EdgeOrder → GridSize → Layout
layout graph order grid = record { graph = graph; order = order; grid = grid }

-- what a formula was made of
abbrev pub layout_of : Encoding → Layout
layout_of e = layout e.graph e.order e.grid

-- the clause lists of its drawings
abbrev pub problem_of : Layout → Problem
problem_of y = drawing_problem y.graph (is_above y.order) (is_overlap y.order) y.grid
