-- The drawing that an assignment reads in the variables of a graph's nodes and edges on a grid.
use Rattle.std.specs.Prelude.{◌≤◌, ◌+◌}
use Rattle.plan_core.specs.Grid.{GridSize, IsGrid}
use Rattle.plan_core.specs.Graph.{Graph, IsTrackGraph}
use Rattle.plan_core.specs.Drawing.{Drawing}
use Rattle.cnf_core.specs.declared.limits.TheConstants.{VARS}
use Rattle.cnf_core.specs.Assignment.{Assignment}
use Rattle.drawing_cnf.specs.Stands.{ReadsDrawing, IsJoinedOnGrid}
use Rattle.drawing_cnf.specs.Expected.{drawing_vars, laws_first}

-- the variables of the nodes and edges say this drawing, which has laws 1 and 3
pub record IsReadAs (g : Graph) (grid : GridSize) (v : Assignment) (d : Drawing) : Type 0 where
  pub reads : ReadsDrawing v g (drawing_vars g grid) grid.width d
  pub loose : IsJoinedOnGrid g grid d

-- they say some drawing, and are numbers of variables
pub record IsRead (g : Graph) (grid : GridSize) (v : Assignment) : Type 0 where
  pub graph : IsTrackGraph g
  pub size : IsGrid grid
  pub few : laws_first g grid ≤ VARS + 1
  pub drawing : Drawing
  pub is : IsReadAs g grid v drawing
