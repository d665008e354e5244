-- The formula of a graph on a grid in which the least length isn't named: each line leads from west to east.
use Rattle.std.specs.Prelude.{ℕ, ◌+◌, Bool, [], ◌++◌, length}
use Rattle.plan_core.specs.Grid.{GridSize}
use Rattle.plan_core.specs.Graph.{Graph, edge}
use Rattle.cnf_core.specs.Clause.{Clauses}
use Rattle.cnf_core.specs.Formula.{each}
use Rattle.order_int.specs.OrderInt.{int_clauses, le_clauses, equal_clauses}
use Rattle.edge_shape.specs.EdgeVars.{NodeInts, EdgeLits}
use Rattle.edge_shape.specs.Edge.{column_clauses, whole_clauses, further_clauses}
use Rattle.cnf_laws.specs.Stands.{DrawingVars}
use Rattle.cnf_laws.specs.LawClauses.{laws_clauses}
use Rattle.cnf_laws.specs.Expected.{drawing_vars, laws_first, node_clauses, instances}

-- the west node's column is less than the east node's, and the line's ends have the nodes' heights
abbrev pub eastward_clauses : EdgeLits → NodeInts → NodeInts → ℕ → Clauses
eastward_clauses e west east width =
    le_clauses west.x east.x 1 [] ++ (equal_clauses (e.height 0) west.y [] ++ equal_clauses (e.height width) east.y [])

abbrev pub edge_without_least : EdgeLits → NodeInts → NodeInts → ℕ → ℕ → Clauses
edge_without_least e west east high width =
    (each (λ c. int_clauses (e.height c)) 0 (width + 1) ++ eastward_clauses e west east width)
    ++ (column_clauses e west east high width
    ++ (whole_clauses e west east width ++ further_clauses e west east high width))

abbrev pub base_without_least : Graph → DrawingVars → ℕ → ℕ → Clauses
base_without_least g x high width =
    each (λ n. node_clauses (x.node n)) 0 (length g.nodes)
    ++ each (λ e. edge_without_least (x.edge e) (x.node (edge g e).west) (x.node (edge g e).east) high width) 0
    (length g.edges)

-- the formula's clauses with no word of a least length: of each edge the west node's column is less than
-- the east node's
abbrev pub clauses_without_least : Graph → (ℕ → ℕ → Bool) → (ℕ → ℕ → Bool) → GridSize → Clauses
clauses_without_least g above overlap grid =
    base_without_least g (drawing_vars g grid) grid.height grid.width
    ++ laws_clauses g (drawing_vars g grid) grid.width (laws_first g grid) (instances g above overlap)
