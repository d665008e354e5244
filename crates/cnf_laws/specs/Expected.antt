-- The whole formula of a graph on a grid, and what it is to be: sound, and complete.
use Rattle.std.specs.Prelude.{ℕ, zero, suc, ◌+◌, ◌*◌, ◌-◌, Bool, ◌||◌, not, cond, List, [], ◌∷◌, ◌++◌, length}
use Rattle.plan_core.specs.Grid.{GridSize}
use Rattle.plan_core.specs.Graph.{Graph, edge}
use Rattle.plan_core.specs.Drawing.{Drawing}
use Rattle.plan_core.specs.Lawful.{Instance, Ordered, Aligned, Apart, Over, Parted, Lawful}
use Rattle.cnf_core.specs.Clause.{Clauses}
use Rattle.cnf_core.specs.Assignment.{Assignment, SatisfiesAll}
use Rattle.cnf_core.specs.Formula.{each}
use Rattle.order_int.specs.IntVars.{int_vars}
use Rattle.order_int.specs.OrderInt.{int_clauses}
use Rattle.edge_shape.specs.EdgeVars.{NodeInts, node_ints, edge_lits, edge_size}
use Rattle.edge_shape.specs.Edge.{edge_clauses}
use Rattle.cnf_laws.specs.Rank.{west_rank}
use Rattle.cnf_laws.specs.Stands.{DrawingVars, StandsFor}
use Rattle.cnf_laws.specs.LawClauses.{laws_clauses, laws_size}

-- Where the variables lie: nodes first, from west to east, then edges by number, then the laws'.

-- the integers at a place of the row of nodes, y first
abbrev pub ints_at_place : GridSize → ℕ → NodeInts
ints_at_place grid k =
    node_ints (int_vars 0 grid.width (1 + k * (grid.height + grid.width) + grid.height))
    (int_vars 0 grid.height (1 + k * (grid.height + grid.width)))

-- the first variable behind those of the nodes
abbrev pub edges_first : Graph → GridSize → ℕ
edges_first g grid = 1 + length g.nodes * (grid.height + grid.width)

-- the first variable of edge e; the edges lie one behind another, by number
abbrev pub edge_first : Graph → GridSize → ℕ → ℕ
edge_first g grid e = edges_first g grid + e * edge_size grid.height grid.width

-- where the variables of each node and of each edge lie: the nodes' from west to east, then the edges' by
-- number
abbrev pub drawing_vars : Graph → GridSize → DrawingVars
drawing_vars g grid = record {
  node = λ n. ints_at_place grid (west_rank g n);
  edge = λ e. edge_lits (edge_first g grid e) grid.height grid.width;
}

-- the first variable behind those of nodes and edges
abbrev pub laws_first : Graph → GridSize → ℕ
laws_first g grid = edge_first g grid (length g.edges)

-- The instances that have clauses: laws 2 and 5 for each two nodes, 4 for each node, 6 and 7 for each two
-- edges, as the tables have them.

-- the lists of f at first and the n - 1 numbers after it
abbrev pub instances_from : (ℕ → List Instance) → ℕ → ℕ → List Instance
instances_from f first zero = []
instances_from f first (suc n) = f first ++ instances_from f (first + 1) n

-- those of each two numbers below n, the smaller first
abbrev pub pairs_from : ℕ → (ℕ → ℕ → List Instance) → ℕ → List Instance
pairs_from n f a = instances_from (f a) (a + 1) (n - (a + 1))

abbrev pub instance_pairs : ℕ → (ℕ → ℕ → List Instance) → List Instance
instance_pairs n f = instances_from (pairs_from n f) 0 n

-- of two edges, the smaller number first: which law they have
abbrev pub below_by : Bool → Bool → Bool → ℕ → ℕ → List Instance
below_by above below overlap e f = cond below (Over f e ∷ []) []
    ++ cond (above || (below || not overlap)) [] (Parted e f ∷ [])

abbrev pub pair_by : Bool → Bool → Bool → ℕ → ℕ → List Instance
pair_by above below overlap e f = cond above (Over e f ∷ []) [] ++ below_by above below overlap e f

abbrev pub edge_pair : (ℕ → ℕ → Bool) → (ℕ → ℕ → Bool) → ℕ → ℕ → List Instance
edge_pair above overlap e f = pair_by (above e f) (above f e) (overlap e f) e f

-- those of laws 5, 6 and 7
abbrev pub last_instances : Graph → (ℕ → ℕ → Bool) → (ℕ → ℕ → Bool) → List Instance
last_instances g above overlap =
    instance_pairs (length g.nodes) (λ u v. Apart u v ∷ [])
    ++ instance_pairs (length g.edges) (edge_pair above overlap)

-- and of law 4 before them
abbrev pub later_instances : Graph → (ℕ → ℕ → Bool) → (ℕ → ℕ → Bool) → List Instance
later_instances g above overlap =
    instances_from (λ n. Aligned n ∷ []) 0 (length g.nodes) ++ last_instances g above overlap

-- the instances of a graph that have clauses: those of law 2, then of law 4, law 5, and laws 6 and 7
abbrev pub instances : Graph → (ℕ → ℕ → Bool) → (ℕ → ℕ → Bool) → List Instance
instances g above overlap =
    instance_pairs (length g.nodes) (λ u v. Ordered u v ∷ []) ++ later_instances g above overlap

-- The parts.

abbrev pub node_clauses : NodeInts → Clauses
node_clauses n = int_clauses n.y ++ int_clauses n.x

abbrev pub edge_part : Graph → DrawingVars → GridSize → ℕ → Clauses
edge_part g x grid e = edge_clauses (x.edge e) (x.node (edge g e).west) (x.node (edge g e).east) grid.least grid.height
    grid.width

-- the clauses of nodes and of edges
abbrev pub base_clauses : Graph → DrawingVars → GridSize → Clauses
base_clauses g x grid = each (λ n. node_clauses (x.node n)) 0 (length g.nodes)
    ++ each (edge_part g x grid) 0 (length g.edges)

abbrev pub expected_clauses : Graph → GridSize → List Instance → Clauses
expected_clauses g grid laws =
    base_clauses g (drawing_vars g grid) grid ++ laws_clauses g (drawing_vars g grid) grid.width (laws_first g grid)
    laws

-- how many variables it has
abbrev pub expected_size : Graph → GridSize → List Instance → ℕ
expected_size g grid laws = laws_first g grid + laws_size g laws - 1

-- The formula of a graph whose tables say which edges are above which, and which overlap.

-- the clauses of a graph's drawings: those of its nodes, of its edges, and of each instance of a law
abbrev pub formula_clauses : Graph → (ℕ → ℕ → Bool) → (ℕ → ℕ → Bool) → GridSize → Clauses
formula_clauses g above overlap grid = expected_clauses g grid (instances g above overlap)

-- how many variables these clauses have
abbrev pub formula_size : Graph → (ℕ → ℕ → Bool) → (ℕ → ℕ → Bool) → GridSize → ℕ
formula_size g above overlap grid = expected_size g grid (instances g above overlap)

-- How many words and variables it has at most: the parts of a graph are its nodes and edges, the area of a grid its
-- points.

-- how many nodes and edges the graph has together
abbrev pub parts : Graph → ℕ
parts g = length g.nodes + length g.edges

-- how many points the grid has
abbrev pub area : GridSize → ℕ
area grid = (grid.width + 1) * (grid.height + 1)

-- how many words the formula has at most
abbrev pub most_words : Graph → GridSize → ℕ
most_words g grid = 2000 * (parts g * area grid) + 100 * (parts g * parts g * area grid)

-- how many variables the formula has at most
abbrev pub most_variables : Graph → GridSize → ℕ
most_variables g grid = 100 * (parts g * area grid) + 10 * (parts g * parts g * (grid.width + 1))

-- What a list of clauses over these variables is to be.

-- the assignment stands for a lawful drawing
pub record StandsForLawful (v : Assignment) (g : Graph) (above : ℕ → ℕ → Bool) (grid : GridSize) (x : DrawingVars) :
    Type 0 where
  pub drawing : Drawing
  pub stands : StandsFor v g x drawing
  pub lawful : Lawful g above grid drawing

-- every assignment that satisfies the clauses stands for a lawful drawing
abbrev pub Sound : Graph → (ℕ → ℕ → Bool) → GridSize → DrawingVars → Clauses → Type 0
Sound g above grid x clauses = (v : Assignment) → SatisfiesAll v clauses → StandsForLawful v g above grid x

-- an assignment that satisfies the clauses and stands for the drawing
pub record ModelOf (g : Graph) (x : DrawingVars) (clauses : Clauses) (d : Drawing) : Type 0 where
  pub to : Assignment
  pub satisfies : SatisfiesAll to clauses
  pub stands : StandsFor to g x d

-- every lawful drawing has an assignment that satisfies the clauses and stands for it
abbrev pub Covers : Graph → (ℕ → ℕ → Bool) → GridSize → DrawingVars → Clauses → Type 0
Covers g above grid x clauses = (d : Drawing) → Lawful g above grid d → ModelOf g x clauses d
