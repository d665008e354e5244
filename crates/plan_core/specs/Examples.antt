-- Track graphs and drawings that were worked out by hand, as examples of the definitions.
-- `crates/cases_text/src/definitions.rt` states what holds of them, as clauses of functions without code.
use Rattle.std.specs.Prelude.{◌≡◌, ℕ, ◌*◌, Bool, ◌&&◌, ◌==◌, List, [], ◌∷◌, pos}
use Rattle.std.specs.List.{list_any, flat_map}
use Rattle.plan_core.specs.declared.point.Point.{Point}
use Rattle.plan_core.specs.declared.point.Slope.{Slope}
use Rattle.plan_core.specs.declared.point.Slope.TheVariants.{Down, Level, Up}
use Rattle.plan_core.specs.declared.criterion.Values.{Values}
use Rattle.plan_core.specs.declared.sides.Compass.TheVariants.{East, West}
use Rattle.plan_core.specs.declared.sides.Side.TheVariants.{Upper, Lower}
use Rattle.plan_core.specs.Grid.{GridSize, grid_size, grid_with}
use Rattle.plan_core.specs.Graph.{Graph, Node, Edge, Ports, End, Switch, Crossing, IsTrackGraph}
use Rattle.plan_core.specs.Drawing.{Drawing, drawing}
use Rattle.plan_core.specs.Lawful.{Lawful}
use Rattle.plan_core.specs.Values.{values_of}

abbrev pub point_at : ℕ → ℕ → Point
point_at x y = record { x = x; y = y }

-- each list of slopes with one more slope in front, in each of the three ways
abbrev pub longer : List (List Slope) → List (List Slope)
longer lists = flat_map (λ slopes. (Down ∷ slopes) ∷ (Level ∷ slopes) ∷ (Up ∷ slopes) ∷ []) lists

-- a node so many metres along the railway, and an edge by its west node and its east node; no law
-- reads a name
abbrev pub node_at_metres : ℕ → Ports → Node
node_at_metres metres ports = record { name = []; mileage = pos (metres * 1000000); ports = ports }

abbrev pub joining : ℕ → ℕ → Edge
joining west east = record { track = []; west = west; east = east }

abbrev pub track_graph : List Node → List Edge → Graph
track_graph nodes edges = record { nodes = nodes; edges = edges }

-- an edge is above another where the two are listed
abbrev pub is_listed : List (ℕ × ℕ) → ℕ → ℕ → Bool
is_listed pairs e f = list_any (λ p. p.0 == e && p.1 == f) pairs

abbrev pub none_above : ℕ → ℕ → Bool
none_above = is_listed []

abbrev pub measured : ℕ → ℕ → ℕ → ℕ → Values
measured height bends diagonal width = record { height = height; bends = bends; diagonal = diagonal; width = width }

-- columns 0 to 40 and rows 0 to 8
abbrev pub usual_grid : GridSize
usual_grid = grid_size 40 8

-- the same columns and rows, and two columns or more for each edge
abbrev pub roomy_grid : GridSize
roomy_grid = grid_with 40 8 2

-- the drawing is a lawful one of a track graph, and measures so much
pub record IsWorked (g : Graph) (above : ℕ → ℕ → Bool) (grid : GridSize) (d : Drawing) (v : Values) : Type 0 where
  pub graph : IsTrackGraph g
  pub lawful : Lawful g above grid d
  pub measures : values_of d ≡ v

-- One track, from 0 to 600 metres.

abbrev pub one_graph : Graph
one_graph = track_graph
    (node_at_metres 0 (End 0 East) ∷ node_at_metres 600 (End 0 West) ∷ [])
    (joining 0 1 ∷ [])

abbrev pub one_drawing : Drawing
one_drawing = drawing
    (point_at 0 0 ∷ point_at 1 0 ∷ [])
    ((point_at 0 0 ∷ point_at 1 0 ∷ []) ∷ [])

-- the same track, as far out on the grid as it goes
abbrev pub farthest_drawing : Drawing
farthest_drawing = drawing
    (point_at 0 8 ∷ point_at 40 8 ∷ [])
    ((point_at 0 8 ∷ point_at 40 8 ∷ []) ∷ [])

-- A loop: a main track from 0 to 600 metres, and on its left another track from a switch at 100 to a
-- switch at 500.

abbrev pub loop_graph : Graph
loop_graph = track_graph
    (node_at_metres 0 (End 0 East) ∷ node_at_metres 600 (End 2 West) ∷ node_at_metres 100 (Switch East Upper 0 1 3)
    ∷ node_at_metres 500 (Switch West Upper 2 1 3) ∷ [])
    (joining 0 2 ∷ joining 2 3 ∷ joining 3 1 ∷ joining 2 3 ∷ [])

abbrev pub loop_above : ℕ → ℕ → Bool
loop_above = is_listed ((3, 1) ∷ [])

abbrev pub loop_drawing : Drawing
loop_drawing = drawing
    (point_at 0 0 ∷ point_at 5 0 ∷ point_at 1 0 ∷ point_at 4 0 ∷ [])
    ((point_at 0 0 ∷ point_at 1 0 ∷ []) ∷ (point_at 1 0 ∷ point_at 4 0 ∷ []) ∷ (point_at 4 0 ∷ point_at 5 0 ∷ [])
    ∷ (point_at 1 0 ∷ point_at 2 1 ∷ point_at 3 1 ∷ point_at 4 0 ∷ []) ∷ [])

-- the same with two columns for each edge, as few as the roomy grid allows
abbrev pub roomy_drawing : Drawing
roomy_drawing = drawing
    (point_at 0 0 ∷ point_at 7 0 ∷ point_at 2 0 ∷ point_at 5 0 ∷ [])
    ((point_at 0 0 ∷ point_at 2 0 ∷ []) ∷ (point_at 2 0 ∷ point_at 5 0 ∷ []) ∷ (point_at 5 0 ∷ point_at 7 0 ∷ [])
    ∷ (point_at 2 0 ∷ point_at 3 1 ∷ point_at 4 1 ∷ point_at 5 0 ∷ []) ∷ [])

-- The same loop, listed from the main track's east end to its west end; again edge 3 is above edge 1.

abbrev pub back_graph : Graph
back_graph = track_graph
    (node_at_metres 600 (End 0 West) ∷ node_at_metres 0 (End 2 East) ∷ node_at_metres 500 (Switch West Upper 0 1 3)
    ∷ node_at_metres 100 (Switch East Upper 2 1 3) ∷ [])
    (joining 2 0 ∷ joining 3 2 ∷ joining 1 3 ∷ joining 3 2 ∷ [])

abbrev pub back_drawing : Drawing
back_drawing = drawing
    (point_at 5 0 ∷ point_at 0 0 ∷ point_at 4 0 ∷ point_at 1 0 ∷ [])
    ((point_at 4 0 ∷ point_at 5 0 ∷ []) ∷ (point_at 1 0 ∷ point_at 4 0 ∷ []) ∷ (point_at 0 0 ∷ point_at 1 0 ∷ [])
    ∷ (point_at 1 0 ∷ point_at 2 1 ∷ point_at 3 1 ∷ point_at 4 0 ∷ []) ∷ [])

-- Two tracks and a crossover: from a switch at 200 metres of the lower one to a switch at 260 of the
-- upper one.

abbrev pub cross_graph : Graph
cross_graph = track_graph
    (node_at_metres 0 (End 0 East) ∷ node_at_metres 1000 (End 1 West) ∷ node_at_metres 200 (Switch East Upper 0 1 4)
    ∷ node_at_metres 0 (End 2 East) ∷ node_at_metres 1000 (End 3 West) ∷ node_at_metres 260 (Switch West Lower 3 2 4)
    ∷ [])
    (joining 0 2 ∷ joining 2 1 ∷ joining 3 5 ∷ joining 5 4 ∷ joining 2 5 ∷ [])

abbrev pub cross_above : ℕ → ℕ → Bool
cross_above = is_listed ((2, 0) ∷ (2, 4) ∷ (3, 1) ∷ (4, 1) ∷ [])

abbrev pub cross_drawing : Drawing
cross_drawing = drawing
    (point_at 0 0 ∷ point_at 3 0 ∷ point_at 1 0 ∷ point_at 0 1 ∷ point_at 3 1 ∷ point_at 2 1 ∷ [])
    ((point_at 0 0 ∷ point_at 1 0 ∷ []) ∷ (point_at 1 0 ∷ point_at 3 0 ∷ []) ∷ (point_at 0 1 ∷ point_at 2 1 ∷ [])
    ∷ (point_at 2 1 ∷ point_at 3 1 ∷ [])
    ∷ (point_at 1 0 ∷ point_at 2 1 ∷ []) ∷ [])

-- Two tracks of the same mileages, apart from each other; no order says which is the upper one.

abbrev pub two_graph : Graph
two_graph = track_graph
    (node_at_metres 0 (End 0 East) ∷ node_at_metres 600 (End 0 West) ∷ node_at_metres 0 (End 1 East)
    ∷ node_at_metres 600 (End 1 West)
    ∷ [])
    (joining 0 1 ∷ joining 2 3 ∷ [])

abbrev pub two_drawing : Drawing
two_drawing = drawing
    (point_at 0 0 ∷ point_at 1 0 ∷ point_at 0 1 ∷ point_at 1 1 ∷ [])
    ((point_at 0 0 ∷ point_at 1 0 ∷ []) ∷ (point_at 0 1 ∷ point_at 1 1 ∷ []) ∷ [])

-- Two tracks and two crossovers that cross each other half-way.

abbrev pub scissors_graph : Graph
scissors_graph = track_graph
    (node_at_metres 0 (End 0 East) ∷ node_at_metres 300 (End 2 West) ∷ node_at_metres 100 (Switch East Upper 0 1 6)
    ∷ node_at_metres 130 (Switch West Upper 2 1 8) ∷ node_at_metres 0 (End 3 East) ∷ node_at_metres 300 (End 5 West)
    ∷ node_at_metres 100 (Switch East Lower 3 4 9) ∷ node_at_metres 130 (Switch West Lower 5 4 7)
    ∷ node_at_metres 115 (Crossing 9 6 7 8) ∷ [])
    (joining 0 2 ∷ joining 2 3 ∷ joining 3 1 ∷ joining 4 6 ∷ joining 6 7 ∷ joining 7 5 ∷ joining 2 8
    ∷ joining 8 7 ∷ joining 8 3 ∷ joining 6 8 ∷ [])

abbrev pub scissors_above : ℕ → ℕ → Bool
scissors_above = is_listed ((3, 0) ∷ (4, 6) ∷ (4, 7) ∷ (4, 8) ∷ (4, 9) ∷ (5, 2) ∷ (6, 1) ∷ (7, 1) ∷ (7, 8) ∷ (8, 1)
    ∷ (9, 1)
    ∷ (9, 6) ∷ [])

abbrev pub scissors_drawing : Drawing
scissors_drawing = drawing
    (point_at 0 0 ∷ point_at 4 0 ∷ point_at 1 0 ∷ point_at 3 0 ∷ point_at 0 2 ∷ point_at 4 2 ∷ point_at 1 2
    ∷ point_at 3 2 ∷ point_at 2 1 ∷ [])
    ((point_at 0 0 ∷ point_at 1 0 ∷ []) ∷ (point_at 1 0 ∷ point_at 3 0 ∷ []) ∷ (point_at 3 0 ∷ point_at 4 0 ∷ [])
    ∷ (point_at 0 2 ∷ point_at 1 2 ∷ [])
    ∷ (point_at 1 2 ∷ point_at 3 2 ∷ []) ∷ (point_at 3 2 ∷ point_at 4 2 ∷ []) ∷ (point_at 1 0 ∷ point_at 2 1 ∷ [])
    ∷ (point_at 2 1 ∷ point_at 3 2 ∷ [])
    ∷ (point_at 2 1 ∷ point_at 3 0 ∷ []) ∷ (point_at 1 2 ∷ point_at 2 1 ∷ []) ∷ [])

-- A station: two tracks, a crossover, and a loop beside the upper track.

abbrev pub station_graph : Graph
station_graph = track_graph
    (node_at_metres 0 (End 0 East) ∷ node_at_metres 1000 (End 1 West) ∷ node_at_metres 200 (Switch East Upper 0 1 6)
    ∷ node_at_metres 0 (End 2 East) ∷ node_at_metres 1000 (End 5 West) ∷ node_at_metres 260 (Switch West Lower 3 2 6)
    ∷ node_at_metres 400 (Switch East Upper 3 4 7) ∷ node_at_metres 800 (Switch West Upper 5 4 7) ∷ [])
    (joining 0 2 ∷ joining 2 1 ∷ joining 3 5 ∷ joining 5 6 ∷ joining 6 7 ∷ joining 7 4 ∷ joining 2 5
    ∷ joining 6 7 ∷ [])

abbrev pub station_above : ℕ → ℕ → Bool
station_above = is_listed ((2, 0) ∷ (2, 6) ∷ (3, 1) ∷ (4, 1) ∷ (5, 1) ∷ (6, 1) ∷ (7, 1) ∷ (7, 4) ∷ [])

abbrev pub station_drawing : Drawing
station_drawing = drawing
    (point_at 0 0 ∷ point_at 7 0 ∷ point_at 1 0 ∷ point_at 0 1 ∷ point_at 7 1 ∷ point_at 2 1 ∷ point_at 3 1
    ∷ point_at 6 1 ∷ [])
    ((point_at 0 0 ∷ point_at 1 0 ∷ []) ∷ (point_at 1 0 ∷ point_at 7 0 ∷ []) ∷ (point_at 0 1 ∷ point_at 2 1 ∷ [])
    ∷ (point_at 2 1 ∷ point_at 3 1 ∷ [])
    ∷ (point_at 3 1 ∷ point_at 6 1 ∷ []) ∷ (point_at 6 1 ∷ point_at 7 1 ∷ []) ∷ (point_at 1 0 ∷ point_at 2 1 ∷ [])
    ∷ (point_at 3 1 ∷ point_at 4 2 ∷ point_at 5 2 ∷ point_at 6 1 ∷ []) ∷ [])
