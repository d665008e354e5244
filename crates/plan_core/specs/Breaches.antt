-- Drawings that break one law alone, and graphs that are no track graphs.
-- There are at least two drawings for each law. `crates/cases_text/src/definitions.rt` states what they
-- break.
use Rattle.std.specs.Prelude.{◌↔◌, ℕ, Bool, List, [], ◌∷◌, Contains}
use Rattle.plan_core.specs.declared.sides.Compass.TheVariants.{East, West}
use Rattle.plan_core.specs.declared.sides.Side.TheVariants.{Upper}
use Rattle.plan_core.specs.Grid.{GridSize}
use Rattle.plan_core.specs.Graph.{Graph, End, Joint, Switch}
use Rattle.plan_core.specs.Drawing.{Drawing, drawing}
use Rattle.plan_core.specs.Lawful.{Instance, IsInstance, Meets, Fits, Lawful}
use Rattle.plan_core.specs.Examples.{point_at, node_at_metres, joining, track_graph}

-- the drawing fits the graph and isn't lawful: these instances are broken, and no others
pub record BreaksJust (g : Graph) (above : ℕ → ℕ → Bool) (grid : GridSize) (d : Drawing) (instances : List Instance) :
    Type 0 where
  pub fits : Fits g d
  pub unlawful : Lawful g above grid d → ⊥
  pub broken : (i : Instance) → Contains instances i ↔ (IsInstance g above i × (Meets g grid d i → ⊥))

-- Two tracks, the second of which begins at the mileage where the first ends.

abbrev pub meeting_graph : Graph
meeting_graph = track_graph
    (node_at_metres 0 (End 0 East) ∷ node_at_metres 600 (End 0 West) ∷ node_at_metres 600 (End 1 East)
    ∷ node_at_metres 900 (End 1 West) ∷ [])
    (joining 0 1 ∷ joining 2 3 ∷ [])

-- Two tracks, the second of which begins beyond the first.

abbrev pub parted_graph : Graph
parted_graph = track_graph
    (node_at_metres 0 (End 0 East) ∷ node_at_metres 300 (End 0 West) ∷ node_at_metres 400 (End 1 East)
    ∷ node_at_metres 900 (End 1 West) ∷ [])
    (joining 0 1 ∷ joining 2 3 ∷ [])

-- Two tracks that are joined end to end, and a third beside them.

abbrev pub joined_graph : Graph
joined_graph = track_graph
    (node_at_metres 0 (End 0 East) ∷ node_at_metres 300 (Joint 0 1) ∷ node_at_metres 600 (End 1 West)
    ∷ node_at_metres 0 (End 2 East)
    ∷ node_at_metres 600 (End 2 West) ∷ [])
    (joining 0 1 ∷ joining 1 2 ∷ joining 3 4 ∷ [])

-- Law 1: a track that goes past the last column; a loop that goes past the last row.

abbrev pub too_wide : Drawing
too_wide = drawing
    (point_at 0 0 ∷ point_at 41 0 ∷ [])
    ((point_at 0 0 ∷ point_at 41 0 ∷ []) ∷ [])

abbrev pub too_high : Drawing
too_high = drawing
    (point_at 0 8 ∷ point_at 5 8 ∷ point_at 1 8 ∷ point_at 4 8 ∷ [])
    ((point_at 0 8 ∷ point_at 1 8 ∷ []) ∷ (point_at 1 8 ∷ point_at 4 8 ∷ []) ∷ (point_at 4 8 ∷ point_at 5 8 ∷ [])
    ∷ (point_at 1 8 ∷ point_at 2 9 ∷ point_at 3 9 ∷ point_at 4 8 ∷ []) ∷ [])

-- Law 2: the ends of two tracks have one mileage and two columns; the track of greater mileages lies
-- further west.

abbrev pub uneven : Drawing
uneven = drawing
    (point_at 0 0 ∷ point_at 2 0 ∷ point_at 0 1 ∷ point_at 3 1 ∷ [])
    ((point_at 0 0 ∷ point_at 2 0 ∷ []) ∷ (point_at 0 1 ∷ point_at 3 1 ∷ []) ∷ [])

abbrev pub swapped : Drawing
swapped = drawing
    (point_at 5 0 ∷ point_at 6 0 ∷ point_at 0 0 ∷ point_at 2 0 ∷ [])
    ((point_at 5 0 ∷ point_at 6 0 ∷ []) ∷ (point_at 0 0 ∷ point_at 2 0 ∷ []) ∷ [])

-- Law 3: a line that doesn't reach its east node; two lines that lie at each other's nodes; on a grid that
-- asks for two columns, a loop whose last edge has one.

abbrev pub short : Drawing
short = drawing
    (point_at 0 0 ∷ point_at 3 0 ∷ [])
    ((point_at 0 0 ∷ point_at 2 0 ∷ []) ∷ [])

abbrev pub exchanged : Drawing
exchanged = drawing
    (point_at 0 0 ∷ point_at 1 0 ∷ point_at 0 1 ∷ point_at 1 1 ∷ [])
    ((point_at 0 1 ∷ point_at 1 1 ∷ []) ∷ (point_at 0 0 ∷ point_at 1 0 ∷ []) ∷ [])

abbrev pub crowded : Drawing
crowded = drawing
    (point_at 0 0 ∷ point_at 6 0 ∷ point_at 2 0 ∷ point_at 5 0 ∷ [])
    ((point_at 0 0 ∷ point_at 2 0 ∷ []) ∷ (point_at 2 0 ∷ point_at 5 0 ∷ []) ∷ (point_at 5 0 ∷ point_at 6 0 ∷ [])
    ∷ (point_at 2 0 ∷ point_at 3 1 ∷ point_at 4 1 ∷ point_at 5 0 ∷ []) ∷ [])

-- Law 4: a leg that turns off by two slopes; the rising path bent at a crossing, and the falling path;
-- the main track bent at a switch; a track that isn't level at its ends; a track bent at a joint.

abbrev pub too_steep : Drawing
too_steep = drawing
    (point_at 0 0 ∷ point_at 7 2 ∷ point_at 1 0 ∷ point_at 5 1 ∷ [])
    ((point_at 0 0 ∷ point_at 1 0 ∷ []) ∷ (point_at 1 0 ∷ point_at 4 0 ∷ point_at 5 1 ∷ [])
    ∷ (point_at 5 1 ∷ point_at 6 2 ∷ point_at 7 2 ∷ [])
    ∷ (point_at 1 0 ∷ point_at 3 2 ∷ point_at 4 2 ∷ point_at 5 1 ∷ []) ∷ [])

abbrev pub bent_rising_path : Drawing
bent_rising_path = drawing
    (point_at 0 1 ∷ point_at 7 1 ∷ point_at 1 1 ∷ point_at 6 1 ∷ point_at 0 5 ∷ point_at 7 5 ∷ point_at 1 5
    ∷ point_at 6 5 ∷ point_at 3 3 ∷ [])
    ((point_at 0 1 ∷ point_at 1 1 ∷ []) ∷ (point_at 1 1 ∷ point_at 6 1 ∷ []) ∷ (point_at 6 1 ∷ point_at 7 1 ∷ [])
    ∷ (point_at 0 5 ∷ point_at 1 5 ∷ [])
    ∷ (point_at 1 5 ∷ point_at 6 5 ∷ []) ∷ (point_at 6 5 ∷ point_at 7 5 ∷ []) ∷ (point_at 1 1 ∷ point_at 3 3 ∷ [])
    ∷ (point_at 3 3 ∷ point_at 4 3 ∷ point_at 6 5 ∷ [])
    ∷ (point_at 3 3 ∷ point_at 4 2 ∷ point_at 5 2 ∷ point_at 6 1 ∷ []) ∷ (point_at 1 5 ∷ point_at 3 3 ∷ [])
    ∷ [])

abbrev pub bent_falling_path : Drawing
bent_falling_path = drawing
    (point_at 0 1 ∷ point_at 7 1 ∷ point_at 1 1 ∷ point_at 6 1 ∷ point_at 0 5 ∷ point_at 7 5 ∷ point_at 1 5
    ∷ point_at 6 5 ∷ point_at 3 3 ∷ [])
    ((point_at 0 1 ∷ point_at 1 1 ∷ []) ∷ (point_at 1 1 ∷ point_at 6 1 ∷ []) ∷ (point_at 6 1 ∷ point_at 7 1 ∷ [])
    ∷ (point_at 0 5 ∷ point_at 1 5 ∷ [])
    ∷ (point_at 1 5 ∷ point_at 6 5 ∷ []) ∷ (point_at 6 5 ∷ point_at 7 5 ∷ []) ∷ (point_at 1 1 ∷ point_at 3 3 ∷ [])
    ∷ (point_at 3 3 ∷ point_at 4 4 ∷ point_at 5 4 ∷ point_at 6 5 ∷ [])
    ∷ (point_at 3 3 ∷ point_at 4 3 ∷ point_at 6 1 ∷ []) ∷ (point_at 1 5 ∷ point_at 3 3 ∷ [])
    ∷ [])

abbrev pub bent_main : Drawing
bent_main = drawing
    (point_at 0 0 ∷ point_at 6 1 ∷ point_at 1 0 ∷ point_at 5 1 ∷ [])
    ((point_at 0 0 ∷ point_at 1 0 ∷ []) ∷ (point_at 1 0 ∷ point_at 4 0 ∷ point_at 5 1 ∷ [])
    ∷ (point_at 5 1 ∷ point_at 6 1 ∷ [])
    ∷ (point_at 1 0 ∷ point_at 3 2 ∷ point_at 4 2 ∷ point_at 5 1 ∷ []) ∷ [])

abbrev pub sloping : Drawing
sloping = drawing
    (point_at 0 0 ∷ point_at 2 2 ∷ [])
    ((point_at 0 0 ∷ point_at 2 2 ∷ []) ∷ [])

abbrev pub kinked : Drawing
kinked = drawing
    (point_at 0 0 ∷ point_at 2 0 ∷ point_at 4 1 ∷ point_at 0 3 ∷ point_at 4 3 ∷ [])
    ((point_at 0 0 ∷ point_at 2 0 ∷ []) ∷ (point_at 2 0 ∷ point_at 3 1 ∷ point_at 4 1 ∷ [])
    ∷ (point_at 0 3 ∷ point_at 4 3 ∷ []) ∷ [])

-- Law 5: two tracks that meet in one point, of one mileage and of two.

abbrev pub one_point : Drawing
one_point = drawing
    (point_at 0 2 ∷ point_at 3 2 ∷ point_at 3 2 ∷ point_at 4 2 ∷ [])
    ((point_at 0 2 ∷ point_at 3 2 ∷ []) ∷ (point_at 3 2 ∷ point_at 4 2 ∷ []) ∷ [])

abbrev pub touching : Drawing
touching = drawing
    (point_at 0 0 ∷ point_at 1 0 ∷ point_at 1 0 ∷ point_at 4 0 ∷ [])
    ((point_at 0 0 ∷ point_at 1 0 ∷ []) ∷ (point_at 1 0 ∷ point_at 4 0 ∷ []) ∷ [])

-- Law 6: the lower track of a crossover begins above the upper one; it ends above it.

abbrev pub begins_above : Drawing
begins_above = drawing
    (point_at 0 4 ∷ point_at 9 0 ∷ point_at 3 2 ∷ point_at 0 3 ∷ point_at 9 1 ∷ point_at 6 2 ∷ [])
    ((point_at 0 4 ∷ point_at 1 4 ∷ point_at 3 2 ∷ []) ∷ (point_at 3 2 ∷ point_at 5 0 ∷ point_at 9 0 ∷ [])
    ∷ (point_at 0 3 ∷ point_at 5 3 ∷ point_at 6 2 ∷ [])
    ∷ (point_at 6 2 ∷ point_at 7 1 ∷ point_at 9 1 ∷ []) ∷ (point_at 3 2 ∷ point_at 6 2 ∷ []) ∷ [])

abbrev pub ends_below : Drawing
ends_below = drawing
    (point_at 0 1 ∷ point_at 9 1 ∷ point_at 1 1 ∷ point_at 0 3 ∷ point_at 9 0 ∷ point_at 3 2 ∷ [])
    ((point_at 0 1 ∷ point_at 1 1 ∷ []) ∷ (point_at 1 1 ∷ point_at 9 1 ∷ [])
    ∷ (point_at 0 3 ∷ point_at 2 3 ∷ point_at 3 2 ∷ [])
    ∷ (point_at 3 2 ∷ point_at 5 0 ∷ point_at 9 0 ∷ []) ∷ (point_at 1 1 ∷ point_at 2 2 ∷ point_at 3 2 ∷ []) ∷ [])

-- Law 7: one of two joined tracks ends on the track beside them; one crosses it.

abbrev pub touched_drawing : Drawing
touched_drawing = drawing
    (point_at 0 2 ∷ point_at 2 1 ∷ point_at 5 0 ∷ point_at 0 1 ∷ point_at 5 1 ∷ [])
    ((point_at 0 2 ∷ point_at 1 2 ∷ point_at 2 1 ∷ []) ∷ (point_at 2 1 ∷ point_at 3 0 ∷ point_at 5 0 ∷ [])
    ∷ (point_at 0 1 ∷ point_at 5 1 ∷ []) ∷ [])

abbrev pub crossed_drawing : Drawing
crossed_drawing = drawing
    (point_at 0 3 ∷ point_at 3 1 ∷ point_at 6 0 ∷ point_at 0 2 ∷ point_at 6 2 ∷ [])
    ((point_at 0 3 ∷ point_at 1 3 ∷ point_at 3 1 ∷ []) ∷ (point_at 3 1 ∷ point_at 4 0 ∷ point_at 6 0 ∷ [])
    ∷ (point_at 0 2 ∷ point_at 6 2 ∷ []) ∷ [])

-- No track graphs: each has one thing wrong.

-- an edge from the greater mileage to the smaller one
abbrev pub backwards_graph : Graph
backwards_graph = track_graph
    (node_at_metres 600 (End 0 East) ∷ node_at_metres 0 (End 0 West) ∷ [])
    (joining 0 1 ∷ [])

-- an edge between equal mileages
abbrev pub flat_graph : Graph
flat_graph = track_graph
    (node_at_metres 300 (End 0 East) ∷ node_at_metres 300 (End 0 West) ∷ [])
    (joining 0 1 ∷ [])

-- an edge to a node that isn't there
abbrev pub loose_graph : Graph
loose_graph = track_graph
    (node_at_metres 0 (End 0 East) ∷ [])
    (joining 0 1 ∷ [])

-- an end whose edge lies on the other side
abbrev pub misplaced_graph : Graph
misplaced_graph = track_graph
    (node_at_metres 0 (End 0 West) ∷ node_at_metres 600 (End 0 West) ∷ [])
    (joining 0 1 ∷ [])

-- an edge that is no port of its west node
abbrev pub stray_graph : Graph
stray_graph = track_graph
    (node_at_metres 0 (End 0 East) ∷ node_at_metres 600 (End 0 West) ∷ node_at_metres 600 (End 1 West) ∷ [])
    (joining 0 1 ∷ joining 0 2 ∷ [])

-- a switch with one edge as both legs
abbrev pub one_legged_graph : Graph
one_legged_graph = track_graph
    (node_at_metres 0 (End 0 East) ∷ node_at_metres 100 (Switch East Upper 0 1 1) ∷ node_at_metres 600 (End 1 West)
    ∷ [])
    (joining 0 1 ∷ joining 1 2 ∷ [])

-- a port whose edge isn't there
abbrev pub idle_graph : Graph
idle_graph = track_graph
    (node_at_metres 0 (End 0 East) ∷ node_at_metres 600 (End 0 West) ∷ node_at_metres 900 (End 1 West) ∷ [])
    (joining 0 1 ∷ [])
