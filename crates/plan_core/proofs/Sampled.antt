-- Drawings taken at random, and what bench/sample_drawings.py, which was written apart from the
-- definitions, says of each: the broken instances in their order, and the values.
use Rattle.std.proofs.Common.{◌≡◌, ℕ, Bool, List, [], ◌∷◌, refl}
use Rattle.plan_core.specs.declared.criterion.Values.{Values}
use Rattle.plan_core.specs.declared.sides.Compass.TheVariants.{East, West}
use Rattle.plan_core.specs.Graph.{Graph, End, Joint}
use Rattle.plan_core.specs.Drawing.{Drawing, drawing}
use Rattle.plan_core.specs.Lawful.{Instance, NodeOnGrid, LineOnGrid, Ordered, Joined, Aligned, Apart, Over, Parted}
use Rattle.plan_core.specs.Values.{values_of}
use Rattle.plan_core.specs.Examples.{point_at, node_at_metres, joining, track_graph, measured, usual_grid, one_graph, none_above, loop_graph, loop_above}
use Rattle.plan_core.specs.Examples.{back_graph, cross_graph, cross_above, two_graph, scissors_graph, scissors_above, station_graph, station_above}
use Rattle.plan_core.specs.Breaches.{meeting_graph, parted_graph, joined_graph}
use Rattle.plan_core.proofs.LawfulTest.{broken}

record IsJudged (g : Graph) (above : ℕ → ℕ → Bool) (d : Drawing) (instances : List Instance) (v : Values) : Type 0 where
  laws : broken g above usual_grid d ≡ instances
  values : values_of d ≡ v

abbrev pairs_graph : Graph
pairs_graph = track_graph
    (node_at_metres 0 (End 0 East) ∷ node_at_metres 300 (Joint 0 1) ∷ node_at_metres 600 (End 1 West) ∷ node_at_metres 0 (End 2 East)
    ∷ node_at_metres 300 (Joint 2 3) ∷ node_at_metres 600 (End 3 West) ∷ [])
    (joining 0 1 ∷ joining 1 2 ∷ joining 3 4 ∷ joining 4 5 ∷ [])

abbrev three_graph : Graph
three_graph = track_graph
    (node_at_metres 0 (End 0 East) ∷ node_at_metres 300 (End 0 West) ∷ node_at_metres 300 (End 1 East)
    ∷ node_at_metres 600 (End 1 West) ∷ node_at_metres 0 (End 2 East) ∷ node_at_metres 600 (End 2 West) ∷ [])
    (joining 0 1 ∷ joining 2 3 ∷ joining 4 5 ∷ [])

-- one track

one_1 : IsJudged one_graph none_above
    (drawing (point_at 2 2 ∷ point_at 0 0 ∷ [])
    ((point_at 3 1 ∷ point_at 4 2 ∷ point_at 5 2 ∷ point_at 9 6 ∷ []) ∷ []))
    (Ordered 0 1 ∷ Joined 0 ∷ Aligned 0 ∷ Aligned 1 ∷ [])
    (measured 6 2 5 9)
one_1 = record { laws = refl; values = refl }

one_2 : IsJudged one_graph none_above
    (drawing (point_at 0 0 ∷ point_at 0 0 ∷ [])
    ((point_at 0 0 ∷ point_at 1 0 ∷ []) ∷ []))
    (Joined 0 ∷ Apart 0 1 ∷ [])
    (measured 0 0 0 1)
one_2 = record { laws = refl; values = refl }

one_3 : IsJudged one_graph none_above
    (drawing (point_at 2 0 ∷ point_at 0 1 ∷ [])
    ((point_at 3 5 ∷ point_at 6 8 ∷ point_at 8 8 ∷ point_at 12 12 ∷ []) ∷ []))
    (LineOnGrid 0 ∷ Ordered 0 1 ∷ Joined 0 ∷ Aligned 0 ∷ Aligned 1 ∷ [])
    (measured 12 2 7 12)
one_3 = record { laws = refl; values = refl }

-- tracks that meet

meeting_1 : IsJudged meeting_graph none_above
    (drawing (point_at 0 0 ∷ point_at 5 0 ∷ point_at 5 1 ∷ point_at 7 1 ∷ [])
    ((point_at 0 0 ∷ point_at 5 0 ∷ []) ∷ (point_at 5 1 ∷ point_at 7 1 ∷ []) ∷ []))
    []
    (measured 1 0 0 7)
meeting_1 = record { laws = refl; values = refl }

meeting_2 : IsJudged meeting_graph none_above
    (drawing (point_at 0 8 ∷ point_at 2 8 ∷ point_at 2 9 ∷ point_at 4 9 ∷ [])
    ((point_at 0 8 ∷ point_at 2 8 ∷ []) ∷ (point_at 2 9 ∷ point_at 4 9 ∷ []) ∷ []))
    (NodeOnGrid 2 ∷ NodeOnGrid 3 ∷ LineOnGrid 1 ∷ [])
    (measured 9 0 0 4)
meeting_2 = record { laws = refl; values = refl }

meeting_3 : IsJudged meeting_graph none_above
    (drawing (point_at 0 0 ∷ point_at 1 0 ∷ point_at 1 0 ∷ point_at 3 0 ∷ [])
    ((point_at 0 0 ∷ point_at 1 0 ∷ []) ∷ (point_at 1 0 ∷ point_at 3 0 ∷ []) ∷ []))
    (Apart 1 2 ∷ [])
    (measured 0 0 0 3)
meeting_3 = record { laws = refl; values = refl }

-- tracks behind each other

parted_1 : IsJudged parted_graph none_above
    (drawing (point_at 0 0 ∷ point_at 2 0 ∷ point_at 3 0 ∷ point_at 4 0 ∷ [])
    ((point_at 0 0 ∷ point_at 2 0 ∷ []) ∷ (point_at 3 0 ∷ point_at 4 0 ∷ []) ∷ []))
    []
    (measured 0 0 0 4)
parted_1 = record { laws = refl; values = refl }

parted_2 : IsJudged parted_graph none_above
    (drawing (point_at 37 1 ∷ point_at 39 1 ∷ point_at 40 1 ∷ point_at 41 1 ∷ [])
    ((point_at 37 1 ∷ point_at 39 1 ∷ []) ∷ (point_at 40 1 ∷ point_at 41 1 ∷ []) ∷ []))
    (NodeOnGrid 3 ∷ LineOnGrid 1 ∷ [])
    (measured 1 0 0 41)
parted_2 = record { laws = refl; values = refl }

parted_3 : IsJudged parted_graph none_above
    (drawing (point_at 0 0 ∷ point_at 4 0 ∷ point_at 3 0 ∷ point_at 5 0 ∷ [])
    ((point_at 0 0 ∷ point_at 4 0 ∷ []) ∷ (point_at 3 0 ∷ point_at 5 0 ∷ []) ∷ []))
    (Ordered 1 2 ∷ [])
    (measured 0 0 0 5)
parted_3 = record { laws = refl; values = refl }

-- two tracks

two_1 : IsJudged two_graph none_above
    (drawing (point_at 35 0 ∷ point_at 36 0 ∷ point_at 35 1 ∷ point_at 36 1 ∷ [])
    ((point_at 35 0 ∷ point_at 36 0 ∷ []) ∷ (point_at 35 1 ∷ point_at 36 1 ∷ []) ∷ []))
    []
    (measured 1 0 0 36)
two_1 = record { laws = refl; values = refl }

two_2 : IsJudged two_graph none_above
    (drawing (point_at 0 0 ∷ point_at 1 0 ∷ point_at 0 0 ∷ point_at 1 0 ∷ [])
    ((point_at 0 0 ∷ point_at 1 0 ∷ []) ∷ (point_at 0 0 ∷ point_at 1 0 ∷ []) ∷ []))
    (Apart 0 2 ∷ Apart 1 3 ∷ Parted 0 1 ∷ [])
    (measured 0 0 0 1)
two_2 = record { laws = refl; values = refl }

two_3 : IsJudged two_graph none_above
    (drawing (point_at 2 2 ∷ point_at 1 2 ∷ point_at 0 0 ∷ point_at 2 0 ∷ [])
    ((point_at 0 0 ∷ point_at 1 0 ∷ []) ∷ (point_at 0 0 ∷ point_at 2 0 ∷ []) ∷ []))
    (Ordered 0 1 ∷ Ordered 0 2 ∷ Ordered 1 3 ∷ Joined 0 ∷ Parted 0 1 ∷ [])
    (measured 2 0 0 2)
two_3 = record { laws = refl; values = refl }

two_4 : IsJudged two_graph none_above
    (drawing (point_at 0 2 ∷ point_at 3 1 ∷ point_at 0 1 ∷ point_at 3 3 ∷ [])
    ((point_at 0 2 ∷ point_at 1 1 ∷ point_at 3 1 ∷ []) ∷ (point_at 0 1 ∷ point_at 2 3 ∷ point_at 3 3 ∷ []) ∷ []))
    (Aligned 0 ∷ Aligned 2 ∷ Parted 0 1 ∷ [])
    (measured 3 2 3 3)
two_4 = record { laws = refl; values = refl }

two_5 : IsJudged two_graph none_above
    (drawing (point_at 0 8 ∷ point_at 1 8 ∷ point_at 0 9 ∷ point_at 1 9 ∷ [])
    ((point_at 0 8 ∷ point_at 1 8 ∷ []) ∷ (point_at 0 9 ∷ point_at 1 9 ∷ []) ∷ []))
    (NodeOnGrid 2 ∷ NodeOnGrid 3 ∷ LineOnGrid 1 ∷ [])
    (measured 9 0 0 1)
two_5 = record { laws = refl; values = refl }

-- joined tracks and one beside them

joined_1 : IsJudged joined_graph none_above
    (drawing (point_at 0 0 ∷ point_at 2 0 ∷ point_at 4 0 ∷ point_at 0 1 ∷ point_at 4 1 ∷ [])
    ((point_at 0 0 ∷ point_at 2 0 ∷ []) ∷ (point_at 2 0 ∷ point_at 4 0 ∷ []) ∷ (point_at 0 1 ∷ point_at 4 1 ∷ []) ∷ []))
    []
    (measured 1 0 0 4)
joined_1 = record { laws = refl; values = refl }

joined_2 : IsJudged joined_graph none_above
    (drawing (point_at 0 0 ∷ point_at 2 0 ∷ point_at 4 0 ∷ point_at 0 1 ∷ point_at 4 1 ∷ [])
    ((point_at 0 0 ∷ point_at 2 0 ∷ []) ∷ (point_at 0 1 ∷ point_at 4 1 ∷ []) ∷ (point_at 0 1 ∷ point_at 4 1 ∷ []) ∷ []))
    (Joined 1 ∷ Parted 1 2 ∷ [])
    (measured 1 0 0 4)
joined_2 = record { laws = refl; values = refl }

joined_3 : IsJudged joined_graph none_above
    (drawing (point_at 0 1 ∷ point_at 4 1 ∷ point_at 4 0 ∷ point_at 0 1 ∷ point_at 4 1 ∷ [])
    ((point_at 0 1 ∷ point_at 4 1 ∷ []) ∷ (point_at 2 0 ∷ point_at 4 0 ∷ []) ∷ (point_at 0 1 ∷ point_at 4 1 ∷ []) ∷ []))
    (Joined 1 ∷ Apart 0 3 ∷ Apart 1 4 ∷ Parted 0 2 ∷ [])
    (measured 1 0 0 4)
joined_3 = record { laws = refl; values = refl }

joined_4 : IsJudged joined_graph none_above
    (drawing (point_at 0 0 ∷ point_at 18 0 ∷ point_at 36 0 ∷ point_at 0 9 ∷ point_at 36 9 ∷ [])
    ((point_at 0 0 ∷ point_at 18 0 ∷ []) ∷ (point_at 18 0 ∷ point_at 36 0 ∷ []) ∷ (point_at 0 9 ∷ point_at 36 9 ∷ []) ∷ []))
    (NodeOnGrid 3 ∷ NodeOnGrid 4 ∷ LineOnGrid 2 ∷ [])
    (measured 9 0 0 36)
joined_4 = record { laws = refl; values = refl }

joined_5 : IsJudged joined_graph none_above
    (drawing (point_at 1 0 ∷ point_at 3 0 ∷ point_at 4 0 ∷ point_at 2 0 ∷ point_at 5 0 ∷ [])
    ((point_at 1 0 ∷ point_at 3 0 ∷ []) ∷ (point_at 3 0 ∷ point_at 4 0 ∷ []) ∷ (point_at 2 0 ∷ point_at 5 0 ∷ []) ∷ []))
    (Ordered 0 3 ∷ Ordered 2 4 ∷ Parted 0 2 ∷ Parted 1 2 ∷ [])
    (measured 0 0 0 5)
joined_5 = record { laws = refl; values = refl }

joined_6 : IsJudged joined_graph none_above
    (drawing (point_at 0 0 ∷ point_at 6 0 ∷ point_at 12 0 ∷ point_at 0 3 ∷ point_at 12 3 ∷ [])
    ((point_at 0 0 ∷ point_at 6 0 ∷ []) ∷ (point_at 6 0 ∷ point_at 7 1 ∷ point_at 11 1 ∷ point_at 12 0 ∷ [])
    ∷ (point_at 1 6 ∷ point_at 5 10 ∷ point_at 6 10 ∷ point_at 10 14 ∷ []) ∷ []))
    (LineOnGrid 2 ∷ Joined 2 ∷ Aligned 1 ∷ Aligned 2 ∷ Aligned 3 ∷ Aligned 4 ∷ [])
    (measured 14 4 10 12)
joined_6 = record { laws = refl; values = refl }

-- two pairs of joined tracks

pairs_1 : IsJudged pairs_graph none_above
    (drawing (point_at 35 0 ∷ point_at 37 0 ∷ point_at 39 0 ∷ point_at 35 2 ∷ point_at 37 2 ∷ point_at 39 2 ∷ [])
    ((point_at 35 0 ∷ point_at 37 0 ∷ []) ∷ (point_at 37 0 ∷ point_at 39 0 ∷ []) ∷ (point_at 35 2 ∷ point_at 37 2 ∷ [])
    ∷ (point_at 37 2 ∷ point_at 39 2 ∷ []) ∷ []))
    []
    (measured 2 0 0 39)
pairs_1 = record { laws = refl; values = refl }

pairs_2 : IsJudged pairs_graph none_above
    (drawing (point_at 0 8 ∷ point_at 2 8 ∷ point_at 4 8 ∷ point_at 0 10 ∷ point_at 2 10 ∷ point_at 4 10 ∷ [])
    ((point_at 0 8 ∷ point_at 2 8 ∷ []) ∷ (point_at 2 8 ∷ point_at 4 8 ∷ []) ∷ (point_at 0 10 ∷ point_at 2 10 ∷ [])
    ∷ (point_at 2 10 ∷ point_at 4 10 ∷ []) ∷ []))
    (NodeOnGrid 3 ∷ NodeOnGrid 4 ∷ NodeOnGrid 5 ∷ LineOnGrid 2 ∷ LineOnGrid 3 ∷ [])
    (measured 10 0 0 4)
pairs_2 = record { laws = refl; values = refl }

pairs_3 : IsJudged pairs_graph none_above
    (drawing (point_at 2 0 ∷ point_at 2 0 ∷ point_at 4 0 ∷ point_at 2 2 ∷ point_at 2 2 ∷ point_at 4 2 ∷ [])
    ((point_at 0 0 ∷ point_at 2 0 ∷ []) ∷ (point_at 2 0 ∷ point_at 4 0 ∷ []) ∷ (point_at 0 2 ∷ point_at 2 2 ∷ []) ∷ (point_at 2 2 ∷ point_at 4 2 ∷ [])
    ∷ []))
    (Joined 0 ∷ Joined 2 ∷ Apart 0 1 ∷ Apart 3 4 ∷ [])
    (measured 2 0 0 4)
pairs_3 = record { laws = refl; values = refl }

pairs_4 : IsJudged pairs_graph none_above
    (drawing (point_at 2 2 ∷ point_at 3 2 ∷ point_at 4 0 ∷ point_at 0 2 ∷ point_at 2 2 ∷ point_at 4 2 ∷ [])
    ((point_at 2 2 ∷ point_at 3 2 ∷ []) ∷ (point_at 2 0 ∷ point_at 4 0 ∷ []) ∷ (point_at 0 2 ∷ point_at 2 2 ∷ []) ∷ (point_at 2 2 ∷ point_at 4 2 ∷ [])
    ∷ []))
    (Ordered 0 3 ∷ Ordered 1 4 ∷ Joined 1 ∷ Apart 0 4 ∷ Parted 0 2 ∷ [])
    (measured 2 0 0 4)
pairs_4 = record { laws = refl; values = refl }

pairs_5 : IsJudged pairs_graph none_above
    (drawing (point_at 0 0 ∷ point_at 2 0 ∷ point_at 4 2 ∷ point_at 0 4 ∷ point_at 2 2 ∷ point_at 4 2 ∷ [])
    ((point_at 0 0 ∷ point_at 2 0 ∷ []) ∷ (point_at 2 0 ∷ point_at 4 2 ∷ []) ∷ (point_at 0 4 ∷ point_at 2 2 ∷ []) ∷ (point_at 2 2 ∷ point_at 4 2 ∷ [])
    ∷ []))
    (Aligned 1 ∷ Aligned 2 ∷ Aligned 3 ∷ Aligned 4 ∷ Apart 2 5 ∷ Parted 1 3 ∷ [])
    (measured 4 0 4 4)
pairs_5 = record { laws = refl; values = refl }

pairs_6 : IsJudged pairs_graph none_above
    (drawing (point_at 0 0 ∷ point_at 18 2 ∷ point_at 36 1 ∷ point_at 0 18 ∷ point_at 18 18 ∷ point_at 36 19 ∷ [])
    ((point_at 0 0 ∷ point_at 18 0 ∷ []) ∷ (point_at 18 0 ∷ point_at 36 0 ∷ []) ∷ (point_at 0 18 ∷ point_at 18 18 ∷ [])
    ∷ (point_at 18 18 ∷ point_at 36 18 ∷ []) ∷ []))
    (NodeOnGrid 3 ∷ NodeOnGrid 4 ∷ NodeOnGrid 5 ∷ LineOnGrid 2 ∷ LineOnGrid 3 ∷ Joined 0 ∷ Joined 1
    ∷ Joined 3 ∷ [])
    (measured 19 0 0 36)
pairs_6 = record { laws = refl; values = refl }

-- two tracks behind each other and one beside them

three_1 : IsJudged three_graph none_above
    (drawing (point_at 0 2 ∷ point_at 2 2 ∷ point_at 2 0 ∷ point_at 4 0 ∷ point_at 0 1 ∷ point_at 4 1 ∷ [])
    ((point_at 0 2 ∷ point_at 2 2 ∷ []) ∷ (point_at 2 0 ∷ point_at 4 0 ∷ []) ∷ (point_at 0 1 ∷ point_at 4 1 ∷ []) ∷ []))
    []
    (measured 2 0 0 4)
three_1 = record { laws = refl; values = refl }

three_2 : IsJudged three_graph none_above
    (drawing (point_at 0 1 ∷ point_at 3 1 ∷ point_at 2 2 ∷ point_at 4 2 ∷ point_at 0 1 ∷ point_at 4 1 ∷ [])
    ((point_at 0 1 ∷ point_at 3 1 ∷ []) ∷ (point_at 2 2 ∷ point_at 4 2 ∷ []) ∷ (point_at 0 1 ∷ point_at 4 1 ∷ []) ∷ []))
    (Ordered 1 2 ∷ Apart 0 4 ∷ Parted 0 2 ∷ [])
    (measured 2 0 0 4)
three_2 = record { laws = refl; values = refl }

three_3 : IsJudged three_graph none_above
    (drawing (point_at 0 2 ∷ point_at 2 2 ∷ point_at 2 2 ∷ point_at 4 2 ∷ point_at 0 1 ∷ point_at 4 1 ∷ [])
    ((point_at 0 2 ∷ point_at 2 2 ∷ []) ∷ (point_at 2 2 ∷ point_at 4 2 ∷ []) ∷ (point_at 0 1 ∷ point_at 4 1 ∷ []) ∷ []))
    (Apart 1 2 ∷ [])
    (measured 2 0 0 4)
three_3 = record { laws = refl; values = refl }

three_4 : IsJudged three_graph none_above
    (drawing (point_at 0 0 ∷ point_at 2 0 ∷ point_at 1 2 ∷ point_at 4 2 ∷ point_at 0 1 ∷ point_at 4 1 ∷ [])
    ((point_at 0 0 ∷ point_at 2 0 ∷ []) ∷ (point_at 1 2 ∷ point_at 4 2 ∷ []) ∷ (point_at 0 1 ∷ point_at 4 1 ∷ []) ∷ []))
    (Ordered 1 2 ∷ [])
    (measured 2 0 0 4)
three_4 = record { laws = refl; values = refl }

three_5 : IsJudged three_graph none_above
    (drawing (point_at 37 1 ∷ point_at 39 1 ∷ point_at 39 3 ∷ point_at 41 3 ∷ point_at 37 2 ∷ point_at 41 2 ∷ [])
    ((point_at 37 1 ∷ point_at 39 1 ∷ []) ∷ (point_at 39 3 ∷ point_at 41 3 ∷ []) ∷ (point_at 37 2 ∷ point_at 41 2 ∷ []) ∷ []))
    (NodeOnGrid 3 ∷ NodeOnGrid 5 ∷ LineOnGrid 1 ∷ LineOnGrid 2 ∷ [])
    (measured 3 0 0 41)
three_5 = record { laws = refl; values = refl }

-- a loop

loop_1 : IsJudged loop_graph loop_above
    (drawing (point_at 0 7 ∷ point_at 5 7 ∷ point_at 1 7 ∷ point_at 4 7 ∷ [])
    ((point_at 0 7 ∷ point_at 1 7 ∷ []) ∷ (point_at 1 7 ∷ point_at 4 7 ∷ []) ∷ (point_at 4 7 ∷ point_at 5 7 ∷ [])
    ∷ (point_at 1 7 ∷ point_at 2 8 ∷ point_at 3 8 ∷ point_at 4 7 ∷ []) ∷ []))
    []
    (measured 8 2 2 5)
loop_1 = record { laws = refl; values = refl }

loop_2 : IsJudged loop_graph loop_above
    (drawing (point_at 0 0 ∷ point_at 8 0 ∷ point_at 1 0 ∷ point_at 7 0 ∷ [])
    ((point_at 0 0 ∷ point_at 1 0 ∷ []) ∷ (point_at 1 0 ∷ point_at 7 0 ∷ []) ∷ (point_at 7 0 ∷ point_at 8 0 ∷ [])
    ∷ (point_at 5 0 ∷ point_at 9 4 ∷ point_at 11 4 ∷ point_at 13 2 ∷ []) ∷ []))
    (Joined 3 ∷ Over 3 1 ∷ [])
    (measured 4 2 6 13)
loop_2 = record { laws = refl; values = refl }

loop_3 : IsJudged loop_graph loop_above
    (drawing (point_at 0 1 ∷ point_at 5 1 ∷ point_at 1 1 ∷ point_at 4 1 ∷ [])
    ((point_at 0 1 ∷ point_at 1 1 ∷ []) ∷ (point_at 1 1 ∷ point_at 4 1 ∷ []) ∷ (point_at 4 1 ∷ point_at 5 1 ∷ [])
    ∷ (point_at 1 1 ∷ point_at 2 0 ∷ point_at 3 0 ∷ point_at 4 1 ∷ []) ∷ []))
    (Aligned 2 ∷ Aligned 3 ∷ Over 3 1 ∷ [])
    (measured 1 2 2 5)
loop_3 = record { laws = refl; values = refl }

loop_4 : IsJudged loop_graph loop_above
    (drawing (point_at 1 1 ∷ point_at 5 0 ∷ point_at 0 2 ∷ point_at 4 0 ∷ [])
    ((point_at 0 0 ∷ point_at 1 0 ∷ []) ∷ (point_at 1 0 ∷ point_at 4 0 ∷ []) ∷ (point_at 4 0 ∷ point_at 5 0 ∷ [])
    ∷ (point_at 1 0 ∷ point_at 2 1 ∷ point_at 3 1 ∷ point_at 4 0 ∷ []) ∷ []))
    (Ordered 0 2 ∷ Joined 0 ∷ Joined 1 ∷ Joined 3 ∷ Over 3 1 ∷ [])
    (measured 2 2 2 5)
loop_4 = record { laws = refl; values = refl }

loop_5 : IsJudged loop_graph loop_above
    (drawing (point_at 0 0 ∷ point_at 5 0 ∷ point_at 1 0 ∷ point_at 5 0 ∷ [])
    ((point_at 0 0 ∷ point_at 1 0 ∷ []) ∷ (point_at 1 0 ∷ point_at 5 0 ∷ []) ∷ (point_at 4 1 ∷ point_at 8 1 ∷ [])
    ∷ (point_at 1 0 ∷ point_at 2 1 ∷ point_at 3 1 ∷ point_at 4 0 ∷ []) ∷ []))
    (Joined 2 ∷ Joined 3 ∷ Apart 1 3 ∷ Over 3 1 ∷ [])
    (measured 1 2 2 8)
loop_5 = record { laws = refl; values = refl }

loop_6 : IsJudged loop_graph loop_above
    (drawing (point_at 0 8 ∷ point_at 5 8 ∷ point_at 1 8 ∷ point_at 4 8 ∷ [])
    ((point_at 0 8 ∷ point_at 1 8 ∷ []) ∷ (point_at 1 8 ∷ point_at 4 8 ∷ []) ∷ (point_at 4 8 ∷ point_at 5 8 ∷ [])
    ∷ (point_at 1 8 ∷ point_at 2 9 ∷ point_at 3 9 ∷ point_at 4 8 ∷ []) ∷ []))
    (LineOnGrid 3 ∷ [])
    (measured 9 2 2 5)
loop_6 = record { laws = refl; values = refl }

-- a loop listed backwards

back_1 : IsJudged back_graph loop_above
    (drawing (point_at 5 0 ∷ point_at 0 0 ∷ point_at 4 0 ∷ point_at 1 0 ∷ [])
    ((point_at 4 0 ∷ point_at 5 0 ∷ []) ∷ (point_at 1 0 ∷ point_at 4 0 ∷ []) ∷ (point_at 0 0 ∷ point_at 1 0 ∷ [])
    ∷ (point_at 1 0 ∷ point_at 2 1 ∷ point_at 3 1 ∷ point_at 4 0 ∷ []) ∷ []))
    []
    (measured 1 2 2 5)
back_1 = record { laws = refl; values = refl }

back_2 : IsJudged back_graph loop_above
    (drawing (point_at 5 0 ∷ point_at 0 0 ∷ point_at 4 0 ∷ point_at 1 0 ∷ [])
    ((point_at 4 0 ∷ point_at 5 0 ∷ []) ∷ (point_at 1 0 ∷ point_at 4 0 ∷ []) ∷ (point_at 0 0 ∷ point_at 1 0 ∷ []) ∷ (point_at 1 0 ∷ point_at 4 0 ∷ [])
    ∷ []))
    (Aligned 2 ∷ Aligned 3 ∷ Over 3 1 ∷ [])
    (measured 0 0 0 5)
back_2 = record { laws = refl; values = refl }

back_3 : IsJudged back_graph loop_above
    (drawing (point_at 5 0 ∷ point_at 0 0 ∷ point_at 3 0 ∷ point_at 1 0 ∷ [])
    ((point_at 3 0 ∷ point_at 5 0 ∷ []) ∷ (point_at 1 0 ∷ point_at 3 0 ∷ []) ∷ (point_at 0 0 ∷ point_at 1 0 ∷ [])
    ∷ (point_at 2 0 ∷ point_at 6 4 ∷ point_at 7 4 ∷ point_at 10 1 ∷ []) ∷ []))
    (Joined 3 ∷ Over 3 1 ∷ [])
    (measured 4 2 7 10)
back_3 = record { laws = refl; values = refl }

back_4 : IsJudged back_graph loop_above
    (drawing (point_at 5 0 ∷ point_at 0 0 ∷ point_at 5 0 ∷ point_at 1 0 ∷ [])
    ((point_at 4 0 ∷ point_at 5 0 ∷ []) ∷ (point_at 1 0 ∷ point_at 5 0 ∷ []) ∷ (point_at 0 0 ∷ point_at 1 0 ∷ [])
    ∷ (point_at 1 0 ∷ point_at 2 1 ∷ point_at 3 1 ∷ point_at 4 0 ∷ []) ∷ []))
    (Joined 0 ∷ Joined 3 ∷ Apart 0 2 ∷ Over 3 1 ∷ [])
    (measured 1 2 2 5)
back_4 = record { laws = refl; values = refl }

back_5 : IsJudged back_graph loop_above
    (drawing (point_at 5 8 ∷ point_at 0 8 ∷ point_at 4 8 ∷ point_at 1 8 ∷ [])
    ((point_at 4 8 ∷ point_at 5 8 ∷ []) ∷ (point_at 1 8 ∷ point_at 4 8 ∷ []) ∷ (point_at 0 8 ∷ point_at 1 8 ∷ [])
    ∷ (point_at 1 8 ∷ point_at 2 9 ∷ point_at 3 9 ∷ point_at 4 8 ∷ []) ∷ []))
    (LineOnGrid 3 ∷ [])
    (measured 9 2 2 5)
back_5 = record { laws = refl; values = refl }

-- a crossover

cross_1 : IsJudged cross_graph cross_above
    (drawing (point_at 0 0 ∷ point_at 3 0 ∷ point_at 1 0 ∷ point_at 0 1 ∷ point_at 3 1 ∷ point_at 2 1 ∷ [])
    ((point_at 0 0 ∷ point_at 1 0 ∷ []) ∷ (point_at 1 0 ∷ point_at 3 0 ∷ []) ∷ (point_at 0 1 ∷ point_at 2 1 ∷ []) ∷ (point_at 2 1 ∷ point_at 3 1 ∷ [])
    ∷ (point_at 1 0 ∷ point_at 2 1 ∷ []) ∷ []))
    []
    (measured 1 0 1 3)
cross_1 = record { laws = refl; values = refl }

cross_2 : IsJudged cross_graph cross_above
    (drawing (point_at 0 0 ∷ point_at 3 2 ∷ point_at 1 0 ∷ point_at 0 2 ∷ point_at 3 1 ∷ point_at 2 1 ∷ [])
    ((point_at 0 0 ∷ point_at 1 0 ∷ []) ∷ (point_at 1 0 ∷ point_at 3 2 ∷ []) ∷ (point_at 0 2 ∷ point_at 1 1 ∷ point_at 2 1 ∷ [])
    ∷ (point_at 2 1 ∷ point_at 3 1 ∷ []) ∷ (point_at 1 0 ∷ point_at 2 1 ∷ []) ∷ []))
    (Aligned 1 ∷ Aligned 2 ∷ Aligned 3 ∷ Over 3 1 ∷ Over 4 1 ∷ Parted 1 2 ∷ [])
    (measured 2 1 4 3)
cross_2 = record { laws = refl; values = refl }

cross_3 : IsJudged cross_graph cross_above
    (drawing (point_at 0 0 ∷ point_at 4 0 ∷ point_at 1 0 ∷ point_at 0 1 ∷ point_at 3 1 ∷ point_at 2 1 ∷ [])
    ((point_at 0 0 ∷ point_at 1 0 ∷ []) ∷ (point_at 1 0 ∷ point_at 4 0 ∷ []) ∷ (point_at 0 1 ∷ point_at 2 1 ∷ []) ∷ (point_at 2 1 ∷ point_at 3 1 ∷ [])
    ∷ (point_at 1 0 ∷ point_at 2 1 ∷ []) ∷ []))
    (Ordered 1 4 ∷ [])
    (measured 1 0 1 4)
cross_3 = record { laws = refl; values = refl }

cross_4 : IsJudged cross_graph cross_above
    (drawing (point_at 0 0 ∷ point_at 8 0 ∷ point_at 2 1 ∷ point_at 0 2 ∷ point_at 6 2 ∷ point_at 4 2 ∷ [])
    ((point_at 0 0 ∷ point_at 1 1 ∷ point_at 2 1 ∷ []) ∷ (point_at 2 1 ∷ point_at 3 2 ∷ point_at 6 2 ∷ point_at 8 0 ∷ [])
    ∷ (point_at 0 2 ∷ point_at 4 2 ∷ []) ∷ (point_at 4 2 ∷ point_at 6 2 ∷ []) ∷ (point_at 2 1 ∷ point_at 3 2 ∷ point_at 4 2 ∷ []) ∷ []))
    (Ordered 1 4 ∷ Aligned 0 ∷ Aligned 1 ∷ Aligned 2 ∷ Aligned 5 ∷ Over 2 4 ∷ Over 3 1 ∷ Over 4 1
    ∷ Parted 1 2 ∷ [])
    (measured 2 4 5 8)
cross_4 = record { laws = refl; values = refl }

cross_5 : IsJudged cross_graph cross_above
    (drawing (point_at 0 8 ∷ point_at 3 8 ∷ point_at 1 8 ∷ point_at 0 9 ∷ point_at 3 9 ∷ point_at 2 9 ∷ [])
    ((point_at 0 8 ∷ point_at 1 8 ∷ []) ∷ (point_at 1 8 ∷ point_at 3 8 ∷ []) ∷ (point_at 0 9 ∷ point_at 2 9 ∷ []) ∷ (point_at 2 9 ∷ point_at 3 9 ∷ [])
    ∷ (point_at 1 8 ∷ point_at 2 9 ∷ []) ∷ []))
    (NodeOnGrid 3 ∷ NodeOnGrid 4 ∷ NodeOnGrid 5 ∷ LineOnGrid 2 ∷ LineOnGrid 3 ∷ LineOnGrid 4 ∷ [])
    (measured 9 0 1 3)
cross_5 = record { laws = refl; values = refl }

cross_6 : IsJudged cross_graph cross_above
    (drawing (point_at 0 0 ∷ point_at 3 0 ∷ point_at 1 0 ∷ point_at 0 0 ∷ point_at 5 2 ∷ point_at 4 0 ∷ [])
    ((point_at 0 0 ∷ point_at 1 0 ∷ []) ∷ (point_at 1 0 ∷ point_at 3 0 ∷ []) ∷ (point_at 0 0 ∷ point_at 4 0 ∷ []) ∷ (point_at 2 1 ∷ point_at 3 1 ∷ [])
    ∷ (point_at 1 0 ∷ point_at 2 1 ∷ []) ∷ []))
    (Ordered 1 4 ∷ Ordered 1 5 ∷ Joined 3 ∷ Joined 4 ∷ Apart 0 3 ∷ Over 2 0 ∷ Over 2 4 ∷ Parted 1 2 ∷ [])
    (measured 2 0 1 5)
cross_6 = record { laws = refl; values = refl }

cross_7 : IsJudged cross_graph cross_above
    (drawing (point_at 0 0 ∷ point_at 3 2 ∷ point_at 1 0 ∷ point_at 0 0 ∷ point_at 3 1 ∷ point_at 2 1 ∷ [])
    ((point_at 0 0 ∷ point_at 1 0 ∷ []) ∷ (point_at 1 0 ∷ point_at 3 2 ∷ []) ∷ (point_at 0 0 ∷ point_at 1 0 ∷ point_at 2 1 ∷ [])
    ∷ (point_at 2 1 ∷ point_at 3 1 ∷ []) ∷ (point_at 1 0 ∷ point_at 2 1 ∷ []) ∷ []))
    (Aligned 1 ∷ Aligned 2 ∷ Aligned 5 ∷ Apart 0 3 ∷ Over 2 0 ∷ Over 2 4 ∷ Over 3 1 ∷ Over 4 1 ∷ Parted 1 2
    ∷ [])
    (measured 2 1 4 3)
cross_7 = record { laws = refl; values = refl }

-- scissors

scissors_1 : IsJudged scissors_graph scissors_above
    (drawing (point_at 35 0 ∷ point_at 39 0 ∷ point_at 36 0 ∷ point_at 38 0 ∷ point_at 35 2 ∷ point_at 39 2 ∷ point_at 36 2 ∷ point_at 38 2 ∷ point_at 37 1
    ∷ [])
    ((point_at 35 0 ∷ point_at 36 0 ∷ []) ∷ (point_at 36 0 ∷ point_at 38 0 ∷ []) ∷ (point_at 38 0 ∷ point_at 39 0 ∷ [])
    ∷ (point_at 35 2 ∷ point_at 36 2 ∷ []) ∷ (point_at 36 2 ∷ point_at 38 2 ∷ []) ∷ (point_at 38 2 ∷ point_at 39 2 ∷ [])
    ∷ (point_at 36 0 ∷ point_at 37 1 ∷ []) ∷ (point_at 37 1 ∷ point_at 38 2 ∷ []) ∷ (point_at 37 1 ∷ point_at 38 0 ∷ [])
    ∷ (point_at 36 2 ∷ point_at 37 1 ∷ []) ∷ []))
    []
    (measured 2 0 4 39)
scissors_1 = record { laws = refl; values = refl }

scissors_2 : IsJudged scissors_graph scissors_above
    (drawing (point_at 0 0 ∷ point_at 6 0 ∷ point_at 1 0 ∷ point_at 3 0 ∷ point_at 0 2 ∷ point_at 4 2 ∷ point_at 1 2 ∷ point_at 3 2 ∷ point_at 2 1 ∷ [])
    ((point_at 0 0 ∷ point_at 1 0 ∷ []) ∷ (point_at 1 0 ∷ point_at 3 0 ∷ []) ∷ (point_at 3 0 ∷ point_at 6 0 ∷ []) ∷ (point_at 0 2 ∷ point_at 1 2 ∷ [])
    ∷ (point_at 1 2 ∷ point_at 3 2 ∷ []) ∷ (point_at 3 2 ∷ point_at 4 2 ∷ []) ∷ (point_at 1 0 ∷ point_at 2 1 ∷ [])
    ∷ (point_at 2 1 ∷ point_at 3 2 ∷ []) ∷ (point_at 2 1 ∷ point_at 3 0 ∷ []) ∷ (point_at 1 2 ∷ point_at 2 1 ∷ []) ∷ []))
    (Ordered 1 5 ∷ [])
    (measured 2 0 4 6)
scissors_2 = record { laws = refl; values = refl }

scissors_3 : IsJudged scissors_graph scissors_above
    (drawing (point_at 37 1 ∷ point_at 41 1 ∷ point_at 38 1 ∷ point_at 40 1 ∷ point_at 37 3 ∷ point_at 41 3 ∷ point_at 38 3 ∷ point_at 40 3 ∷ point_at 39 2
    ∷ [])
    ((point_at 37 1 ∷ point_at 38 1 ∷ []) ∷ (point_at 38 1 ∷ point_at 40 1 ∷ []) ∷ (point_at 40 1 ∷ point_at 41 1 ∷ [])
    ∷ (point_at 37 3 ∷ point_at 38 3 ∷ []) ∷ (point_at 38 3 ∷ point_at 40 3 ∷ []) ∷ (point_at 40 3 ∷ point_at 41 3 ∷ [])
    ∷ (point_at 38 1 ∷ point_at 39 2 ∷ []) ∷ (point_at 39 2 ∷ point_at 40 3 ∷ []) ∷ (point_at 39 2 ∷ point_at 40 1 ∷ [])
    ∷ (point_at 38 3 ∷ point_at 39 2 ∷ []) ∷ []))
    (NodeOnGrid 1 ∷ NodeOnGrid 5 ∷ LineOnGrid 2 ∷ LineOnGrid 5 ∷ [])
    (measured 3 0 4 41)
scissors_3 = record { laws = refl; values = refl }

scissors_4 : IsJudged scissors_graph scissors_above
    (drawing (point_at 0 0 ∷ point_at 4 0 ∷ point_at 1 0 ∷ point_at 4 0 ∷ point_at 0 2 ∷ point_at 4 2 ∷ point_at 1 2 ∷ point_at 3 2 ∷ point_at 2 1 ∷ [])
    ((point_at 0 0 ∷ point_at 1 0 ∷ []) ∷ (point_at 1 0 ∷ point_at 4 0 ∷ []) ∷ (point_at 3 0 ∷ point_at 4 0 ∷ []) ∷ (point_at 0 2 ∷ point_at 1 2 ∷ [])
    ∷ (point_at 1 2 ∷ point_at 3 2 ∷ []) ∷ (point_at 3 2 ∷ point_at 4 2 ∷ []) ∷ (point_at 1 0 ∷ point_at 2 1 ∷ [])
    ∷ (point_at 2 1 ∷ point_at 3 2 ∷ []) ∷ (point_at 2 1 ∷ point_at 3 0 ∷ []) ∷ (point_at 1 2 ∷ point_at 2 1 ∷ []) ∷ []))
    (Ordered 3 7 ∷ Joined 2 ∷ Joined 8 ∷ Apart 1 3 ∷ Over 8 1 ∷ [])
    (measured 2 0 4 4)
scissors_4 = record { laws = refl; values = refl }

scissors_5 : IsJudged scissors_graph scissors_above
    (drawing (point_at 0 0 ∷ point_at 4 0 ∷ point_at 0 2 ∷ point_at 3 0 ∷ point_at 0 2 ∷ point_at 4 2 ∷ point_at 1 2 ∷ point_at 3 2 ∷ point_at 2 1 ∷ [])
    ((point_at 2 3 ∷ point_at 3 4 ∷ point_at 7 4 ∷ []) ∷ (point_at 0 2 ∷ point_at 1 2 ∷ point_at 3 0 ∷ []) ∷ (point_at 3 0 ∷ point_at 4 0 ∷ [])
    ∷ (point_at 0 2 ∷ point_at 1 2 ∷ []) ∷ (point_at 1 2 ∷ point_at 3 2 ∷ []) ∷ (point_at 3 2 ∷ point_at 4 2 ∷ [])
    ∷ (point_at 0 2 ∷ point_at 1 1 ∷ point_at 2 1 ∷ []) ∷ (point_at 2 1 ∷ point_at 3 2 ∷ []) ∷ (point_at 2 1 ∷ point_at 3 0 ∷ [])
    ∷ (point_at 1 2 ∷ point_at 2 1 ∷ []) ∷ []))
    (Ordered 2 6 ∷ Joined 0 ∷ Aligned 0 ∷ Aligned 2 ∷ Aligned 3 ∷ Aligned 8 ∷ Apart 2 4 ∷ Over 6 1
    ∷ Over 7 1 ∷ Over 8 1 ∷ Over 9 1 ∷ Parted 1 4 ∷ [])
    (measured 4 3 7 7)
scissors_5 = record { laws = refl; values = refl }

scissors_6 : IsJudged scissors_graph scissors_above
    (drawing (point_at 0 0 ∷ point_at 6 0 ∷ point_at 1 0 ∷ point_at 5 0 ∷ point_at 0 2 ∷ point_at 6 2 ∷ point_at 1 2 ∷ point_at 5 2 ∷ point_at 3 1 ∷ [])
    ((point_at 0 0 ∷ point_at 1 0 ∷ []) ∷ (point_at 1 0 ∷ point_at 5 0 ∷ []) ∷ (point_at 5 0 ∷ point_at 6 0 ∷ []) ∷ (point_at 0 2 ∷ point_at 1 2 ∷ [])
    ∷ (point_at 1 2 ∷ point_at 5 2 ∷ []) ∷ (point_at 5 2 ∷ point_at 6 2 ∷ []) ∷ (point_at 1 0 ∷ point_at 2 1 ∷ point_at 3 1 ∷ [])
    ∷ (point_at 3 1 ∷ point_at 4 1 ∷ point_at 5 2 ∷ []) ∷ (point_at 3 1 ∷ point_at 4 1 ∷ point_at 5 0 ∷ [])
    ∷ (point_at 1 2 ∷ point_at 2 1 ∷ point_at 3 1 ∷ []) ∷ []))
    (Aligned 8 ∷ Over 7 8 ∷ Over 9 6 ∷ [])
    (measured 2 4 4 6)
scissors_6 = record { laws = refl; values = refl }

-- a station

station_1 : IsJudged station_graph station_above
    (drawing (point_at 0 0 ∷ point_at 10 0 ∷ point_at 4 0 ∷ point_at 0 1 ∷ point_at 10 1 ∷ point_at 5 1 ∷ point_at 6 1 ∷ point_at 9 1 ∷ [])
    ((point_at 0 0 ∷ point_at 4 0 ∷ []) ∷ (point_at 4 0 ∷ point_at 10 0 ∷ []) ∷ (point_at 0 1 ∷ point_at 5 1 ∷ []) ∷ (point_at 5 1 ∷ point_at 6 1 ∷ [])
    ∷ (point_at 6 1 ∷ point_at 9 1 ∷ []) ∷ (point_at 9 1 ∷ point_at 10 1 ∷ []) ∷ (point_at 4 0 ∷ point_at 5 1 ∷ [])
    ∷ (point_at 6 1 ∷ point_at 7 2 ∷ point_at 8 2 ∷ point_at 9 1 ∷ []) ∷ []))
    []
    (measured 2 2 3 10)
station_1 = record { laws = refl; values = refl }

station_2 : IsJudged station_graph station_above
    (drawing (point_at 0 7 ∷ point_at 7 7 ∷ point_at 1 7 ∷ point_at 0 8 ∷ point_at 7 8 ∷ point_at 2 8 ∷ point_at 3 8 ∷ point_at 6 8 ∷ [])
    ((point_at 0 7 ∷ point_at 1 7 ∷ []) ∷ (point_at 1 7 ∷ point_at 7 7 ∷ []) ∷ (point_at 0 8 ∷ point_at 2 8 ∷ []) ∷ (point_at 2 8 ∷ point_at 3 8 ∷ [])
    ∷ (point_at 3 8 ∷ point_at 6 8 ∷ []) ∷ (point_at 6 8 ∷ point_at 7 8 ∷ []) ∷ (point_at 1 7 ∷ point_at 2 8 ∷ [])
    ∷ (point_at 3 8 ∷ point_at 4 9 ∷ point_at 5 9 ∷ point_at 6 8 ∷ []) ∷ []))
    (LineOnGrid 7 ∷ [])
    (measured 9 2 3 7)
station_2 = record { laws = refl; values = refl }

station_3 : IsJudged station_graph station_above
    (drawing (point_at 0 8 ∷ point_at 7 8 ∷ point_at 1 8 ∷ point_at 0 9 ∷ point_at 7 9 ∷ point_at 2 9 ∷ point_at 3 9 ∷ point_at 6 9 ∷ [])
    ((point_at 0 8 ∷ point_at 1 8 ∷ []) ∷ (point_at 1 8 ∷ point_at 7 8 ∷ []) ∷ (point_at 0 9 ∷ point_at 2 9 ∷ []) ∷ (point_at 2 9 ∷ point_at 3 9 ∷ [])
    ∷ (point_at 3 9 ∷ point_at 6 9 ∷ []) ∷ (point_at 6 9 ∷ point_at 7 9 ∷ []) ∷ (point_at 1 8 ∷ point_at 2 9 ∷ [])
    ∷ (point_at 3 9 ∷ point_at 4 10 ∷ point_at 5 10 ∷ point_at 6 9 ∷ []) ∷ []))
    (NodeOnGrid 3 ∷ NodeOnGrid 4 ∷ NodeOnGrid 5 ∷ NodeOnGrid 6 ∷ NodeOnGrid 7 ∷ LineOnGrid 2 ∷ LineOnGrid 3
    ∷ LineOnGrid 4 ∷ LineOnGrid 5 ∷ LineOnGrid 6 ∷ LineOnGrid 7 ∷ [])
    (measured 10 2 3 7)
station_3 = record { laws = refl; values = refl }

station_4 : IsJudged station_graph station_above
    (drawing (point_at 0 0 ∷ point_at 7 0 ∷ point_at 1 0 ∷ point_at 0 1 ∷ point_at 7 0 ∷ point_at 2 1 ∷ point_at 3 1 ∷ point_at 6 1 ∷ [])
    ((point_at 0 0 ∷ point_at 1 0 ∷ []) ∷ (point_at 1 0 ∷ point_at 3 2 ∷ point_at 5 2 ∷ point_at 7 0 ∷ []) ∷ (point_at 0 1 ∷ point_at 2 1 ∷ [])
    ∷ (point_at 2 1 ∷ point_at 3 1 ∷ []) ∷ (point_at 3 1 ∷ point_at 6 1 ∷ []) ∷ (point_at 6 1 ∷ point_at 7 0 ∷ [])
    ∷ (point_at 1 0 ∷ point_at 2 1 ∷ []) ∷ (point_at 3 1 ∷ point_at 4 2 ∷ point_at 5 2 ∷ point_at 6 1 ∷ []) ∷ []))
    (Aligned 1 ∷ Aligned 2 ∷ Aligned 4 ∷ Aligned 7 ∷ Apart 1 4 ∷ Over 3 1 ∷ Over 4 1 ∷ Over 5 1 ∷ Over 6 1
    ∷ Over 7 1 ∷ Parted 1 2 ∷ [])
    (measured 2 4 8 7)
station_4 = record { laws = refl; values = refl }
