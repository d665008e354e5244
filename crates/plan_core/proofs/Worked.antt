-- The worked examples are as they say, by the tests.
use Rattle.std.proofs.Common.{◌≡◌, ℕ, Bool, true, refl}
use Rattle.plan_core.specs.declared.criterion.Values.{Values}
use Rattle.plan_core.specs.Grid.{GridSize}
use Rattle.plan_core.specs.Graph.{Graph}
use Rattle.plan_core.specs.Drawing.{Drawing}
use Rattle.plan_core.specs.Values.{values_of}
use Rattle.plan_core.specs.Examples.{measured, usual_grid, roomy_grid, roomy_drawing, IsWorked, one_graph, none_above, one_drawing, loop_graph, loop_above}
use Rattle.plan_core.specs.Examples.{loop_drawing, back_graph, back_drawing, cross_graph, cross_above, cross_drawing, two_graph, two_drawing, scissors_graph}
use Rattle.plan_core.specs.Examples.{scissors_above, scissors_drawing, station_graph, station_above, station_drawing, farthest_drawing}
use Rattle.plan_core.proofs.LawfulTest.{is_lawful, is_track_graph, lawful_by_test, track_graph_by_test}

worked : (g : Graph) (above : ℕ → ℕ → Bool) (grid : GridSize) (d : Drawing) (v : Values) → (is_track_graph g).passes ≡ true →
    (is_lawful g above grid d).passes ≡ true → values_of d ≡ v → IsWorked g above grid d v
worked g above grid d v g_passes d_passes e = record {
  graph = track_graph_by_test g g_passes;
  lawful = lawful_by_test g above grid d d_passes;
  measures = e;
}

pub one_is_worked : IsWorked one_graph none_above usual_grid one_drawing (measured 0 0 0 1)
one_is_worked = worked one_graph none_above usual_grid one_drawing (measured 0 0 0 1) refl refl refl

pub farthest_is_worked : IsWorked one_graph none_above usual_grid farthest_drawing (measured 8 0 0 40)
farthest_is_worked = worked one_graph none_above usual_grid farthest_drawing (measured 8 0 0 40) refl refl refl

pub loop_is_worked : IsWorked loop_graph loop_above usual_grid loop_drawing (measured 1 2 2 5)
loop_is_worked = worked loop_graph loop_above usual_grid loop_drawing (measured 1 2 2 5) refl refl refl

pub roomy_is_worked : IsWorked loop_graph loop_above roomy_grid roomy_drawing (measured 1 2 2 7)
roomy_is_worked = worked loop_graph loop_above roomy_grid roomy_drawing (measured 1 2 2 7) refl refl refl

pub back_is_worked : IsWorked back_graph loop_above usual_grid back_drawing (measured 1 2 2 5)
back_is_worked = worked back_graph loop_above usual_grid back_drawing (measured 1 2 2 5) refl refl refl

pub cross_is_worked : IsWorked cross_graph cross_above usual_grid cross_drawing (measured 1 0 1 3)
cross_is_worked = worked cross_graph cross_above usual_grid cross_drawing (measured 1 0 1 3) refl refl refl

pub two_is_worked : IsWorked two_graph none_above usual_grid two_drawing (measured 1 0 0 1)
two_is_worked = worked two_graph none_above usual_grid two_drawing (measured 1 0 0 1) refl refl refl

pub scissors_is_worked : IsWorked scissors_graph scissors_above usual_grid scissors_drawing (measured 2 0 4 4)
scissors_is_worked = worked scissors_graph scissors_above usual_grid scissors_drawing (measured 2 0 4 4) refl refl refl

pub station_is_worked : IsWorked station_graph station_above usual_grid station_drawing (measured 2 2 3 7)
station_is_worked = worked station_graph station_above usual_grid station_drawing (measured 2 2 3 7) refl refl refl
