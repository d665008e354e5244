-- The drawings that break one law alone do, by the tests.
use Rattle.std.proofs.Common.{◌≡◌, ℕ, Bool, true, false, List, [], ◌∷◌, refl, sym, subst}
use Rattle.std.specs.Prelude.{Contains}
use Rattle.plan_core.specs.Grid.{GridSize}
use Rattle.plan_core.specs.Graph.{Graph}
use Rattle.plan_core.specs.Drawing.{Drawing}
use Rattle.plan_core.specs.Lawful.{Instance, NodeOnGrid, LineOnGrid, Ordered, Joined, Aligned, Apart, Over, Parted}
use Rattle.plan_core.specs.Examples.{usual_grid, roomy_grid, one_graph, none_above, loop_graph, loop_above, loop_drawing, two_graph, cross_graph, cross_above}
use Rattle.plan_core.specs.Examples.{scissors_graph, scissors_above}
use Rattle.plan_core.specs.Breaches.{BreaksJust, meeting_graph, parted_graph, joined_graph, too_wide, too_high, uneven, swapped, short, exchanged, crowded}
use Rattle.plan_core.specs.Breaches.{too_steep, bent_rising_path, bent_falling_path, bent_main, sloping, kinked, one_point, touching, begins_above, ends_below}
use Rattle.plan_core.specs.Breaches.{touched_drawing, crossed_drawing}
use Rattle.plan_core.proofs.Deciding.{shown}
use Rattle.plan_core.proofs.LawfulTest.{fits, is_lawful, unlawful_by_test, broken, broken-has, broken-only}

breaks_just : (g : Graph) (above : ℕ → ℕ → Bool) (grid : GridSize) (d : Drawing) (instances : List Instance) → (fits g d).passes ≡ true →
    (is_lawful g above grid d).passes ≡ false → broken g above grid d ≡ instances → BreaksJust g above grid d instances
breaks_just g above grid d instances d_fits fails is = record {
  fits = shown (fits g d) d_fits;
  unlawful = unlawful_by_test g above grid d fails;
  broken = λ i. (
    λ h. broken-only g above grid d i (subst (λ l. Contains l i) (sym is) h),
    λ h. subst (λ l. Contains l i) is
        (broken-has g above grid d i h.0 h.1),
  );
}

pub too_wide_breaks : BreaksJust one_graph none_above usual_grid too_wide (NodeOnGrid 1 ∷ LineOnGrid 0 ∷ [])
too_wide_breaks = breaks_just one_graph none_above usual_grid too_wide (NodeOnGrid 1 ∷ LineOnGrid 0 ∷ []) refl refl refl

pub too_high_breaks : BreaksJust loop_graph loop_above usual_grid too_high (LineOnGrid 3 ∷ [])
too_high_breaks = breaks_just loop_graph loop_above usual_grid too_high (LineOnGrid 3 ∷ []) refl refl refl

pub uneven_breaks : BreaksJust two_graph none_above usual_grid uneven (Ordered 1 3 ∷ [])
uneven_breaks = breaks_just two_graph none_above usual_grid uneven (Ordered 1 3 ∷ []) refl refl refl

pub swapped_breaks : BreaksJust parted_graph none_above usual_grid swapped (Ordered 0 2 ∷ Ordered 0 3 ∷ Ordered 1 2 ∷ Ordered 1 3 ∷ [])
swapped_breaks = breaks_just parted_graph none_above usual_grid swapped (Ordered 0 2 ∷ Ordered 0 3 ∷ Ordered 1 2 ∷ Ordered 1 3 ∷ []) refl refl refl

pub short_breaks : BreaksJust one_graph none_above usual_grid short (Joined 0 ∷ [])
short_breaks = breaks_just one_graph none_above usual_grid short (Joined 0 ∷ []) refl refl refl

pub exchanged_breaks : BreaksJust two_graph none_above usual_grid exchanged (Joined 0 ∷ Joined 1 ∷ [])
exchanged_breaks = breaks_just two_graph none_above usual_grid exchanged (Joined 0 ∷ Joined 1 ∷ []) refl refl refl

pub crowded_breaks : BreaksJust loop_graph loop_above roomy_grid crowded (Joined 2 ∷ [])
crowded_breaks = breaks_just loop_graph loop_above roomy_grid crowded (Joined 2 ∷ []) refl refl refl

pub loop_breaks : BreaksJust loop_graph loop_above roomy_grid loop_drawing (Joined 0 ∷ Joined 2 ∷ [])
loop_breaks = breaks_just loop_graph loop_above roomy_grid loop_drawing (Joined 0 ∷ Joined 2 ∷ []) refl refl refl

pub too_steep_breaks : BreaksJust loop_graph loop_above usual_grid too_steep (Aligned 3 ∷ [])
too_steep_breaks = breaks_just loop_graph loop_above usual_grid too_steep (Aligned 3 ∷ []) refl refl refl

pub bent_rising_path_breaks : BreaksJust scissors_graph scissors_above usual_grid bent_rising_path (Aligned 8 ∷ [])
bent_rising_path_breaks = breaks_just scissors_graph scissors_above usual_grid bent_rising_path (Aligned 8 ∷ []) refl refl refl

pub bent_falling_path_breaks : BreaksJust scissors_graph scissors_above usual_grid bent_falling_path (Aligned 8 ∷ [])
bent_falling_path_breaks = breaks_just scissors_graph scissors_above usual_grid bent_falling_path (Aligned 8 ∷ []) refl refl refl

pub bent_main_breaks : BreaksJust loop_graph loop_above usual_grid bent_main (Aligned 3 ∷ [])
bent_main_breaks = breaks_just loop_graph loop_above usual_grid bent_main (Aligned 3 ∷ []) refl refl refl

pub sloping_breaks : BreaksJust one_graph none_above usual_grid sloping (Aligned 0 ∷ Aligned 1 ∷ [])
sloping_breaks = breaks_just one_graph none_above usual_grid sloping (Aligned 0 ∷ Aligned 1 ∷ []) refl refl refl

pub kinked_breaks : BreaksJust joined_graph none_above usual_grid kinked (Aligned 1 ∷ [])
kinked_breaks = breaks_just joined_graph none_above usual_grid kinked (Aligned 1 ∷ []) refl refl refl

pub one_point_breaks : BreaksJust meeting_graph none_above usual_grid one_point (Apart 1 2 ∷ [])
one_point_breaks = breaks_just meeting_graph none_above usual_grid one_point (Apart 1 2 ∷ []) refl refl refl

pub touching_breaks : BreaksJust parted_graph none_above usual_grid touching (Apart 1 2 ∷ [])
touching_breaks = breaks_just parted_graph none_above usual_grid touching (Apart 1 2 ∷ []) refl refl refl

pub begins_above_breaks : BreaksJust cross_graph cross_above usual_grid begins_above (Over 2 0 ∷ [])
begins_above_breaks = breaks_just cross_graph cross_above usual_grid begins_above (Over 2 0 ∷ []) refl refl refl

pub ends_below_breaks : BreaksJust cross_graph cross_above usual_grid ends_below (Over 3 1 ∷ [])
ends_below_breaks = breaks_just cross_graph cross_above usual_grid ends_below (Over 3 1 ∷ []) refl refl refl

pub touched_breaks : BreaksJust joined_graph none_above usual_grid touched_drawing (Parted 0 2 ∷ Parted 1 2 ∷ [])
touched_breaks = breaks_just joined_graph none_above usual_grid touched_drawing (Parted 0 2 ∷ Parted 1 2 ∷ []) refl refl refl

pub crossed_breaks : BreaksJust joined_graph none_above usual_grid crossed_drawing (Parted 0 2 ∷ [])
crossed_breaks = breaks_just joined_graph none_above usual_grid crossed_drawing (Parted 0 2 ∷ []) refl refl refl
