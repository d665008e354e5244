-- For each law a test of its sentence, for given parties.
use Rattle.std.proofs.Common.{◌≡◌, ℕ, ◌+◌, ◌<◌, ◌≤◌, inl, inr, ◌⊎◌, List, refl, sym, ◌∙◌, ap, subst, arith, ℤ, zero, suc, pos, negsuc, ◌+ℤ◌}
use Rattle.std.specs.Prelude.{◌≢◌, All}
use Rattle.std.specs.Ordering.{int_cmp}
use Rattle.std.specs.declared.cmp.Ordering.{Ordering}
use Rattle.std.specs.declared.cmp.Ordering.TheVariants.{Less, Equal, Greater}
use Rattle.plan_core.specs.declared.point.Point.{Point}
use Rattle.plan_core.specs.declared.point.Slope.{Slope}
use Rattle.plan_core.specs.declared.point.Slope.TheVariants.{Down, Level, Up}
use Rattle.plan_core.specs.declared.sides.Compass.{Compass}
use Rattle.plan_core.specs.declared.sides.Compass.TheVariants.{East, West}
use Rattle.plan_core.specs.declared.sides.Side.{Side}
use Rattle.plan_core.specs.declared.sides.Side.TheVariants.{Upper, Lower}
use Rattle.plan_core.specs.Grid.{GridSize}
use Rattle.plan_core.specs.Graph.{Graph, Ports, End, Joint, Switch, Crossing, node, edge, mileage, IsEndOf}
use Rattle.plan_core.specs.Line.{west_end, east_end, HasColumn, height}
use Rattle.plan_core.specs.Drawing.{Drawing, place, line}
use Rattle.plan_core.specs.Laws.{InOrder, IsOnGrid, LineJoinsItsNodes, slope_at, steepness, Diverges, SwitchIsAligned, CrossingIsAligned, PortsAreAligned}
use Rattle.plan_core.specs.Laws.{AreCompared, EdgeIsOver}
use Rattle.plan_core.specs.Lawful.{Instance, NodeOnGrid, LineOnGrid, Ordered, Joined, Aligned, Apart, Over, Parted, Meets}
use Rattle.plan_core.proofs.Deciding.{Test, are_equal, is_below, is_at_most, are_same_integer, is_smaller_integer, restated, both, either, opposite_of}
use Rattle.plan_core.proofs.Deciding.{implied, each_below, each_of}

point : ℕ → ℕ → Point
point x y = record { x = x; y = y }

pub same_coordinates : (p q : Point) → (p.x ≡ q.x) × (p.y ≡ q.y) → p ≡ q
unfolding point
same_coordinates p q h = ap (λ x. point x p.y) h.0 ∙ ap (λ y. point q.x y) h.1

abbrev pub is_same_point : (p q : Point) → Test (p ≡ q)
is_same_point p q =
    restated (same_coordinates p q) (λ e. (ap (λ (r : Point). r.x) e, ap (λ (r : Point). r.y) e))
    (both (are_equal p.x q.x) (are_equal p.y q.y))

-- the slope of a steepness
slope_with : ℤ → Slope
slope_with (negsuc n) = Down
slope_with (pos zero) = Level
slope_with (pos (suc n)) = Up

slope_with-steepness : (s : Slope) → slope_with (steepness s) ≡ s
unfolding slope_with
slope_with-steepness Down = refl
slope_with-steepness Level = refl
slope_with-steepness Up = refl

pub same_steepness : (s t : Slope) → steepness s ≡ steepness t → s ≡ t
same_steepness s t e = sym (slope_with-steepness s) ∙ ap slope_with e ∙ slope_with-steepness t

abbrev pub is_same_slope : (s t : Slope) → Test (s ≡ t)
is_same_slope s t = restated (same_steepness s t) (ap steepness) (are_same_integer (steepness s) (steepness t))

-- law 1

abbrev pub is_on_grid : (grid : GridSize) (p : Point) → Test (IsOnGrid grid p)
is_on_grid grid p =
    restated (λ h. record { in_width = h.0; in_height = h.1 }) (λ h. (h.in_width, h.in_height))
    (both (is_at_most p.x grid.width) (is_at_most p.y grid.height))

abbrev pub line_is_on_grid : (grid : GridSize) (points : List Point) → Test (All (IsOnGrid grid) points)
line_is_on_grid grid = each_of (IsOnGrid grid) (is_on_grid grid)

-- law 2

abbrev pub are_in_order : (o : Ordering) (u_x v_x : ℕ) → Test (InOrder o u_x v_x)
are_in_order Less u_x v_x = is_at_most u_x v_x
are_in_order Equal u_x v_x = are_equal u_x v_x
are_in_order Greater u_x v_x = is_at_most v_x u_x

-- law 3

abbrev pub joins_its_nodes : (g : Graph) (grid : GridSize) (d : Drawing) (e : ℕ) → Test (LineJoinsItsNodes g grid d e)
joins_its_nodes g grid d e =
    restated (λ h. record { begins = h.0; ends = h.1.0; is_long = h.1.1 }) (λ h. (h.begins, (h.ends, h.is_long)))
    (both (is_same_point (west_end (line d e)) (place d (edge g e).west))
    (both (is_same_point (east_end (line d e)) (place d (edge g e).east))
    (is_at_most ((place d (edge g e).west).x + grid.least) (place d (edge g e).east).x)))

-- law 4

abbrev pub is_one_more : (s t : Slope) → Test (steepness t ≡ steepness s +ℤ pos 1)
is_one_more s t = are_same_integer (steepness t) (steepness s +ℤ pos 1)

abbrev pub diverges : (legs : Compass) (branch : Side) (s t : Slope) → Test (Diverges legs branch s t)
diverges East Upper s t = is_one_more s t
diverges East Lower s t = is_one_more t s
diverges West Upper s t = is_one_more t s
diverges West Lower s t = is_one_more s t

abbrev pub switch_is_aligned : (at_node : ℕ → Slope) (legs : Compass) (branch : Side) (trunk straight diverging : ℕ) →
    Test (SwitchIsAligned at_node legs branch trunk straight diverging)
switch_is_aligned at_node legs branch trunk straight diverging =
    restated (λ h. record { goes_straight = h.0; turns_off = h.1 }) (λ h. (h.goes_straight, h.turns_off))
    (both (is_same_slope (at_node straight) (at_node trunk)) (diverges legs branch (at_node trunk) (at_node diverging)))

abbrev pub crossing_is_aligned : (at_node : ℕ → Slope) (west_upper west_lower east_upper east_lower : ℕ) →
    Test (CrossingIsAligned at_node west_upper west_lower east_upper east_lower)
crossing_is_aligned at_node west_upper west_lower east_upper east_lower =
    restated (λ h. record { rising_path = h.0; falling_path = h.1.0; rising_is_greater = h.1.1 }) (λ h. (h.rising_path, (h.falling_path, h.rising_is_greater)))
    (both (is_same_slope (at_node west_lower) (at_node east_upper))
    (both (is_same_slope (at_node west_upper) (at_node east_lower)) (is_smaller_integer (steepness (at_node west_upper)) (steepness (at_node west_lower)))))

abbrev pub ports_are_aligned : (at_node : ℕ → Slope) (ports : Ports) → Test (PortsAreAligned at_node ports)
ports_are_aligned at_node (End e side) = is_same_slope (at_node e) Level
ports_are_aligned at_node (Joint west east) = is_same_slope (at_node west) (at_node east)
ports_are_aligned at_node (Switch legs branch trunk straight diverging) = switch_is_aligned at_node legs branch trunk straight diverging
ports_are_aligned at_node (Crossing west_upper west_lower east_upper east_lower) = crossing_is_aligned at_node west_upper west_lower east_upper east_lower

-- laws 6 and 7

abbrev pub has_column : (points : List Point) (x : ℕ) → Test (HasColumn points x)
has_column points x =
    restated (λ h. record { from_west = h.0; to_east = h.1 }) (λ h. (h.from_west, h.to_east))
    (both (is_at_most (west_end points).x x) (is_at_most x (east_end points).x))

abbrev pub is_end_of : (g : Graph) (e n : ℕ) → Test (IsEndOf g e n)
is_end_of g e n = either (are_equal (edge g e).west n) (are_equal (edge g e).east n)

-- the node n stands in the column, and is an end of f
abbrev pub ends_there : (g : Graph) (d : Drawing) (f x n : ℕ) → Test (IsEndOf g f n × (x ≡ (place d n).x))
ends_there g d f x n = both (is_end_of g f n) (are_equal x (place d n).x)

-- of all nodes only the two ends of e can be ends of both
abbrev pub EndsTogether : Graph → Drawing → ℕ → ℕ → ℕ → Type 0
EndsTogether g d e f x = (IsEndOf g f (edge g e).west × (x ≡ (place d (edge g e).west).x)) ⊎ (IsEndOf g f (edge g e).east × (x ≡ (place d (edge g e).east).x))

pub never_shared : (g : Graph) (d : Drawing) (e f x : ℕ) → (EndsTogether g d e f x → ⊥) → (n : ℕ) → IsEndOf g e n → IsEndOf g f n → x ≢ (place d n).x
never_shared g d e f x apart n (inl west) of_f there = apart (inl (subst (IsEndOf g f) (sym west) of_f, subst (λ m. x ≡ (place d m).x) (sym west) there))
never_shared g d e f x apart n (inr east) of_f there = apart (inr (subst (IsEndOf g f) (sym east) of_f, subst (λ m. x ≡ (place d m).x) (sym east) there))

pub never_together : (g : Graph) (d : Drawing) (e f x : ℕ) → ((n : ℕ) → IsEndOf g e n → IsEndOf g f n → x ≢ (place d n).x) → EndsTogether g d e f x → ⊥
never_together g d e f x apart (inl h) = apart (edge g e).west (inl refl) h.0 h.1
never_together g d e f x apart (inr h) = apart (edge g e).east (inr refl) h.0 h.1

abbrev pub ends_together : (g : Graph) (d : Drawing) (e f x : ℕ) → Test (EndsTogether g d e f x)
ends_together g d e f x = either (ends_there g d f x (edge g e).west) (ends_there g d f x (edge g e).east)

abbrev pub are_compared : (g : Graph) (d : Drawing) (e f x : ℕ) → Test (AreCompared g d e f x)
are_compared g d e f x =
    restated (λ h. record {
      first = h.0;
      second = h.1.0;
      no_shared_end = never_shared g d e f x h.1.1;
    }) (λ h. (h.first, (h.second, never_together g d e f x h.no_shared_end)))
    (both (has_column (line d e) x) (both (has_column (line d f) x) (opposite_of (ends_together g d e f x))))

abbrev is_over_at : (g : Graph) (d : Drawing) (e f x : ℕ) → Test (AreCompared g d e f x → height (line d f) x < height (line d e) x)
is_over_at g d e f x = implied (are_compared g d e f x) (is_below (height (line d f) x) (height (line d e) x))

-- it is enough to look at the columns up to the east end of e
abbrev pub edge_is_over : (g : Graph) (d : Drawing) (e f : ℕ) → Test (EdgeIsOver g d e f)
edge_is_over g d e f =
    restated
    (λ h x compared. let near : x ≤ (east_end (line d e)).x = compared.first.to_east in h x (omega (arith, near)) compared)
    (λ h x _. h x)
    (each_below ((east_end (line d e)).x + 1) (λ x. AreCompared g d e f x → height (line d f) x < height (line d e) x) (is_over_at g d e f))

-- each law

abbrev pub meets : (g : Graph) (grid : GridSize) (d : Drawing) (i : Instance) → Test (Meets g grid d i)
meets g grid d (NodeOnGrid n) = is_on_grid grid (place d n)
meets g grid d (LineOnGrid e) = line_is_on_grid grid (line d e)
meets g grid d (Ordered u v) = are_in_order (int_cmp (mileage g u) (mileage g v)) (place d u).x (place d v).x
meets g grid d (Joined e) = joins_its_nodes g grid d e
meets g grid d (Aligned n) = ports_are_aligned (slope_at g d n) (node g n).ports
meets g grid d (Apart u v) = opposite_of (is_same_point (place d u) (place d v))
meets g grid d (Over e f) = edge_is_over g d e f
meets g grid d (Parted e f) = either (edge_is_over g d e f) (edge_is_over g d f e)
