-- A test of a whole drawing, a test of a track graph, and the list of all broken instances.
use Rattle.std.proofs.Common.{◌≡◌, ℕ, ◌<◌, Bool, true, false, not, ◌||◌, ◌==◌, List, [], ◌∷◌, ◌<ℤ◌, length, get_or, arith, refl, sym, ◌∙◌, subst}
use Rattle.std.specs.Prelude.{◌≢◌, All, AllPairs, slice_index_or}
use Rattle.std.specs.List.{Contains, filter, flat_map, list_any}
use Rattle.std.specs.Bool.{Decides}
use Rattle.std.specs.Int.{int_max, int_min}
use Rattle.std.proofs.lemmas.Bool.{both_ways, false≢true, false_from_ne_true, true_from_ne_false}
use Rattle.std.proofs.lemmas.List.Elements.{All-contains, filter_passes, Decides-contains}
use Rattle.std.proofs.lemmas.Bool.Decides.{Decides-eqb, Decides-by_or}
use Rattle.std.proofs.lemmas.List.{get_or_default}
use Rattle.plan_core.specs.declared.sides.Compass.{Compass}
use Rattle.plan_core.specs.declared.sides.Compass.TheVariants.{East, West}
use Rattle.plan_core.specs.Grid.{GridSize}
use Rattle.plan_core.specs.Graph.{Graph, Ports, End, Joint, Switch, Crossing, node, edge, mileage, Overlap, AreAt, LiesOn, opposite, edges_of, IsPortOf}
use Rattle.plan_core.specs.Graph.{ArePortsOf, IsTrackGraph}
use Rattle.plan_core.specs.Line.{is_line}
use Rattle.plan_core.specs.Drawing.{Drawing}
use Rattle.plan_core.specs.Lawful.{Instance, NodeOnGrid, LineOnGrid, Ordered, Joined, Aligned, Apart, Over, Parted, IsPair, IsAbovePair, IsOtherPair}
use Rattle.plan_core.specs.Lawful.{IsInstance, Meets, Fits, Lawful}
use Rattle.plan_core.proofs.Deciding.{Test, shown, refuted, are_equal, is_below, is_smaller_integer, is_bool, restated, both, opposite_of, implied, each_below}
use Rattle.plan_core.proofs.Deciding.{each_of}
use Rattle.plan_core.proofs.LawTests.{meets}
use Rattle.plan_core.proofs.Listing.{for_each, for_pairs, for_any_two, Contains-for_each, Contains-for_pairs, Contains-for_any_two, Contains-filter}
use Rattle.plan_core.proofs.Listing.{Contains-flat_map}

-- which parties a law speaks of

abbrev pub overlap : (g : Graph) (e f : ℕ) → Test (Overlap g e f)
overlap g e f =
    is_smaller_integer (int_max (mileage g (edge g e).west) (mileage g (edge g f).west))
    (int_min (mileage g (edge g e).east) (mileage g (edge g f).east))

abbrev pub is_false : (b : Bool) → Test (b ≡ false)
is_false b = restated (false_from_ne_true b) (both_ways b) (opposite_of (is_bool b))

abbrev pub is_pair : (count a b : ℕ) → Test (IsPair count a b)
is_pair count a b = restated (λ h. record { rising = h.0; within = h.1 }) (λ h. (h.rising, h.within)) (both (is_below a b) (is_below b count))

abbrev pub is_above_pair : (g : Graph) (above : ℕ → ℕ → Bool) (e f : ℕ) → Test (IsAbovePair g above e f)
is_above_pair g above e f =
    restated (λ h. record { first = h.0; second = h.1.0; is_above = h.1.1 }) (λ h. (h.first, (h.second, h.is_above)))
    (both (is_below e (length g.edges)) (both (is_below f (length g.edges)) (is_bool (above e f))))

abbrev pub is_other_pair : (g : Graph) (above : ℕ → ℕ → Bool) (e f : ℕ) → Test (IsOtherPair g above e f)
is_other_pair g above e f =
    restated (λ h. record { pair = h.0; overlap = h.1.0; not_above = h.1.1.0; not_below = h.1.1.1 }) (λ h. (h.pair, (h.overlap, (h.not_above, h.not_below))))
    (both (is_pair (length g.edges) e f) (both (overlap g e f) (both (is_false (above e f)) (is_false (above f e)))))

abbrev pub is_instance : (g : Graph) (above : ℕ → ℕ → Bool) (i : Instance) → Test (IsInstance g above i)
is_instance g above (NodeOnGrid n) = is_below n (length g.nodes)
is_instance g above (LineOnGrid e) = is_below e (length g.edges)
is_instance g above (Ordered u v) = is_pair (length g.nodes) u v
is_instance g above (Joined e) = is_below e (length g.edges)
is_instance g above (Aligned n) = is_below n (length g.nodes)
is_instance g above (Apart u v) = is_pair (length g.nodes) u v
is_instance g above (Over e f) = is_above_pair g above e f
is_instance g above (Parted e f) = is_other_pair g above e f

-- the instance's sentence holds, or the law doesn't speak of these parties
abbrev pub holds : (g : Graph) (above : ℕ → ℕ → Bool) (grid : GridSize) (d : Drawing) (i : Instance) → Test (IsInstance g above i → Meets g grid d i)
holds g above grid d i = implied (is_instance g above i) (meets g grid d i)

-- all parties of each law
abbrev pub parties : Graph → List (List Instance)
parties g =
    for_each (length g.nodes) NodeOnGrid
    ∷ for_each (length g.edges) LineOnGrid
    ∷ for_pairs (length g.nodes) Ordered
    ∷ for_each (length g.edges) Joined
    ∷ for_each (length g.nodes) Aligned
    ∷ for_pairs (length g.nodes) Apart
    ∷ for_any_two (length g.edges) Over
    ∷ for_pairs (length g.edges) Parted
    ∷ []

-- all instances in the order in which a broken one is named: by law, nodes before edges, then by the
-- first party, then by the second
abbrev pub candidates : Graph → List Instance
candidates g = flat_map (λ l. l) (parties g)

of_part : (g : Graph) (k : ℕ) (part : List Instance) (i : Instance) → k < 8 → get_or (parties g) k part ≡ part → Contains part i → Contains (candidates g) i
of_part g k part i within is h = Contains-flat_map (λ l. l) (parties g) part i (k, within, is) h

pub Contains-candidates : (g : Graph) (above : ℕ → ℕ → Bool) (i : Instance) → IsInstance g above i → Contains (candidates g) i
Contains-candidates g above (NodeOnGrid n) h = of_part g 0 (for_each (length g.nodes) NodeOnGrid) (NodeOnGrid n) (omega arith) refl
    (Contains-for_each (length g.nodes) NodeOnGrid n h)
Contains-candidates g above (LineOnGrid e) h = of_part g 1 (for_each (length g.edges) LineOnGrid) (LineOnGrid e) (omega arith) refl
    (Contains-for_each (length g.edges) LineOnGrid e h)
Contains-candidates g above (Ordered u v) h = of_part g 2 (for_pairs (length g.nodes) Ordered) (Ordered u v) (omega arith) refl
    (Contains-for_pairs (length g.nodes) Ordered u v h.rising h.within)
Contains-candidates g above (Joined e) h = of_part g 3 (for_each (length g.edges) Joined) (Joined e) (omega arith) refl
    (Contains-for_each (length g.edges) Joined e h)
Contains-candidates g above (Aligned n) h = of_part g 4 (for_each (length g.nodes) Aligned) (Aligned n) (omega arith) refl
    (Contains-for_each (length g.nodes) Aligned n h)
Contains-candidates g above (Apart u v) h = of_part g 5 (for_pairs (length g.nodes) Apart) (Apart u v) (omega arith) refl
    (Contains-for_pairs (length g.nodes) Apart u v h.rising h.within)
Contains-candidates g above (Over e f) h = of_part g 6 (for_any_two (length g.edges) Over) (Over e f) (omega arith) refl
    (Contains-for_any_two (length g.edges) Over e f h.first h.second)
Contains-candidates g above (Parted e f) h = of_part g 7 (for_pairs (length g.edges) Parted) (Parted e f) (omega arith) refl
    (Contains-for_pairs (length g.edges) Parted e f h.pair.rising h.pair.within)

-- the whole drawing

abbrev pub fits : (g : Graph) (d : Drawing) → Test (Fits g d)
fits g d =
    restated (λ h. record { size = record { places = h.0; lines = h.1.0 }; are_lines = h.1.1 }) (λ h. (h.size.places, (h.size.lines, h.are_lines)))
    (both (are_equal (length d.places) (length g.nodes)) (both (are_equal (length d.lines) (length g.edges))
    (each_of (λ l. is_line l ≡ true) (λ l. is_bool (is_line l)) d.lines)))

pub lawful_from_all : (g : Graph) (above : ℕ → ℕ → Bool) (grid : GridSize) (d : Drawing) →
    Fits g d × All (λ i. IsInstance g above i → Meets g grid d i) (candidates g) → Lawful g above grid d
lawful_from_all g above grid d h = record {
  fits = h.0;
  laws = λ i speaks. All-contains (λ i. IsInstance g above i → Meets g grid d i) (candidates g) i h.1 (Contains-candidates g above i speaks) speaks;
}

abbrev pub is_lawful : (g : Graph) (above : ℕ → ℕ → Bool) (grid : GridSize) (d : Drawing) → Test (Lawful g above grid d)
is_lawful g above grid d =
    restated (lawful_from_all g above grid d) (λ lawful. (lawful.fits, λ k i _. lawful.laws (get_or (candidates g) k i)))
    (both (fits g d) (each_of (λ i. IsInstance g above i → Meets g grid d i) (holds g above grid d) (candidates g)))

pub lawful_by_test : (g : Graph) (above : ℕ → ℕ → Bool) (grid : GridSize) (d : Drawing) → (is_lawful g above grid d).passes ≡ true → Lawful g above grid d
lawful_by_test g above grid d = shown (is_lawful g above grid d)

pub unlawful_by_test : (g : Graph) (above : ℕ → ℕ → Bool) (grid : GridSize) (d : Drawing) → (is_lawful g above grid d).passes ≡ false → Lawful g above grid d →
    ⊥
unlawful_by_test g above grid d = refuted (is_lawful g above grid d)

-- the broken instances, in the order in which they are named
abbrev pub broken : Graph → (ℕ → ℕ → Bool) → GridSize → Drawing → List Instance
broken g above grid d = filter (λ i. not (holds g above grid d i).passes) (candidates g)

-- an implication that fails has its premise and not what follows
pub premise_holds : (p q : Bool) → not (not p || q) ≡ true → p ≡ true
premise_holds true q h = refl
premise_holds false q h = absurd (false≢true h)

pub conclusion_fails : (p q : Bool) → not (not p || q) ≡ true → q ≡ false
conclusion_fails true true h = absurd (false≢true h)
conclusion_fails true false h = refl
conclusion_fails false q h = absurd (false≢true h)

pub implication_fails : (p q : Bool) → p ≡ true → q ≡ false → not (not p || q) ≡ true
implication_fails true true h k = absurd (false≢true (sym k))
implication_fails true false h k = refl
implication_fails false q h k = absurd (false≢true h)

breaks : (g : Graph) (above : ℕ → ℕ → Bool) (grid : GridSize) (d : Drawing) (i : Instance) → not (holds g above grid d i).passes ≡ true →
    IsInstance g above i × (Meets g grid d i → ⊥)
breaks g above grid d i fails =
    let speaks = is_instance g above i in
    let met = meets g grid d i in
    (shown speaks (premise_holds speaks.passes met.passes fails), refuted met (conclusion_fails speaks.passes met.passes fails))

-- each broken instance is in the list
pub broken-has : (g : Graph) (above : ℕ → ℕ → Bool) (grid : GridSize) (d : Drawing) (i : Instance) → IsInstance g above i → (Meets g grid d i → ⊥) →
    Contains (broken g above grid d) i
broken-has g above grid d i speaks fails =
    let test = is_instance g above i in
    let met = meets g grid d i in
    Contains-filter (λ i. not (holds g above grid d i).passes) (candidates g) i (Contains-candidates g above i speaks)
    (implication_fails test.passes met.passes (test.decides.1 speaks) (false_from_ne_true met.passes (λ e. fails (shown met e))))

-- and what is in the list is a broken instance
pub broken-only : (g : Graph) (above : ℕ → ℕ → Bool) (grid : GridSize) (d : Drawing) (i : Instance) → Contains (broken g above grid d) i →
    IsInstance g above i × (Meets g grid d i → ⊥)
broken-only g above grid d i h =
    let fails : Instance → Bool = λ i. not (holds g above grid d i).passes in
    breaks g above grid d i (All-contains (λ i. fails i ≡ true) (broken g above grid d) i (filter_passes fails (candidates g)) h)

by_test : {P : Type 0} (t : Test P) → ((P → ⊥) → ⊥) → P
by_test t h = shown t (true_from_ne_false t.passes (λ e. h (refuted t e)))

abbrev pub lies_on : (side : Compass) (g : Graph) (n e : ℕ) → Test (LiesOn side g n e)
lies_on East g n e = are_equal (edge g e).west n
lies_on West g n e = are_equal (edge g e).east n

abbrev pub all_three : {P Q R : Type 0} → Test P → Test Q → Test R → Test (P × Q × R)
all_three p q r = restated (λ h. (h.0, h.1.0, h.1.1)) (λ h. (h.0, (h.1, h.2))) (both p (both q r))

abbrev pub all_four : {P Q R S : Type 0} → Test P → Test Q → Test R → Test S → Test (P × Q × R × S)
all_four p q r s = restated (λ h. (h.0, h.1.0, h.1.1.0, h.1.1.1)) (λ h. (h.0, (h.1, (h.2, h.3)))) (both p (both q (both r s)))

abbrev pub are_at : (g : Graph) (n : ℕ) (ports : Ports) → Test (AreAt g n ports)
are_at g n (End e side) = lies_on side g n e
are_at g n (Joint west east) = both (lies_on West g n west) (lies_on East g n east)
are_at g n (Switch legs branch trunk straight diverging) = all_three (lies_on (opposite legs) g n trunk) (lies_on legs g n straight)
    (lies_on legs g n diverging)
are_at g n (Crossing west_upper west_lower east_upper east_lower) =
    all_four (lies_on West g n west_upper) (lies_on West g n west_lower) (lies_on East g n east_upper) (lies_on East g n east_lower)

pub decides_contains : (xs : List ℕ) (x : ℕ) → Decides (list_any (λ y. y == x) xs) (Contains xs x)
decides_contains xs x =
    Decides-contains xs x (list_any (λ y. y == x) xs)
    (Decides-by_or (λ y. y == x) (λ y. y ≡ x) (list_any (λ y. y == x)) (λ y. Decides-eqb y x) refl (λ _ _. refl) xs)

abbrev pub contains : (xs : List ℕ) (x : ℕ) → Test (Contains xs x)
contains xs x = record { passes = list_any (λ y. y == x) xs; decides = decides_contains xs x }

-- no two places of the list have one number
abbrev pub EachOnce : List ℕ → Type 0
EachOnce xs = (j : ℕ) → j < length xs → (i : ℕ) → i < j → slice_index_or xs i 0 ≢ slice_index_or xs j 0

pub pairs_apart : (xs : List ℕ) → EachOnce xs → AllPairs (λ e f. e ≢ f) xs
pairs_apart xs h i j d rising within same =
    let earlier : i < length xs = omega arith in
    h j within i rising (get_or_default xs i 0 d earlier ∙ same ∙ sym (get_or_default xs j 0 d within))

abbrev pub are_apart : (xs : List ℕ) → Test (AllPairs (λ e f. e ≢ f) xs)
are_apart xs =
    restated (pairs_apart xs) (λ h j within i rising. h i j 0 rising within)
    (each_below (length xs) (λ j. (i : ℕ) → i < j → slice_index_or xs i 0 ≢ slice_index_or xs j 0) (λ j.
    each_below j (λ i. slice_index_or xs i 0 ≢ slice_index_or xs j 0) (λ i. opposite_of (are_equal (slice_index_or xs i 0) (slice_index_or xs j 0)))))

abbrev pub are_ports_of : (g : Graph) (n : ℕ) (ports : Ports) → Test (ArePortsOf g n ports)
are_ports_of g n ports =
    restated (λ h. record { there = h.0; apart = h.1.0; placed = h.1.1 }) (λ h. (h.there, (h.apart, h.placed)))
    (both (each_of (λ e. e < length g.edges) (λ e. is_below e (length g.edges)) (edges_of ports)) (both (are_apart (edges_of ports)) (are_at g n ports)))

-- the edge joins two nodes that are there, lies towards greater mileages, and is a port of both
abbrev pub IsEdgeOf : Graph → ℕ → Type 0
IsEdgeOf g e =
    ((edge g e).west < length g.nodes) × ((edge g e).east < length g.nodes)
    × (mileage g (edge g e).west <ℤ mileage g (edge g e).east)
    × IsPortOf g (edge g e).west e × IsPortOf g (edge g e).east e

abbrev pub is_edge_of : (g : Graph) (e : ℕ) → Test (IsEdgeOf g e)
is_edge_of g e =
    restated (λ h. (h.0, h.1.0, h.1.1.0, h.1.1.1.0, h.1.1.1.1)) (λ h. (h.0, (h.1, (h.2, (h.3, h.4)))))
    (both (is_below (edge g e).west (length g.nodes))
    (both (is_below (edge g e).east (length g.nodes))
    (both (is_smaller_integer (mileage g (edge g e).west) (mileage g (edge g e).east))
    (both (contains (edges_of (node g (edge g e).west).ports) e) (contains (edges_of (node g (edge g e).east).ports) e)))))

abbrev pub is_track_graph : (g : Graph) → Test (IsTrackGraph g)
is_track_graph g =
    restated
    (λ h. record {
      nodes = λ e within. ((h.0 e within).0, (h.0 e within).1);
      forward = λ e within. (h.0 e within).2;
      met = λ e within. ((h.0 e within).3, (h.0 e within).4);
      ports = h.1;
    })
    (λ h. (λ e within. ((h.nodes e within).0, (h.nodes e within).1, h.forward e within, (h.met e within).0, (h.met e within).1), h.ports))
    (both (each_below (length g.edges) (IsEdgeOf g) (is_edge_of g)) (each_below (length g.nodes) (λ n. ArePortsOf g n (node g n).ports)
    (λ n. are_ports_of g n (node g n).ports)))

pub track_graph_by_test : (g : Graph) → (is_track_graph g).passes ≡ true → IsTrackGraph g
track_graph_by_test g = shown (is_track_graph g)
