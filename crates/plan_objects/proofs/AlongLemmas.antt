-- Mileages rise or fall along a track throughout, so a signal between the nodes at its track's ends is on its edge.
use Rattle.std.proofs.Common.{◌≡◌, ◌⊎◌, ℕ, zero, suc, ◌<◌, ◌≤◌, ◌+◌, Bool, true, false, not, cond, ℤ, List, [], ◌∷◌, ◌++◌, map, length, Option, Some, None}
use Rattle.std.proofs.Common.{slice_get, get_or, refl, sym, ◌∙◌, ap, subst, inl, inr, arith}
use Rattle.std.specs.Prelude.{◌<ℤ◌, ◌≤ℤ◌, int_lt, int_le, nat_eq, count_by}
use Rattle.std.specs.Option.{option_map_or}
use Rattle.std.proofs.lemmas.Int.{ints}
use Rattle.std.proofs.lemmas.Bool.{cases_lt}
use Rattle.std.proofs.lemmas.Option.{none-some, same_Some, slice_get_within, get_or_from_slice_get}
use Rattle.std.proofs.lemmas.List.Sums.{sum_by-cons}
use Rattle.plan_core.proofs.ListFacts.{get_within}
use Rattle.plan_core.specs.declared.sides.Compass.{Compass}
use Rattle.plan_core.specs.declared.sides.Compass.TheVariants.{East, West}
use Rattle.plan_core.specs.declared.sides.Hand.{Hand}
use Rattle.plan_core.specs.declared.topology.Topology.{Topology}
use Rattle.plan_core.specs.declared.topology.Track.{Track}
use Rattle.plan_core.specs.declared.topology.Inner.{Inner}
use Rattle.plan_core.specs.declared.topology.InnerKind.{InnerKind}
use Rattle.plan_core.specs.declared.topology.InnerKind.TheVariants.{Switch, Crossing}
use Rattle.plan_core.specs.Topology.{IsResolved}
use Rattle.plan_core.specs.Graph.{Graph, Edge, Ports, edge, node, mileage}
use Rattle.port_graph.specs.Spots.{leads_to, inner_spot}
use Rattle.port_graph.specs.Runs.{spots_along, piece_number, edge_beyond}
use Rattle.port_graph.specs.Sites.{sites, node_number, inner_site, inner_meeting}
use Rattle.port_graph.specs.PortRule.{switch_ports, crossing_ports, ports_of}
use Rattle.port_graph.specs.TopologyGraph.{IsRun, IsStationGraphOf, side_at}
use Rattle.port_graph.proofs.Membership.{contains_in}
use Rattle.port_graph.proofs.MeetingLemmas.{inner_site_there}
use Rattle.port_graph.proofs.RunEnds.{run_site_from, run_site_to}
use Rattle.port_graph.proofs.RunLemmas.{piece_at, spot_of_inner, spot_of_end, spot_cases}
use Rattle.port_graph.proofs.TrackGraphLemmas.{edge_is, edge_within, west_cases}
use Rattle.plan_objects.specs.Rows.{Station, IsPlaceOf, goes_east, is_passed, piece_at as piece_passed}
use Rattle.plan_objects.specs.Along.{LiesBetween, IsAlong, LiesOnItsEdge}
use Rattle.railml_read.specs.declared.rows.SignalElem.{SignalElem}
use Rattle.plan_objects.specs.declared.places.SignalPlace.{SignalPlace}

-- ---- the edges of a track at a switch or crossing lie on opposite sides of it

switch_apart : (hand : Hand) (a b c : ℕ) (x y z : Compass) (ports : Ports) → switch_ports hand a b c x y z ≡ Some ports → (x ≡ y → ⊥) × (x ≡ z → ⊥)
switch_apart hand a b c West West West ports e = absurd (none-some ports e)
switch_apart hand a b c West West East ports e = absurd (none-some ports e)
switch_apart hand a b c West East West ports e = absurd (none-some ports e)
switch_apart hand a b c West East East ports e = ((λ q. cc), (λ q. cc))
switch_apart hand a b c East West West ports e = ((λ q. cc), (λ q. cc))
switch_apart hand a b c East West East ports e = absurd (none-some ports e)
switch_apart hand a b c East East West ports e = absurd (none-some ports e)
switch_apart hand a b c East East East ports e = absurd (none-some ports e)

crossing_apart : (hand : Hand) (a b c d : ℕ) (x y z w : Compass) (ports : Ports) → crossing_ports hand a b c d x y z w ≡ Some ports → x ≡ y → ⊥
crossing_apart hand a b c d West East z w ports e = λ q. cc
crossing_apart hand a b c d East West z w ports e = λ q. cc
crossing_apart hand a b c d West West West West ports e = absurd (none-some ports e)
crossing_apart hand a b c d West West West East ports e = absurd (none-some ports e)
crossing_apart hand a b c d West West East West ports e = absurd (none-some ports e)
crossing_apart hand a b c d West West East East ports e = absurd (none-some ports e)
crossing_apart hand a b c d East East West West ports e = absurd (none-some ports e)
crossing_apart hand a b c d East East West East ports e = absurd (none-some ports e)
crossing_apart hand a b c d East East East West ports e = absurd (none-some ports e)
crossing_apart hand a b c d East East East East ports e = absurd (none-some ports e)

opposite : (t : Topology) (side : ℕ → Compass) (before after : ℕ) (what : InnerKind) (ports : Ports) →
    ports_of side (inner_meeting t before after what) ≡ Some ports → side before ≡ side after → ⊥
opposite t side before after (Switch true hand true conn) ports e same = (switch_apart hand before (edge_beyond t conn) after (side before)
    (side (edge_beyond t conn)) (side after) ports e).1 same
opposite t side before after (Switch true hand false conn) ports e same = (switch_apart hand before after (edge_beyond t conn) (side before) (side after)
    (side (edge_beyond t conn)) ports e).0 same
opposite t side before after (Switch false hand true conn) ports e same = (switch_apart hand after (edge_beyond t conn) before (side after)
    (side (edge_beyond t conn)) (side before) ports e).1 (sym same)
opposite t side before after (Switch false hand false conn) ports e same = (switch_apart hand after before (edge_beyond t conn) (side after) (side before)
    (side (edge_beyond t conn)) ports e).0 (sym same)
opposite t side before after (Crossing hand incoming outgoing) ports e same =
    crossing_apart hand before after (edge_beyond t incoming) (edge_beyond t outgoing) (side before) (side after) (side (edge_beyond t incoming))
    (side (edge_beyond t outgoing)) ports e same

-- ---- rising and falling

-- the next mileage is greater, or less
abbrev Next : Bool → ℤ → ℤ → Type 0
Next true a b = a <ℤ b
Next false a b = b <ℤ a

-- the one mileage isn't past the other, going up or down
abbrev AtMost : Bool → ℤ → ℤ → Type 0
AtMost true a b = a ≤ℤ b
AtMost false a b = b ≤ℤ a

next_then : (up : Bool) (a b c : ℤ) → Next up a b → Next up b c → Next up a c
next_then true a b c m n = omega (arith, ints)
next_then false a b c m n = omega (arith, ints)

never_both : (a b : ℤ) → a <ℤ b → b <ℤ a → ⊥
never_both a b m n = omega (arith, ints)

never_same : (a b : ℤ) → a <ℤ b → a ≡ b → ⊥
never_same a b m e = never_both a b m (subst (λ z. z <ℤ a) e (subst (λ z. a <ℤ z) (sym e) m))

within : (up : Bool) (a b z : ℤ) → Next up a b → LiesBetween a b z → AtMost up a z × AtMost up z b
within true a b z n (inl h) = h
within true a b z n (inr h) = let p = h.0 in let q = h.1 in absurd (omega (arith, ints))
within false a b z n (inl h) = let p = h.0 in let q = h.1 in absurd (omega (arith, ints))
within false a b z n (inr h) = (h.1, h.0)

passed_so : (up : Bool) (z : ℤ) (x : Inner) → is_passed up z x ≡ true → AtMost up x.mile.0 z
passed_so true z x e = grind (arith, ints)
passed_so false z x e = grind (arith, ints)

unpassed_so : (up : Bool) (z : ℤ) (x : Inner) → is_passed up z x ≡ false → AtMost up z x.mile.0
unpassed_so true z x e = grind (arith, ints)
unpassed_so false z x e = grind (arith, ints)

unpassed_next : (up : Bool) (z : ℤ) (x y : Inner) → Next up x.mile.0 y.mile.0 → is_passed up z x ≡ false → is_passed up z y ≡ false
unpassed_next true z x y n e = grind (arith, ints)
unpassed_next false z x y n e = grind (arith, ints)

-- ---- a list that goes one way is passed up to a place

abbrev Steps : Bool → List Inner → Type 0
Steps up xs = (i : ℕ) (x y : Inner) → slice_get xs i ≡ Some x → slice_get xs (suc i) ≡ Some y → Next up x.mile.0 y.mile.0

count_cons : (up : Bool) (z : ℤ) (x : Inner) (xs : List Inner) (b : Bool) → is_passed up z x ≡ b →
    count_by (is_passed up z) (x ∷ xs) ≡ cond b 1 0 + count_by (is_passed up z) xs
count_cons up z x xs b e = sum_by-cons (λ y. cond (is_passed up z y) 1 0) x xs ∙ ap (λ (c : Bool). cond c 1 0 + count_by (is_passed up z) xs) e

nothing : (m n : ℕ) → m ≡ 0 + n → n ≡ 0 → m ≡ 0
nothing m n e f = omega (arith, e, f)

none_behind : (up : Bool) (z : ℤ) (x : Inner) (xs : List Inner) → Steps up (x ∷ xs) → is_passed up z x ≡ false →
    (count_by (is_passed up z) xs ≡ 0) × ((i : ℕ) (y : Inner) → slice_get xs i ≡ Some y → is_passed up z y ≡ false)
none_behind up z x [] steps not_yet = (refl, λ i y e. absurd (none-some y e))
none_behind up z x (w ∷ ws) steps not_yet =
    let here = unpassed_next up z x w (steps 0 x w refl refl) not_yet in
    let rest = none_behind up z w ws (λ i a b e f. steps (suc i) a b e f) here in
    (nothing (count_by (is_passed up z) (w ∷ ws)) (count_by (is_passed up z) ws) (count_cons up z w ws false here) rest.0, behind here rest.1)
  where
    behind : is_passed up z w ≡ false → ((i : ℕ) (y : Inner) → slice_get ws i ≡ Some y → is_passed up z y ≡ false) → (i : ℕ) (y : Inner) →
        slice_get (w ∷ ws) i ≡ Some y → is_passed up z y ≡ false
    behind here rest zero y e = subst (λ (v : Inner). is_passed up z v ≡ false) (same_Some w y e) here
    behind here rest (suc i) y e = rest i y e

true_or_false : (b : Bool) → (b ≡ true) ⊎ (b ≡ false)
true_or_false true = inl refl
true_or_false false = inr refl

record Splits (up : Bool) (z : ℤ) (xs : List Inner) (i : ℕ) (x : Inner) : Type 0 where
  before : i < count_by (is_passed up z) xs → AtMost up x.mile.0 z
  behind : count_by (is_passed up z) xs ≤ i → AtMost up z x.mile.0

splits : (up : Bool) (z : ℤ) (xs : List Inner) → Steps up xs → (i : ℕ) (x : Inner) → slice_get xs i ≡ Some x → Splits up z xs i x
splits up z [] steps i x e = absurd (none-some x e)
splits up z (w ∷ ws) steps zero x e = elim (true_or_false (is_passed up z w)) [
  | inl passes ↦
      let n = count_cons up z w ws true passes in
      record {
        before = λ less. passed_so up z x (subst (λ (v : Inner). is_passed up z v ≡ true) (same_Some w x e) passes);
        behind = λ few. absurd (omega (arith, n, few));
      }
  | inr fails ↦
      let n = nothing (count_by (is_passed up z) (w ∷ ws)) (count_by (is_passed up z) ws) (count_cons up z w ws false fails)
      (none_behind up z w ws steps fails).0 in
      record {
        before = λ less. absurd (omega (arith, n, less));
        behind = λ few. unpassed_so up z x (subst (λ (v : Inner). is_passed up z v ≡ false) (same_Some w x e) fails);
      }
]
splits up z (w ∷ ws) steps (suc i) x e = elim (true_or_false (is_passed up z w)) [
  | inl passes ↦
      let n = count_cons up z w ws true passes in
      let rest = splits up z ws (λ j a b p q. steps (suc j) a b p q) i x e in
      record {
        before = λ less. rest.before (omega (arith, n, less));
        behind = λ few. rest.behind (omega (arith, n, few));
      }
  | inr fails ↦
      let later = none_behind up z w ws steps fails in
      let n = nothing (count_by (is_passed up z) (w ∷ ws)) (count_by (is_passed up z) ws) (count_cons up z w ws false fails) later.0 in
      record {
        before = λ less. absurd (omega (arith, n, less));
        behind = λ few. unpassed_so up z x (later.1 i x e);
      }
]

count_few : (p : Inner → Bool) (xs : List Inner) → count_by p xs ≤ length xs
count_few p [] = omega arith
count_few p (x ∷ xs) =
    let n = sum_by-cons (λ y. cond (p y) 1 0) x xs in
    elim (true_or_false (p x)) [
      | inl passes ↦ (let one : cond {A = ℕ} (p x) 1 0 ≡ 1 = ap (λ (b : Bool). cond {A = ℕ} b 1 0) passes in omega (arith, n, one, count_few p xs))
      | inr fails ↦ (let one : cond {A = ℕ} (p x) 1 0 ≡ 0 = ap (λ (b : Bool). cond {A = ℕ} b 1 0) fails in omega (arith, n, one, count_few p xs))
    ]

same_numbers : (m n : ℕ) → m ≡ n → nat_eq m n ≡ true
same_numbers m n e = grind (arith, e)

other_numbers : (m n : ℕ) → (m ≡ n → ⊥) → nat_eq m n ≡ false
other_numbers m n differ = elim (true_or_false (nat_eq m n)) [
  | inl passes ↦ absurd (differ (grind (arith, passes)))
  | inr fails ↦ fails
]

last_or_before : (i n : ℕ) → i ≤ n → (i ≡ n) ⊎ (i < n)
last_or_before i n low = elim (cases_lt i n) [
  | inl less ↦ inr less
  | inr more ↦ inl (omega (arith, low, more))
]

-- ---- along a track: its spots are numbered from 0 at the begin, and piece i lies between spots i and i + 1

module _ (t : Topology) (g : Graph) (k : ℕ) (track : Track) (on : slice_get t.tracks k ≡ Some track) (resolved : IsResolved t)
    (graph : IsStationGraphOf t g) where
  abbrev mile : ℕ → ℤ
  mile i = (get_or (spots_along t track) i (leads_to t track.begin)).mile.0

  abbrev place : ℕ → ℕ
  place i = (get_or (spots_along t track) i (leads_to t track.begin)).at

  abbrev number : ℕ → ℕ
  number i = piece_number t k i

  there : (i : ℕ) → i ≤ suc (length track.inner) → slice_get (spots_along t track) i ≡ Some (get_or (spots_along t track) i (leads_to t track.begin))
  there i low =
      let top = slice_get_within (spots_along t track) (suc (length track.inner)) (leads_to t track.end) (spot_of_end t track) in
      let w = get_within (spots_along t track) i (omega (arith, low, top)) in
      w.1 ∙ sym (ap Some (get_or_from_slice_get (spots_along t track) i w.0 (leads_to t track.begin) w.1))

  run : (i : ℕ) → i ≤ length track.inner → IsRun t (number i) (record {
    track = track.id;
    from = get_or (spots_along t track) i (leads_to t track.begin);
    to = get_or (spots_along t track) (suc i) (leads_to t track.begin);
  })
  run i low = inl (piece_at t k i track (get_or (spots_along t track) i (leads_to t track.begin))
      (get_or (spots_along t track) (suc i) (leads_to t track.begin)) on (there i (omega (arith, low))) (there (suc i) (omega (arith, low))))

  from_mile : (i : ℕ) → i ≤ length track.inner → mileage g (node_number t (place i)) ≡ mile i
  from_mile i low =
      let w = run_site_from t resolved (number i) (record {
        track = track.id;
        from = get_or (spots_along t track) i (leads_to t track.begin);
        to = get_or (spots_along t track) (suc i) (leads_to t track.begin);
      }) (run i low) in
      let at = w.at in
      let is = (graph.graph.each w.site (contains_in (sites t) w.site w.there)).mileage in
      cc

  to_mile : (i : ℕ) → i ≤ length track.inner → mileage g (node_number t (place (suc i))) ≡ mile (suc i)
  to_mile i low =
      let w = run_site_to t resolved (number i) (record {
        track = track.id;
        from = get_or (spots_along t track) i (leads_to t track.begin);
        to = get_or (spots_along t track) (suc i) (leads_to t track.begin);
      }) (run i low) in
      let at = w.at in
      let is = (graph.graph.each w.site (contains_in (sites t) w.site w.there)).mileage in
      cc

  -- a piece goes up or down, and its edge's west node is at its lower end
  record Goes (i : ℕ) (up : Bool) : Type 0 where
    next : Next up (mile i) (mile (suc i))
    west : (edge g (number i)).west ≡ node_number t (cond up (place i) (place (suc i)))
    east : (edge g (number i)).east ≡ node_number t (cond up (place (suc i)) (place i))

  forward : (i : ℕ) → i ≤ length track.inner → mileage g (edge g (number i)).west <ℤ mileage g (edge g (number i)).east
  forward i low = graph.station.track_graph.forward (number i) (edge_within t g.edges (number i) (record {
    track = track.id;
    from = get_or (spots_along t track) i (leads_to t track.begin);
    to = get_or (spots_along t track) (suc i) (leads_to t track.begin);
  }) graph.graph.edges (run i low))

  lower : (i m n : ℕ) → i ≤ length track.inner → (edge g (number i)).west ≡ node_number t m → (edge g (number i)).east ≡ node_number t n →
      mileage g (node_number t m) <ℤ mileage g (node_number t n)
  lower i m n low west east = subst (λ (a : ℕ). mileage g a <ℤ mileage g (node_number t n)) west
      (subst (λ (b : ℕ). mileage g (edge g (number i)).west <ℤ mileage g b) east (forward i low))

  next_miles : (a b c d : ℤ) → a <ℤ b → a ≡ c → b ≡ d → c <ℤ d
  next_miles a b c d less e f = subst (λ z. z <ℤ d) e (subst (λ z. a <ℤ z) f less)

  goes : (i : ℕ) → i ≤ length track.inner → (up : Bool) × Goes i up
  goes i low =
      let is = edge_is t g.edges (number i) (record {
        track = track.id;
        from = get_or (spots_along t track) i (leads_to t track.begin);
        to = get_or (spots_along t track) (suc i) (leads_to t track.begin);
      }) graph.graph.edges (run i low) in
      let west = ap (λ (x : Edge). x.west) is in
      let east = ap (λ (x : Edge). x.east) is in
      elim (west_cases (record {
        track = track.id;
        from = get_or (spots_along t track) i (leads_to t track.begin);
        to = get_or (spots_along t track) (suc i) (leads_to t track.begin);
      })) [
        | inl c ↦
            (let a = c.0 in let b = c.1 in
            let from : (edge g (number i)).west ≡ node_number t (place i) = cc in
            let to : (edge g (number i)).east ≡ node_number t (place (suc i)) = cc in (
              true,
              record {
                next = next_miles (mileage g (node_number t (place i))) (mileage g (node_number t (place (suc i)))) (mile i) (mile (suc i))
                    (lower i (place i) (place (suc i)) low from to) (from_mile i low) (to_mile i low);
                west = from;
                east = to;
              },
            ))
        | inr c ↦
            (let a = c.0 in let b = c.1 in
            let from : (edge g (number i)).west ≡ node_number t (place (suc i)) = cc in
            let to : (edge g (number i)).east ≡ node_number t (place i) = cc in (
              false,
              record {
                next = next_miles (mileage g (node_number t (place (suc i)))) (mileage g (node_number t (place i))) (mile (suc i)) (mile i)
                    (lower i (place (suc i)) (place i) low from to) (to_mile i low) (from_mile i low);
                west = from;
                east = to;
              },
            ))
      ]

  numbers_differ : (i : ℕ) (up : Bool) → i ≤ length track.inner → Next up (mile i) (mile (suc i)) → node_number t (place i) ≡ node_number t (place (suc i)) → ⊥
  numbers_differ i up low n same = differ up n (sym (from_mile i low) ∙ ap (mileage g) same ∙ to_mile i low)
    where
      differ : (up : Bool) → Next up (mile i) (mile (suc i)) → mile i ≡ mile (suc i) → ⊥
      differ true n s = never_same (mile i) (mile (suc i)) n s
      differ false n s = never_same (mile (suc i)) (mile i) n (sym s)

  from_side : (i : ℕ) (up : Bool) → i ≤ length track.inner → Goes i up → side_at g.edges (node_number t (place i)) (number i) ≡ cond up East West
  from_side i true low h = ap (λ (b : Bool). cond b East West) (same_numbers (edge g (number i)).west (node_number t (place i)) h.west)
  from_side i false low h = ap (λ (b : Bool). cond b East West) (other_numbers (edge g (number i)).west (node_number t (place i))
      (λ s. numbers_differ i false low h.next (sym s ∙ h.west)))

  to_side : (i : ℕ) (up : Bool) → i ≤ length track.inner → Goes i up → side_at g.edges (node_number t (place (suc i))) (number i) ≡ cond up West East
  to_side i true low h = ap (λ (b : Bool). cond b East West) (other_numbers (edge g (number i)).west (node_number t (place (suc i)))
      (λ s. numbers_differ i true low h.next (sym h.west ∙ s)))
  to_side i false low h = ap (λ (b : Bool). cond b East West) (same_numbers (edge g (number i)).west (node_number t (place (suc i))) h.west)

  inner_is : (i : ℕ) (x : Inner) → slice_get track.inner i ≡ Some x → get_or (spots_along t track) (suc i) (leads_to t track.begin) ≡ inner_spot x
  inner_is i x is = get_or_from_slice_get (spots_along t track) (suc i) (inner_spot x) (leads_to t track.begin) (spot_of_inner t track i x is)

  inner_place : (i : ℕ) (x : Inner) → slice_get track.inner i ≡ Some x → place (suc i) ≡ x.at
  inner_place i x is = let e = inner_is i x is in cc

  inner_mile : (i : ℕ) (x : Inner) → slice_get track.inner i ≡ Some x → mile (suc i) ≡ x.mile.0
  inner_mile i x is = let e = inner_is i x is in cc

  end_mile : mile (suc (length track.inner)) ≡ (leads_to t track.end).mile.0
  end_mile = let e = get_or_from_slice_get (spots_along t track) (suc (length track.inner)) (leads_to t track.end) (leads_to t track.begin)
      (spot_of_end t track) in cc

  -- past a switch or crossing the track goes on the same way
  goes_on : (up : Bool) (i : ℕ) (x : Inner) → slice_get track.inner i ≡ Some x → Goes i up → Goes (suc i) up
  goes_on up i x is h =
      let low : suc i ≤ length track.inner = slice_get_within track.inner i x is in
      let here_number = node_number t x.at in
      let node_is = graph.graph.each (inner_site t k i x) (contains_in (sites t) (inner_site t k i x) (inner_site_there t k i track x on is)) in
      let next : suc i ≡ i + 1 = omega arith in
      let here = ap (node_number t) (inner_place i x is) in
      let apart : side_at g.edges (node_number t (place (suc i))) (number i) ≡ side_at g.edges (node_number t (place (suc i))) (number (suc i)) → ⊥ =
      λ same. opposite t (side_at g.edges here_number) (number i) (number (i + 1)) x.what (node g here_number).ports node_is.ports
      (ap (λ (n : ℕ). side_at g.edges n (number i)) (sym here) ∙ same ∙ ap (λ (n : ℕ). side_at g.edges n (number (suc i))) here
      ∙ ap (λ (j : ℕ). side_at g.edges here_number (number j)) next) in
      let way = goes (suc i) low in
      follows up way.0 way.1 (to_side i up (omega (arith, low)) h) (from_side (suc i) way.0 low way.1) apart
    where
      follows : (up on_up : Bool) → Goes (suc i) on_up →
          side_at g.edges (node_number t (place (suc i))) (number i) ≡ cond up West East →
          side_at g.edges (node_number t (place (suc i))) (number (suc i)) ≡ cond on_up East West →
          (side_at g.edges (node_number t (place (suc i))) (number i) ≡ side_at g.edges (node_number t (place (suc i))) (number (suc i)) → ⊥) → Goes (suc i) up
      follows true true g s r apart = g
      follows false false g s r apart = g
      follows true false g s r apart = absurd (apart (s ∙ sym r))
      follows false true g s r apart = absurd (apart (s ∙ sym r))

  all_go : (up : Bool) → Goes 0 up → (i : ℕ) → i ≤ length track.inner → Goes i up
  all_go up h zero low = h
  all_go up h (suc i) low = let x = get_within track.inner i (omega (arith, low)) in goes_on up i x.0 x.1 (all_go up h i (omega (arith, low)))

  module _ (up : Bool) (way : (i : ℕ) → i ≤ length track.inner → Goes i up) where
    steps : Steps up track.inner
    steps i x y is is' = by up (way (suc i) (let lt = slice_get_within track.inner (suc i) y is' in omega (arith, lt))).next (inner_mile i x is)
        (inner_mile (suc i) y is')
      where
        by : (up : Bool) → Next up (mile (suc i)) (mile (suc (suc i))) → mile (suc i) ≡ x.mile.0 → mile (suc (suc i)) ≡ y.mile.0 → Next up x.mile.0 y.mile.0
        by true n e f = next_miles (mile (suc i)) (mile (suc (suc i))) x.mile.0 y.mile.0 n e f
        by false n e f = next_miles (mile (suc (suc i))) (mile (suc i)) y.mile.0 x.mile.0 n f e

    -- from the begin to each further spot
    far : (i : ℕ) → i ≤ length track.inner → Next up (mile 0) (mile (suc i))
    far zero low = (way 0 low).next
    far (suc i) low = next_then up (mile 0) (mile (suc i)) (mile (suc (suc i))) (far i (omega (arith, low))) (way (suc i) low).next

    east_so : (x : Inner) → slice_get track.inner 0 ≡ Some x → nat_eq (edge g (number 0)).east (node_number t x.at) ≡ up
    east_so x is = by up (way 0 (omega arith)) (ap (node_number t) (inner_place 0 x is))
      where
        by : (up : Bool) → Goes 0 up → node_number t (place 1) ≡ node_number t x.at → nat_eq (edge g (number 0)).east (node_number t x.at) ≡ up
        by true h e = same_numbers (edge g (number 0)).east (node_number t x.at) (h.east ∙ e)
        by false h e = other_numbers (edge g (number 0)).east (node_number t x.at) (λ s. numbers_differ 0 false (omega arith) h.next (sym h.east ∙ s ∙ sym e))

    -- so many switches and crossings are passed, whichever way the track goes
    passed_by : (z : ℤ) (xs : List Inner) → track.inner ≡ xs → piece_passed t g k track z ≡ count_by (is_passed up z) track.inner
    passed_by z [] e = ap (λ (ys : List Inner). count_by (is_passed (goes_east t g k track) z) ys) e
        ∙ sym (ap (λ (ys : List Inner). count_by (is_passed up z) ys) e)
    passed_by z (x ∷ xs) e =
        let is : slice_get track.inner 0 ≡ Some x = ap (λ (ys : List Inner). slice_get ys 0) e in
        ap (λ (b : Bool). count_by (is_passed b z) track.inner) (ap (λ (o : Option Inner). option_map_or
        (λ (y : Inner). nat_eq (edge g (number 0)).east (node_number t y.at)) o true) is ∙ east_so x is)

    -- the piece that a mileage is on
    module _ (z : ℤ) (along : IsAlong t track z) where
      ends : AtMost up (mile 0) z × AtMost up z (mile (suc (length track.inner)))
      ends = within up (mile 0) (mile (suc (length track.inner))) z (far (length track.inner) (omega arith))
          (subst (λ (y : ℤ). LiesBetween (mile 0) y z) (sym end_mile) along)

      after_spot : (i : ℕ) → i ≡ count_by (is_passed up z) track.inner → AtMost up (mile i) z
      after_spot zero e = ends.0
      after_spot (suc i) e =
          let few = count_few (is_passed up z) track.inner in
          let x = get_within track.inner i (omega (arith, few, e)) in
          subst (λ (y : ℤ). AtMost up y z) (sym (inner_mile i x.0 x.1)) ((splits up z track.inner steps i x.0 x.1).before (omega (arith, e)))

      before_spot : (i : ℕ) → i ≡ count_by (is_passed up z) track.inner → (i ≡ length track.inner) ⊎ (i < length track.inner) → AtMost up z (mile (suc i))
      before_spot i e (inl last) = subst (λ (n : ℕ). AtMost up z (mile (suc n))) (sym last) ends.1
      before_spot i e (inr low) =
          let x = get_within track.inner i low in
          subst (λ (y : ℤ). AtMost up z y) (sym (inner_mile i x.0 x.1)) ((splits up z track.inner steps i x.0 x.1).behind (omega (arith, e)))

      on_run : (up : Bool) (i : ℕ) → i ≤ length track.inner → Goes i up → AtMost up (mile i) z → AtMost up z (mile (suc i)) →
          (mileage g (edge g (number i)).west ≤ℤ z) × (z ≤ℤ mileage g (edge g (number i)).east)
      on_run true i low h a b = (
        subst (λ y. y ≤ℤ z) (sym (ap (mileage g) h.west ∙ from_mile i low)) a,
        subst (λ y. z ≤ℤ y) (sym (ap (mileage g) h.east ∙ to_mile i low)) b,
      )
      on_run false i low h a b = (
        subst (λ y. y ≤ℤ z) (sym (ap (mileage g) h.west ∙ to_mile i low)) b,
        subst (λ y. z ≤ℤ y) (sym (ap (mileage g) h.east ∙ from_mile i low)) a,
      )

      on_piece : (i : ℕ) → i ≡ count_by (is_passed up z) track.inner → (mileage g (edge g (number i)).west ≤ℤ z) × (z ≤ℤ mileage g (edge g (number i)).east)
      on_piece i e =
          let few = count_few (is_passed up z) track.inner in
          let low : i ≤ length track.inner = omega (arith, few, e) in
          on_run up i low (way i low) (after_spot i e) (before_spot i e (last_or_before i (length track.inner) low))

  on_edge : (z : ℤ) → IsAlong t track z → (mileage g (edge g (number (piece_passed t g k track z))).west ≤ℤ z) ×
      (z ≤ℤ mileage g (edge g (number (piece_passed t g k track z))).east)
  on_edge z along =
      let first = goes 0 (omega arith) in
      let way = all_go first.0 first.1 in
      on_piece first.0 way z along (piece_passed t g k track z) (passed_by first.0 way z track.inner refl)

pub lies_on : (s : Station) (signal : SignalElem) (p : SignalPlace) → IsResolved s.topology → IsStationGraphOf s.topology s.graph →
    (is : IsPlaceOf s signal p) → IsAlong s.topology is.track p.mile.0 → LiesOnItsEdge s.graph p
lies_on s signal p resolved graph is along =
    let on = on_edge s.topology s.graph signal.track is.track is.on resolved graph p.mile.0 along in
    let same = sym is.edge in
    record {
      west = subst (λ (e : ℕ). mileage s.graph (edge s.graph e).west ≤ℤ p.mile.0) same on.0;
      east = subst (λ (e : ℕ). p.mile.0 ≤ℤ mileage s.graph (edge s.graph e).east) same on.1;
    }
