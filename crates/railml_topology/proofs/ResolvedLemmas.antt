-- A topology that rows resolve to is resolved: its ids and places differ, and its mileages stay in range.
use Rattle.std.proofs.Common.{◌≡◌, ◌≢◌, ℕ, ◌+◌, ◌*◌, ◌<◌, ◌≤◌, ◌^◌, Option, Some, None, List, [], ◌∷◌, length, map, refl, sym, ap, ◌∙◌, subst, inl, inr, lit≤}
use Rattle.std.proofs.Common.{arith}
use Rattle.std.specs.Prelude.{ℤ, ◌+ℤ◌, ◌-ℤ◌, MatchOption}
use Rattle.std.proofs.lemmas.Int.{ints}
use Rattle.std.proofs.lemmas.List.{length-map}
use Rattle.std.specs.List.{All, AllByRecursion, AllPairs, AllZip, flat_map}
use Rattle.std.proofs.lemmas.Bool.Decides.{leb_tells}
use Rattle.std.proofs.lemmas.List.Elements.{All-from_recursion}
use Rattle.std.proofs.lemmas.Option.{slice_get_within}
use Rattle.plan_core.specs.declared.topology.Topology.{Topology}
use Rattle.plan_core.specs.declared.topology.Track.{Track}
use Rattle.plan_core.specs.declared.topology.Inner.{Inner}
use Rattle.plan_core.specs.Topology.{Element, IsId, elements, IsMileage, track_miles, IsResolved}
use Rattle.plan_core.specs.declared.limits.TheConstants.{MAX_TRACKS}
use Rattle.railml_read.specs.declared.rows.Elem.{Elem}
use Rattle.railml_faults.specs.Rows.{BearsId, ReadsMetres, HasPosition, track_rows}
use Rattle.railml_faults.proofs.Apart.{all_more, all_joined, all_mapped, pairs_from_stands, stands_mapped, apart_short, Covers}
use Rattle.railml_topology.specs.declared.layout.Layout.{Layout}
use Rattle.railml_topology.specs.Resolved.{IsMeasuredFrom, HasMileage, IsInnerOf, IsTrackOf, IsTopologyOf}
use Rattle.railml_topology.specs.Sound.{AreSoundRows}
use Rattle.railml_topology.specs.Plans.{IsOfSize}
use Rattle.railml_topology.proofs.PositionLemmas.{number_within}
use Rattle.railml_topology.proofs.ElementLemmas.{Bears, element_of, element_is, covered}
use Rattle.railml_topology.proofs.JoinLemmas.{both_ways}
use Rattle.railml_topology.proofs.Zips.{zip_length}

-- ---- elements

pub few_elements : (rows : List Elem) (t : Topology) → AreSoundRows rows → Covers (element_of rows) (Bears rows) (elements t) → length (elements t) < 2 ^ 32
few_elements rows t s c =
    let short : length c.ks ≤ length rows = apart_short (length rows) c.ks c.apart
    (all_more (Bears rows) (λ k. k < length rows) (λ k b. slice_get_within rows k b.row b.is) c.ks c.good) in
    let same : length (elements t) ≡ length c.ks = ap length c.same ∙ length-map c.ks (element_of rows) in
    let few = s.formed.few in
    omega arith

-- the id of an element's row
record HasIdOf (rows : List Elem) (k : ℕ) : Type 0 where
  id : List ℕ
  good : IsId id
  bears : BearsId rows k id
  is : (element_of rows k).id ≡ id

id_at : (rows : List Elem) → AreSoundRows rows → (k : ℕ) → Bears rows k → HasIdOf rows k
id_at rows s k b =
    let good = s.ids k b.row b.is b.bears in
    record {
      id = good.id;
      good = good.good;
      bears = record { row = b.row; is = b.is; bears = b.bears; has = good.has };
      is = ap (λ (e : Element). e.id) (element_is rows k b.row good.id b.row.at b.is good.has refl);
    }

pub ids_good : (rows : List Elem) (t : Topology) → AreSoundRows rows → Covers (element_of rows) (Bears rows) (elements t) →
    All (λ (e : Element). IsId e.id) (elements t)
ids_good rows t s c =
    subst (λ (v : List Element). All (λ (e : Element). IsId e.id) v) (sym c.same)
    (All-from_recursion (λ (e : Element). IsId e.id) (map (element_of rows) c.ks)
    (all_mapped (λ (e : Element). IsId e.id) (element_of rows) c.ks
    (all_more (Bears rows) (λ k. IsId (element_of rows k).id) (λ k b. (let h = id_at rows s k b in subst IsId (sym h.is) h.good)) c.ks c.good)))

ids_apart : (rows : List Elem) → AreSoundRows rows → (i j : ℕ) → Bears rows i → Bears rows j → i ≢ j → (element_of rows i).id ≢ (element_of rows j).id
ids_apart rows s i j a b differ same =
    let h = id_at rows s i a in
    let k = id_at rows s j b in
    let ids : k.id ≡ h.id = sym k.is ∙ (sym same ∙ h.is) in
    differ (s.ids_differ i j h.id h.bears (subst (λ (v : List ℕ). BearsId rows j v) ids k.bears))

pub ids_differ : (rows : List Elem) (t : Topology) → AreSoundRows rows → Covers (element_of rows) (Bears rows) (elements t) →
    AllPairs (λ (d e : Element). d.id ≢ e.id) (elements t)
ids_differ rows t s c =
    subst (λ (v : List Element). AllPairs (λ (d e : Element). d.id ≢ e.id) v) (sym c.same)
    (pairs_from_stands (λ (d e : Element). d.id ≢ e.id) (map (element_of rows) c.ks)
    (stands_mapped (Bears rows) (λ (i j : ℕ). i ≢ j) (λ (d e : Element). d.id ≢ e.id) (element_of rows) (ids_apart rows s) c.ks c.good c.apart))

place_of_row : (rows : List Elem) → AreSoundRows rows → (k : ℕ) (b : Bears rows k) → (element_of rows k).at ≡ b.row.at
place_of_row rows s k b =
    let good = s.ids k b.row b.is b.bears in
    ap (λ (e : Element). e.at) (element_is rows k b.row good.id b.row.at b.is good.has refl)

places_apart : (rows : List Elem) → AreSoundRows rows → (i j : ℕ) → Bears rows i → Bears rows j → i ≢ j → (element_of rows i).at ≢ (element_of rows j).at
places_apart rows s i j a b differ same =
    let places : a.row.at ≡ b.row.at = sym (place_of_row rows s i a) ∙ (same ∙ place_of_row rows s j b) in
    elim (leb_tells i j) [
      | inl le ↦ (let h : i ≤ j = le.1 in elim (leb_tells j i) [
        | inl ge ↦ differ (let k : j ≤ i = ge.1 in omega arith)
        | inr lt ↦ (let k : i < j = lt.1 in let up : a.row.at < b.row.at = s.formed.rising i j a.row b.row k a.is b.is in omega arith)
      ])
      | inr lt ↦ (let k : j < i = lt.1 in let up : b.row.at < a.row.at = s.formed.rising j i b.row a.row k b.is a.is in omega arith)
    ]

pub places_differ : (rows : List Elem) (t : Topology) → AreSoundRows rows → Covers (element_of rows) (Bears rows) (elements t) →
    AllPairs (λ (d e : Element). d.at ≢ e.at) (elements t)
places_differ rows t s c =
    subst (λ (v : List Element). AllPairs (λ (d e : Element). d.at ≢ e.at) v) (sym c.same)
    (pairs_from_stands (λ (d e : Element). d.at ≢ e.at) (map (element_of rows) c.ks)
    (stands_mapped (Bears rows) (λ (i j : ℕ). i ≢ j) (λ (d e : Element). d.at ≢ e.at) (element_of rows) (places_apart rows s) c.ks c.good c.apart))

-- ---- mileages

-- the limit of mileages is three times that of numbers
wider : (b c : ℕ) (z : ℤ) → b ≤ c → IsOfSize b z → IsOfSize c z
wider b c z h w = let low = w.0 in let high = w.1 in (omega (arith, ints), omega (arith, ints))

sum_within : (b c : ℕ) (x y w z : ℤ) → c ≡ b + b + b → z ≡ (x +ℤ y) -ℤ w → IsOfSize b x → IsOfSize b y → IsOfSize b w → IsOfSize c z
sum_within b c x y w z e f hx hy hw =
    let a1 = hx.0 in let a2 = hx.1 in let b1 = hy.0 in let b2 = hy.1 in let c1 = hw.0 in let c2 = hw.1 in
    (omega (arith, ints), omega (arith, ints))

mileage_from : (z : ℤ) → IsOfSize (3000000000 * 1000000) z → IsMileage z
mileage_from z h = h

position_within : (row : Elem) (z : ℤ) → HasPosition row z → IsOfSize (10 ^ 15) z
position_within row z p = number_within p.text z p.reads

mile_within : (begin row : Elem) (z : ℤ) → HasMileage begin row z → IsMileage z
mile_within begin row z h = choose row.attrs.abs_pos h
  where
    choose : (o : Option (List ℕ)) → MatchOption o (IsMeasuredFrom begin row z) (λ text. ReadsMetres text z) → IsMileage z
    choose None m =
        mileage_from z (sum_within (10 ^ 15) (3000000000 * 1000000) m.start m.to m.from z refl m.sum
        (number_within m.starts.text m.start m.starts.reads) (position_within row m.to m.row_at) (position_within begin m.from m.begin_at))
    choose (Some text) r = mileage_from z (wider (10 ^ 15) (3000000000 * 1000000) z (lit≤ tt) (number_within text z r))

inner_miles : (rows : List Elem) (layouts : List Layout) (begin : Elem) (is : List ℕ) (xs : List Inner) → AllZip (IsInnerOf rows layouts begin) is xs →
    AllByRecursion IsMileage (map (λ (x : Inner). x.mile.0) xs)
inner_miles rows layouts begin [] [] h = tt
inner_miles rows layouts begin [] (x ∷ xs) h = absurd h
inner_miles rows layouts begin (i ∷ is) [] h = absurd h
inner_miles rows layouts begin (i ∷ is) (x ∷ xs) h = (mile_within begin h.0.row x.mile.0 h.0.mile, inner_miles rows layouts begin is xs h.1)

miles_of_track : (rows : List Elem) (layouts : List Layout) (l : Layout) (track : Track) → IsTrackOf rows layouts l track →
    AllByRecursion IsMileage (track_miles track)
miles_of_track rows layouts l track h = (
  mile_within h.begin_row h.begin.row track.begin.mile.0 h.begin.mile,
  all_joined IsMileage (map (λ (x : Inner). x.mile.0) track.inner) (track.end.mile.0 ∷ [])
      (inner_miles rows layouts h.begin_row l.inner track.inner h.inner) (mile_within h.begin_row h.end.row track.end.mile.0 h.end.mile, tt),
)

all_miles : (rows : List Elem) (layouts : List Layout) (ls : List Layout) (tracks : List Track) → AllZip (IsTrackOf rows layouts) ls tracks →
    AllByRecursion IsMileage (flat_map track_miles tracks)
all_miles rows layouts [] [] h = tt
all_miles rows layouts [] (track ∷ tracks) h = absurd h
all_miles rows layouts (l ∷ ls) [] h = absurd h
all_miles rows layouts (l ∷ ls) (track ∷ tracks) h =
    all_joined IsMileage (track_miles track) (flat_map track_miles tracks) (miles_of_track rows layouts l track h.0) (all_miles rows layouts ls tracks h.1)

-- ---- all of it

-- a topology has as many tracks as the rows
pub few_tracks : (rows : List Elem) (t : Topology) → AreSoundRows rows → IsTopologyOf rows t → length t.tracks ≤ MAX_TRACKS
few_tracks rows t s h =
    let layouts : List Layout = h.layouts in
    let one : length layouts ≡ length t.tracks = zip_length (IsTrackOf rows layouts) layouts t.tracks h.tracks in
    let two : length (map (λ (l : Layout). l.track) layouts) ≡ length layouts = length-map layouts (λ (l : Layout). l.track) in
    let three : length (map (λ (l : Layout). l.track) layouts) ≡ length (track_rows rows) = ap length h.laid_out.tracks in
    let few = s.few in
    omega arith

pub resolved : (rows : List Elem) (t : Topology) → AreSoundRows rows → IsTopologyOf rows t → IsResolved t
resolved rows t s h =
    let c = covered rows h.layouts t s.formed h.laid_out h.tracks in
    record {
      few = few_elements rows t s c;
      ids = ids_good rows t s c;
      ids_differ = ids_differ rows t s c;
      places_differ = places_differ rows t s c;
      joins = both_ways rows h.layouts t s h.laid_out h.tracks;
      miles = All-from_recursion IsMileage (flat_map track_miles t.tracks) (all_miles rows h.layouts h.layouts t.tracks h.tracks);
    }
