-- Where the connections and the ends of a topology stand, and that each has a file place of its own.
use Rattle.std.proofs.Common.{◌≡◌, ◌≢◌, ℕ, zero, suc, Bool, true, false, cond, List, ◌++◌, map, Option, Some, refl, sym, ap, ◌∙◌, subst, inl, inr}
use Rattle.std.specs.Prelude.{AllPairs, slice_get, option_and_then, option_to_list}
use Rattle.std.specs.Option.{option_map}
use Rattle.std.specs.List.{flat_map}
use Rattle.std.proofs.lemmas.Bool.{cases_eq}
use Rattle.std.proofs.lemmas.Option.{slice_get-map, same_Some, none-some}
use Rattle.plan_core.specs.declared.topology.Topology.{Topology}
use Rattle.plan_core.specs.declared.topology.Track.{Track}
use Rattle.plan_core.specs.declared.topology.End.{End as TrackEnd}
use Rattle.plan_core.specs.declared.topology.Inner.{Inner}
use Rattle.plan_core.specs.declared.topology.InnerKind.{InnerKind}
use Rattle.plan_core.specs.declared.topology.InnerKind.TheVariants.{Switch, Crossing}
use Rattle.plan_core.specs.declared.topology.Conn.{Conn}
use Rattle.plan_core.specs.declared.topology.Place.{Place}
use Rattle.plan_core.specs.declared.topology.Part.{Part}
use Rattle.plan_core.specs.declared.topology.Part.TheVariants.{Begin, End, Branch, Incoming, Outgoing}
use Rattle.plan_core.specs.Topology.{Element, conn_element, end_element, inner_element, connections, end_elements, inner_elements, track_element}
use Rattle.plan_core.specs.Topology.{track_elements, branch_of, incoming_of, outgoing_of, connection_of, connection, IsResolved}
use Rattle.plan_core.proofs.ListFacts.{pairs_front, pairs_tail}
use Rattle.plan_core.proofs.PlaceFacts.{same_place}
use Rattle.port_graph.specs.Spots.{end_spot, inner_spot, spot_on, spot_at, is_track_end}
use Rattle.port_graph.proofs.Membership.{In, in_at, in_left, in_right, in_map, in_flat, bound, pairs_across, pairs_right, pairs_at, pairs_apart, pairs_within}

-- ---- places

-- a track's end: its begin, or, where `last`, its end
abbrev pub end_of : Track → Bool → TrackEnd
end_of track last = cond last track.end track.begin

abbrev pub end_part : Bool → Part
end_part last = cond last End Begin

-- the part of a track at which connection m of switch or crossing i stands
abbrev pub inner_part : InnerKind → ℕ → ℕ → Part
inner_part (Switch outgoing hand track_diverges conn) i m = Branch i
inner_part (Crossing hand incoming outgoing) i zero = Incoming i
inner_part (Crossing hand incoming outgoing) i (suc m) = Outgoing i

abbrev pub end_place : ℕ → Bool → Place
end_place k last = record { track = k; part = end_part last }

abbrev pub inner_place : ℕ → InnerKind → ℕ → ℕ → Place
inner_place k what i m = record { track = k; part = inner_part what i m }

-- where the connection at a place stands: at a track's end, or at one of its switches and crossings
pub data Where (t : Topology) (p : Place) (c : Conn) : Type 0 where
  at_end : (track : Track) (last : Bool) → slice_get t.tracks p.track ≡ Some track → p.part ≡ end_part last → (end_of track last).joined ≡ Some c → Where t p c
  at_inner : (track : Track) (i m : ℕ) (x : Inner) → slice_get t.tracks p.track ≡ Some track → slice_get track.inner i ≡ Some x →
      p.part ≡ inner_part x.what i m → slice_get (connections x.what) m ≡ Some c → Where t p c

branch_there : (what : InnerKind) (i : ℕ) (c : Conn) → branch_of what ≡ Some c → (Branch i ≡ inner_part what i 0) × (slice_get (connections what) 0 ≡ Some c)
branch_there (Switch outgoing hand track_diverges conn) i c is = (refl, is)
branch_there (Crossing hand incoming outgoing) i c is = absurd (none-some c is)

incoming_there : (what : InnerKind) (i : ℕ) (c : Conn) → incoming_of what ≡ Some c →
    (Incoming i ≡ inner_part what i 0) × (slice_get (connections what) 0 ≡ Some c)
incoming_there (Switch outgoing hand track_diverges conn) i c is = absurd (none-some c is)
incoming_there (Crossing hand incoming outgoing) i c is = (refl, is)

outgoing_there : (what : InnerKind) (i : ℕ) (c : Conn) → outgoing_of what ≡ Some c →
    (Outgoing i ≡ inner_part what i 1) × (slice_get (connections what) 1 ≡ Some c)
outgoing_there (Switch outgoing hand track_diverges conn) i c is = absurd (none-some c is)
outgoing_there (Crossing hand incoming outgoing) i c is = (refl, is)

where_on : (t : Topology) (p : Place) (c : Conn) (track : Track) (part : Part) → slice_get t.tracks p.track ≡ Some track → p.part ≡ part →
    connection_of track part ≡ Some c → Where t p c
where_on t p c track Begin here on is = at_end track false here on is
where_on t p c track End here on is = at_end track true here on is
where_on t p c track (Branch i) here on is =
    let b = bound (λ (x : Inner). branch_of x.what) (slice_get track.inner i) c is in
    let s = branch_there b.0.what i c b.2 in
    at_inner track i 0 b.0 here b.1 (on ∙ s.0) s.1
where_on t p c track (Incoming i) here on is =
    let b = bound (λ (x : Inner). incoming_of x.what) (slice_get track.inner i) c is in
    let s = incoming_there b.0.what i c b.2 in
    at_inner track i 0 b.0 here b.1 (on ∙ s.0) s.1
where_on t p c track (Outgoing i) here on is =
    let b = bound (λ (x : Inner). outgoing_of x.what) (slice_get track.inner i) c is in
    let s = outgoing_there b.0.what i c b.2 in
    at_inner track i 1 b.0 here b.1 (on ∙ s.0) s.1

pub where_is : (t : Topology) (p : Place) (c : Conn) → connection t p ≡ Some c → Where t p c
where_is t p c is =
    let b = bound (λ (track : Track). connection_of track p.part) (slice_get t.tracks p.track) c is in
    where_on t p c b.0 p.part b.1 refl b.2

-- ---- the connection and the spot at a place

pub end_connection : (t : Topology) (k : ℕ) (track : Track) (last : Bool) → slice_get t.tracks k ≡ Some track →
    connection t (end_place k last) ≡ (end_of track last).joined
end_connection t k track true here = ap (option_and_then (λ (track : Track). connection_of track End)) here
end_connection t k track false here = ap (option_and_then (λ (track : Track). connection_of track Begin)) here

inner_there : (track : Track) (i m : ℕ) (x : Inner) (what : InnerKind) (c : Conn) → x.what ≡ what → slice_get track.inner i ≡ Some x →
    slice_get (connections what) m ≡ Some c → connection_of track (inner_part what i m) ≡ Some c
inner_there track i zero x (Switch outgoing hand track_diverges conn) c what at_i at_m =
    ap (option_and_then (λ (x : Inner). branch_of x.what)) at_i ∙ ap branch_of what ∙ at_m
inner_there track i (suc m) x (Switch outgoing hand track_diverges conn) c what at_i at_m = absurd (none-some c at_m)
inner_there track i zero x (Crossing hand incoming outgoing) c what at_i at_m =
    ap (option_and_then (λ (x : Inner). incoming_of x.what)) at_i ∙ ap incoming_of what ∙ at_m
inner_there track i (suc zero) x (Crossing hand incoming outgoing) c what at_i at_m =
    ap (option_and_then (λ (x : Inner). outgoing_of x.what)) at_i ∙ ap outgoing_of what ∙ at_m
inner_there track i (suc (suc m)) x (Crossing hand incoming outgoing) c what at_i at_m = absurd (none-some c at_m)

pub inner_connection : (t : Topology) (k : ℕ) (track : Track) (i m : ℕ) (x : Inner) (c : Conn) → slice_get t.tracks k ≡ Some track →
    slice_get track.inner i ≡ Some x → slice_get (connections x.what) m ≡ Some c → connection t (inner_place k x.what i m) ≡ Some c
inner_connection t k track i m x c here at_i at_m =
    ap (option_and_then (λ (track : Track). connection_of track (inner_part x.what i m))) here ∙ inner_there track i m x x.what c refl at_i at_m

pub end_spot_at : (t : Topology) (p : Place) (track : Track) (last : Bool) → slice_get t.tracks p.track ≡ Some track → p.part ≡ end_part last →
    spot_at t p ≡ Some (end_spot (end_of track last))
end_spot_at t p track true here on =
    ap (λ (part : Part). option_and_then (λ (track : Track). spot_on track part) (slice_get t.tracks p.track)) on
    ∙ ap (option_and_then (λ (track : Track). spot_on track End)) here
end_spot_at t p track false here on =
    ap (λ (part : Part). option_and_then (λ (track : Track). spot_on track part) (slice_get t.tracks p.track)) on
    ∙ ap (option_and_then (λ (track : Track). spot_on track Begin)) here

inner_spot_on : (track : Track) (i m : ℕ) (x : Inner) (what : InnerKind) → slice_get track.inner i ≡ Some x →
    spot_on track (inner_part what i m) ≡ Some (inner_spot x)
inner_spot_on track i m x (Switch outgoing hand track_diverges conn) at_i = ap (option_map inner_spot) at_i
inner_spot_on track i zero x (Crossing hand incoming outgoing) at_i = ap (option_map inner_spot) at_i
inner_spot_on track i (suc m) x (Crossing hand incoming outgoing) at_i = ap (option_map inner_spot) at_i

pub inner_spot_at : (t : Topology) (p : Place) (track : Track) (i m : ℕ) (x : Inner) → slice_get t.tracks p.track ≡ Some track →
    slice_get track.inner i ≡ Some x → p.part ≡ inner_part x.what i m → spot_at t p ≡ Some (inner_spot x)
inner_spot_at t p track i m x here at_i on =
    ap (λ (part : Part). option_and_then (λ (track : Track). spot_on track part) (slice_get t.tracks p.track)) on
    ∙ ap (option_and_then (λ (track : Track). spot_on track (inner_part x.what i m))) here
    ∙ inner_spot_on track i m x x.what at_i

pub end_is_end : (last : Bool) → is_track_end (end_part last) ≡ true
end_is_end true = refl
end_is_end false = refl

pub inner_is_no_end : (what : InnerKind) (i m : ℕ) → is_track_end (inner_part what i m) ≡ false
inner_is_no_end (Switch outgoing hand track_diverges conn) i m = refl
inner_is_no_end (Crossing hand incoming outgoing) i zero = refl
inner_is_no_end (Crossing hand incoming outgoing) i (suc m) = refl

-- ---- file places

-- of two elements, that they have different file places
abbrev pub Differ : Element → Element → Type 0
Differ d e = d.at ≢ e.at

flip : (d e : Element) → Differ d e → Differ e d
flip d e differ same = differ (sym same)

-- the elements of a track but itself
abbrev parts : Track → List Element
parts track = end_elements track.begin ++ (flat_map inner_elements track.inner ++ end_elements track.end)

in_end : (track : Track) (last : Bool) (a : Element) → In a (end_elements (end_of track last)) → In a (track_elements track)
in_end track true a h = inr (in_right (end_elements track.begin) (flat_map inner_elements track.inner ++ end_elements track.end) a
    (in_right (flat_map inner_elements track.inner) (end_elements track.end) a h))
in_end track false a h = inr (in_left (end_elements track.begin) (flat_map inner_elements track.inner ++ end_elements track.end) a h)

in_inner : (track : Track) (i : ℕ) (x : Inner) (a : Element) → slice_get track.inner i ≡ Some x → In a (inner_elements x) → In a (track_elements track)
in_inner track i x a at_i h =
    inr (in_right (end_elements track.begin) (flat_map inner_elements track.inner ++ end_elements track.end) a
    (in_left (flat_map inner_elements track.inner) (end_elements track.end) a (in_flat inner_elements track.inner x a (in_at track.inner i x at_i) h)))

tracks_apart : (t : Topology) → IsResolved t → (k k' : ℕ) (track track' : Track) (a b : Element) → slice_get t.tracks k ≡ Some track →
    slice_get t.tracks k' ≡ Some track' → k ≢ k' → In a (track_elements track) → In b (track_elements track') → Differ a b
tracks_apart t resolved k k' track track' a b here here' differ h h' =
    pairs_apart Differ flip track_elements t.tracks k k' track track' a b resolved.places_differ here here' differ h h'

parts_differ : (t : Topology) → IsResolved t → (k : ℕ) (track : Track) → slice_get t.tracks k ≡ Some track → AllPairs Differ (parts track)
parts_differ t resolved k track here =
    pairs_tail Differ (track_element track) (parts track) (pairs_within Differ track_elements t.tracks k track resolved.places_differ here)

ends_of_one : (track : Track) (last last' : Bool) (a b : Element) → AllPairs Differ (parts track) → last ≢ last' → In a (end_elements (end_of track last)) →
    In b (end_elements (end_of track last')) → Differ a b
ends_of_one track true true a b pairs differ h h' = absurd (differ refl)
ends_of_one track false false a b pairs differ h h' = absurd (differ refl)
ends_of_one track false true a b pairs differ h h' =
    pairs_across Differ (end_elements track.begin) (flat_map inner_elements track.inner ++ end_elements track.end) a b pairs h
    (in_right (flat_map inner_elements track.inner) (end_elements track.end) b h')
ends_of_one track true false a b pairs differ h h' =
    flip b a (pairs_across Differ (end_elements track.begin) (flat_map inner_elements track.inner ++ end_elements track.end) b a pairs h'
    (in_right (flat_map inner_elements track.inner) (end_elements track.end) a h))

end_and_inner : (track : Track) (last : Bool) (i : ℕ) (x : Inner) (a b : Element) → AllPairs Differ (parts track) → slice_get track.inner i ≡ Some x →
    In a (end_elements (end_of track last)) → In b (inner_elements x) → Differ a b
end_and_inner track false i x a b pairs at_i h h' =
    pairs_across Differ (end_elements track.begin) (flat_map inner_elements track.inner ++ end_elements track.end) a b pairs h
    (in_left (flat_map inner_elements track.inner) (end_elements track.end) b (in_flat inner_elements track.inner x b (in_at track.inner i x at_i) h'))
end_and_inner track true i x a b pairs at_i h h' =
    flip b a (pairs_across Differ (flat_map inner_elements track.inner) (end_elements track.end) b a
    (pairs_right Differ (end_elements track.begin) (flat_map inner_elements track.inner ++ end_elements track.end) pairs)
    (in_flat inner_elements track.inner x b (in_at track.inner i x at_i) h') h)

inners_differ : (track : Track) → AllPairs Differ (parts track) → AllPairs Differ (flat_map inner_elements track.inner)
inners_differ track pairs =
    pairs_front Differ (flat_map inner_elements track.inner) (end_elements track.end)
    (pairs_right Differ (end_elements track.begin) (flat_map inner_elements track.inner ++ end_elements track.end) pairs)

-- the connections of one switch or crossing
connections_differ : (x : Inner) (m m' : ℕ) (c d : Conn) → AllPairs Differ (inner_elements x) → slice_get (connections x.what) m ≡ Some c →
    slice_get (connections x.what) m' ≡ Some d → m ≢ m' → Differ (conn_element c) (conn_element d)
connections_differ x m m' c d pairs is is' differ =
    pairs_at Differ flip (map conn_element (connections x.what)) m m' (conn_element c) (conn_element d)
    (pairs_tail Differ (inner_element x) (map conn_element (connections x.what)) pairs)
    (slice_get-map conn_element (connections x.what) m ∙ ap (option_map conn_element) is)
    (slice_get-map conn_element (connections x.what) m' ∙ ap (option_map conn_element) is') differ

joined_in : (e : TrackEnd) (c : Conn) → e.joined ≡ Some c → In (conn_element c) (end_elements e)
joined_in e c is = inr (subst (λ (o : Option Conn). In (conn_element c) (map conn_element (option_to_list o))) (sym is) (inl refl))

connection_in : (x : Inner) (m : ℕ) (c : Conn) → slice_get (connections x.what) m ≡ Some c → In (conn_element c) (inner_elements x)
connection_in x m c is = inr (in_map conn_element (connections x.what) c (in_at (connections x.what) m c is))

pub ends_apart : (t : Topology) → IsResolved t → (k k' : ℕ) (track track' : Track) (last last' : Bool) → slice_get t.tracks k ≡ Some track →
    slice_get t.tracks k' ≡ Some track' → end_place k last ≢ end_place k' last' → (end_of track last).at ≢ (end_of track' last').at
ends_apart t resolved k k' track track' last last' here here' differ =
    elim (cases_eq k k') [
      | inr other ↦
          tracks_apart t resolved k k' track track' (end_element (end_of track last)) (end_element (end_of track' last')) here here' other
          (in_end track last (end_element (end_of track last)) (inl refl)) (in_end track' last' (end_element (end_of track' last')) (inl refl))
      | inl same ↦
          let one : track ≡ track' = same_Some track track' (sym here ∙ ap (λ (n : ℕ). slice_get t.tracks n) same ∙ here') in
          subst (λ (u : Track). (end_of track last).at ≢ (end_of u last').at) one
          (ends_of_one track last last' (end_element (end_of track last)) (end_element (end_of track last')) (parts_differ t resolved k track here)
          (λ e. differ (same_place (end_place k last) (end_place k' last') same (ap end_part e))) (inl refl) (inl refl))
    ]

-- ---- connections of one track, by where they stand on it

data On (track : Track) (part : Part) (c : Conn) : Type 0 where
  on_end : (last : Bool) → part ≡ end_part last → (end_of track last).joined ≡ Some c → On track part c
  on_inner : (i m : ℕ) (x : Inner) → slice_get track.inner i ≡ Some x → part ≡ inner_part x.what i m → slice_get (connections x.what) m ≡ Some c →
      On track part c

one_inner : (track : Track) (i m m' : ℕ) (x : Inner) (part part' : Part) (c d : Conn) → AllPairs Differ (inner_elements x) → part ≢ part' →
    part ≡ inner_part x.what i m → part' ≡ inner_part x.what i m' → slice_get (connections x.what) m ≡ Some c → slice_get (connections x.what) m' ≡ Some d →
    c.at ≢ d.at
one_inner track i m m' x part part' c d pairs differ on on' is is' =
    connections_differ x m m' c d pairs is is' (λ e. differ (on ∙ ap (inner_part x.what i) e ∙ sym on'))

apart_on : (track : Track) (part part' : Part) (c d : Conn) → AllPairs Differ (parts track) → part ≢ part' → On track part c → On track part' d → c.at ≢ d.at
apart_on track part part' c d pairs differ (on_end last on is) (on_end last' on' is') =
    ends_of_one track last last' (conn_element c) (conn_element d) pairs (λ e. differ (on ∙ ap end_part e ∙ sym on')) (joined_in (end_of track last) c is)
    (joined_in (end_of track last') d is')
apart_on track part part' c d pairs differ (on_end last on is) (on_inner i m x at_i on' is') =
    end_and_inner track last i x (conn_element c) (conn_element d) pairs at_i (joined_in (end_of track last) c is) (connection_in x m d is')
apart_on track part part' c d pairs differ (on_inner i m x at_i on is) (on_end last on' is') =
    flip (conn_element d) (conn_element c) (end_and_inner track last i x (conn_element d) (conn_element c) pairs at_i (joined_in (end_of track last) d is')
    (connection_in x m c is))
apart_on track part part' c d pairs differ (on_inner i m x at_i on is) (on_inner j m' y at_j on' is') =
    elim (cases_eq i j) [
      | inr other ↦
          pairs_apart Differ flip inner_elements track.inner i j x y (conn_element c) (conn_element d) (inners_differ track pairs) at_i at_j other
          (connection_in x m c is) (connection_in y m' d is')
      | inl same ↦
          let one : y ≡ x = same_Some y x (sym at_j ∙ ap (slice_get track.inner) (sym same) ∙ at_i) in
          one_inner track i m m' x part part' c d (pairs_within Differ inner_elements track.inner i x (inners_differ track pairs) at_i) differ on
          (on' ∙ ap (λ (n : ℕ). inner_part y.what n m') (sym same) ∙ ap (λ (z : Inner). inner_part z.what i m') one) is
          (subst (λ (z : Inner). slice_get (connections z.what) m' ≡ Some d) one is')
    ]

on_of : (t : Topology) (p : Place) (c : Conn) → Where t p c → (track : Track) × (slice_get t.tracks p.track ≡ Some track) × On track p.part c
on_of t p c (at_end track last here on is) = (track, here, on_end last on is)
on_of t p c (at_inner track i m x here at_i on is) = (track, here, on_inner i m x at_i on is)

on_in : (track : Track) (part : Part) (c : Conn) → On track part c → In (conn_element c) (track_elements track)
on_in track part c (on_end last on is) = in_end track last (conn_element c) (joined_in (end_of track last) c is)
on_in track part c (on_inner i m x at_i on is) = in_inner track i x (conn_element c) at_i (connection_in x m c is)

-- connections of different places have different file places
pub connections_apart : (t : Topology) → IsResolved t → (p q : Place) (c d : Conn) → connection t p ≡ Some c → connection t q ≡ Some d → p ≢ q → c.at ≢ d.at
connections_apart t resolved p q c d is is' differ =
    let a = on_of t p c (where_is t p c is) in
    let b = on_of t q d (where_is t q d is') in
    elim (cases_eq p.track q.track) [
      | inr other ↦
          tracks_apart t resolved p.track q.track a.0 b.0 (conn_element c) (conn_element d) a.1 b.1 other (on_in a.0 p.part c a.2) (on_in b.0 q.part d b.2)
      | inl same ↦
          let one : b.0 ≡ a.0 = same_Some b.0 a.0 (sym b.1 ∙ ap (slice_get t.tracks) (sym same) ∙ a.1) in
          apart_on a.0 p.part q.part c d (parts_differ t resolved p.track a.0 a.1) (λ e. differ (same_place p q same e)) a.2
          (subst (λ (u : Track). On u q.part d) one b.2)
    ]
