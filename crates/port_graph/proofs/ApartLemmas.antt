-- The edges that meet at a node differ, where each edge goes forward: an edge with both ends at one node has
-- one mileage at both.
use Rattle.std.proofs.Common.{◌≡◌, ◌≢◌, ℕ, suc, ◌+◌, ◌<◌, ◌≤◌, Bool, true, false, cond, min, [], ◌∷◌, length, Option, Some, None, refl, sym, ap, ◌∙◌, subst}
use Rattle.std.proofs.Common.{inl, inr, arith}
use Rattle.std.specs.Prelude.{slice_get, unwrap_or, AllPairs}
use Rattle.std.proofs.lemmas.Bool.{cases_lt}
use Rattle.std.proofs.lemmas.Option.{slice_get_within, same_Some}
use Rattle.std.proofs.lemmas.List.Elements.{All-nil, All-cons}
use Rattle.std.proofs.lemmas.List.Kept.{AllPairs-cons}
use Rattle.plan_core.specs.declared.sides.Hand.{Hand}
use Rattle.plan_core.specs.declared.topology.Topology.{Topology}
use Rattle.plan_core.specs.declared.topology.Track.{Track}
use Rattle.plan_core.specs.declared.topology.End.{End as TrackEnd}
use Rattle.plan_core.specs.declared.topology.Inner.{Inner}
use Rattle.plan_core.specs.declared.topology.InnerKind.{InnerKind}
use Rattle.plan_core.specs.declared.topology.InnerKind.TheVariants.{Switch, Crossing}
use Rattle.plan_core.specs.declared.topology.Conn.{Conn}
use Rattle.plan_core.specs.declared.topology.Place.{Place}
use Rattle.plan_core.specs.declared.topology.Part.TheVariants.{Incoming, Outgoing}
use Rattle.plan_core.specs.Topology.{connections, connection, IsResolved}
use Rattle.port_graph.specs.declared.runs.Spot.{Spot}
use Rattle.port_graph.specs.declared.runs.Join.{Join}
use Rattle.port_graph.specs.declared.sites.Site.{Site}
use Rattle.port_graph.specs.Spots.{end_spot, inner_spot, spot_at, is_track_end, has_node, leads_to}
use Rattle.port_graph.specs.Runs.{spots_along, piece_count, piece_number, joined_at, joins, join_number, join_of_connection, edge_beyond}
use Rattle.port_graph.specs.Sites.{end_meeting, inner_meeting, sites}
use Rattle.port_graph.specs.Sides.{edges_met}
use Rattle.port_graph.specs.TopologyGraph.{AllForward}
use Rattle.port_graph.proofs.NumberLemmas.{piece_below}
use Rattle.port_graph.proofs.Membership.{In, contains_in}
use Rattle.port_graph.proofs.RankLemmas.{one_rank}
use Rattle.port_graph.proofs.Places.{Where, at_end, at_inner, end_of, end_part, inner_part, end_place, inner_place, where_is, end_connection, inner_connection}
use Rattle.port_graph.proofs.Places.{end_spot_at, inner_spot_at, end_is_end, inner_is_no_end, connections_apart}
use Rattle.port_graph.proofs.RunLemmas.{one_place, spot_of_inner, spot_of_end, piece_at, join_from, join_there}
use Rattle.port_graph.proofs.MeetingLemmas.{own, beyond_end, beyond_inner, last_is, SiteOf, of_end, of_inner, site_of, node_beside_end, no_node_beside_inner}
use Rattle.port_graph.proofs.MeetingLemmas.{leads_own, leads_other}
use Rattle.port_graph.proofs.RunEnds.{begins_yes, joined_is}
use Rattle.std.proofs.lemmas.Bool.{false≢true, ltb-true, le-ltb}
use Rattle.plan_core.proofs.PlaceFacts.{same_place}

-- ---- pieces

-- which piece of a track stands at its end
abbrev index : Track → Bool → ℕ
index track last = cond last (length track.inner) 0

own_index : (t : Topology) (k : ℕ) (track : Track) (last : Bool) → slice_get t.tracks k ≡ Some track → own t k last ≡ piece_number t k (index track last)
own_index t k track true here = last_is t k track here
own_index t k track false here = refl

index_within : (track : Track) (last : Bool) → index track last ≤ length track.inner
index_within track true = omega arith
index_within track false = omega arith

-- the two spots of a piece differ
piece_forward : (t : Topology) → AllForward t → (k i : ℕ) (track : Track) (a b : Spot) → slice_get t.tracks k ≡ Some track →
    slice_get (spots_along t track) i ≡ Some a → slice_get (spots_along t track) (suc i) ≡ Some b → a ≢ b
piece_forward t forward k i track a b here from to same =
    forward (piece_number t k i) (record {
      track = track.id;
      from = a;
      to = b;
    }) (inl (piece_at t k i track a b here from to)) (ap (λ (s : Spot). s.mile.0) same)

-- the one piece of a track without switches and crossings doesn't lead from a node to that node
one_piece : (t : Topology) → AllForward t → (k : ℕ) (track : Track) → slice_get t.tracks k ≡ Some track → length track.inner ≡ 0 →
    leads_to t track.begin ≢ leads_to t track.end
one_piece t forward k track here empty =
    piece_forward t forward k 0 track (leads_to t track.begin) (leads_to t track.end) here refl
    (ap (λ (n : ℕ). slice_get (spots_along t track) (suc n)) (sym empty) ∙ spot_of_end t track)

same_track : (t : Topology) (k k' : ℕ) (track track' : Track) → slice_get t.tracks k ≡ Some track → slice_get t.tracks k' ≡ Some track' → k ≡ k' →
    track ≡ track'
same_track t k k' track track' here here' same = same_Some track track' (sym here ∙ ap (λ (n : ℕ). slice_get t.tracks n) same ∙ here')

one_number : (t : Topology) (k k' i i' : ℕ) (track track' : Track) → slice_get t.tracks k ≡ Some track → slice_get t.tracks k' ≡ Some track' →
    i ≤ length track.inner → i' ≤ length track'.inner → piece_number t k i ≡ piece_number t k' i' → (k ≡ k') × (i ≡ i')
one_number t k k' i i' track track' here here' within within' same =
    one_place piece_count t.tracks k k' i i' track track' here here' (omega arith) (omega arith) same

ends_of_track : (t : Topology) → AllForward t → (k : ℕ) (track : Track) (last last' : Bool) → slice_get t.tracks k ≡ Some track → last ≢ last' →
    leads_to t (end_of track last) ≡ leads_to t (end_of track last') → index track last ≢ index track last'
ends_of_track t forward k track true true here differ leads same = differ refl
ends_of_track t forward k track false false here differ leads same = differ refl
ends_of_track t forward k track false true here differ leads same = one_piece t forward k track here (sym same) leads
ends_of_track t forward k track true false here differ leads same = one_piece t forward k track here same (sym leads)

-- the pieces at two ends that lead to one node differ
pub ends_differ : (t : Topology) → AllForward t → (k k' : ℕ) (track track' : Track) (last last' : Bool) → slice_get t.tracks k ≡ Some track →
    slice_get t.tracks k' ≡ Some track' → end_place k last ≢ end_place k' last' → leads_to t (end_of track last) ≡ leads_to t (end_of track' last') →
    own t k last ≢ own t k' last'
ends_differ t forward k k' track track' last last' here here' differ leads same =
    let numbers : piece_number t k (index track last) ≡ piece_number t k' (index track' last') = sym (own_index t k track last here) ∙ same
    ∙ own_index t k' track' last' here' in
    let one = one_number t k k' (index track last) (index track' last') track track' here here' (index_within track last) (index_within track' last') numbers in
    let track_is : track' ≡ track = sym (same_track t k k' track track' here here' one.0) in
    ends_of_track t forward k track last last' here
    (λ e. differ (same_place (end_place k last) (end_place k' last') one.0 (ap end_part e)))
    (leads ∙ ap (λ (u : Track). leads_to t (end_of u last')) track_is)
    (one.1 ∙ ap (λ (u : Track). index u last') track_is)

before_on : (t : Topology) → AllForward t → (k i : ℕ) (track : Track) (x : Inner) (last : Bool) → slice_get t.tracks k ≡ Some track →
    slice_get track.inner i ≡ Some x → leads_to t (end_of track last) ≡ inner_spot x → i ≢ index track last
before_on t forward k i track x false here at_i leads same =
    piece_forward t forward k i track (inner_spot x) (inner_spot x) here
    (ap (slice_get (spots_along t track)) same ∙ ap (λ (s : Spot). Some s) leads) (spot_of_inner t track i x at_i) refl
before_on t forward k i track x true here at_i leads same =
    let within = slice_get_within track.inner i x at_i in omega (arith, within, same)

-- the piece before a switch or crossing isn't that of an end that leads there
pub before_differs : (t : Topology) → AllForward t → (k i k' : ℕ) (track track' : Track) (x : Inner) (last : Bool) → slice_get t.tracks k ≡ Some track →
    slice_get track.inner i ≡ Some x → slice_get t.tracks k' ≡ Some track' → leads_to t (end_of track' last) ≡ inner_spot x → piece_number t k i ≢ own t k' last
before_differs t forward k i k' track track' x last here at_i here' leads same =
    let within = slice_get_within track.inner i x at_i in
    let one = one_number t k k' i (index track' last) track track' here here' (omega (arith, within)) (index_within track' last)
    (same ∙ own_index t k' track' last here') in
    let track_is : track' ≡ track = sym (same_track t k k' track track' here here' one.0) in
    before_on t forward k i track x last here at_i (ap (λ (u : Track). leads_to t (end_of u last)) (sym track_is) ∙ leads) (one.1
    ∙ ap (λ (u : Track). index u last) track_is)

after_on : (t : Topology) → AllForward t → (k i : ℕ) (track : Track) (x : Inner) (last : Bool) → slice_get t.tracks k ≡ Some track →
    slice_get track.inner i ≡ Some x → leads_to t (end_of track last) ≡ inner_spot x → i + 1 ≢ index track last
after_on t forward k i track x false here at_i leads same = omega (arith, same)
after_on t forward k i track x true here at_i leads same =
    let next : suc i ≡ length track.inner = omega (arith, same) in
    piece_forward t forward k (length track.inner) track (inner_spot x) (inner_spot x) here
    (ap (slice_get (spots_along t track)) (sym next) ∙ spot_of_inner t track i x at_i) (spot_of_end t track ∙ ap (λ (s : Spot). Some s) leads) refl

-- nor is the piece after it
pub after_differs : (t : Topology) → AllForward t → (k i k' : ℕ) (track track' : Track) (x : Inner) (last : Bool) → slice_get t.tracks k ≡ Some track →
    slice_get track.inner i ≡ Some x → slice_get t.tracks k' ≡ Some track' → leads_to t (end_of track' last) ≡ inner_spot x →
    piece_number t k (i + 1) ≢ own t k' last
after_differs t forward k i k' track track' x last here at_i here' leads same =
    let within = slice_get_within track.inner i x at_i in
    let one = one_number t k k' (i + 1) (index track' last) track track' here here' (omega (arith, within)) (index_within track' last)
    (same ∙ own_index t k' track' last here') in
    let track_is : track' ≡ track = sym (same_track t k k' track track' here here' one.0) in
    after_on t forward k i track x last here at_i (ap (λ (u : Track). leads_to t (end_of u last)) (sym track_is) ∙ leads) (one.1
    ∙ ap (λ (u : Track). index u last) track_is)

-- a piece is no join
pub no_join : (t : Topology) (k i : ℕ) (track : Track) (at : ℕ) → slice_get t.tracks k ≡ Some track → i ≤ length track.inner →
    piece_number t k i ≢ join_number t at
no_join t k i track at here within same = let low = piece_below t k i track here within in omega (arith, low, same)

-- ---- what is beyond a connection of a switch or crossing

data Beyond (t : Topology) (k i m : ℕ) (x : Inner) (c : Conn) : Type 0 where
  to_end : (track : Track) (last : Bool) → slice_get t.tracks c.to.track ≡ Some track → c.to ≡ end_place c.to.track last →
      edge_beyond t c ≡ own t c.to.track last → leads_to t (end_of track last) ≡ inner_spot x → Beyond t k i m x c
  to_inner : is_track_end c.to.part ≡ false → Beyond t k i m x c

beyond_by : (t : Topology) (k i m : ℕ) (track : Track) (x : Inner) (c other : Conn) → slice_get t.tracks k ≡ Some track → slice_get track.inner i ≡ Some x →
    other.to ≡ inner_place k x.what i m → Where t c.to other → Beyond t k i m x c
beyond_by t k i m track x c other here at_i back (at_end track2 last2 here2 on joined2) =
    let here' : slice_get t.tracks other.to.track ≡ Some track = ap (λ (p : Place). slice_get t.tracks p.track) back ∙ here in
    let on' : other.to.part ≡ inner_part x.what i m = ap (λ (p : Place). p.part) back in
    to_end track2 last2 here2 (same_place c.to (end_place c.to.track last2) refl on) (beyond_end t c c.to.track last2 refl on)
    (leads_other t (end_of track2 last2) other (inner_spot x) (no_node_beside_inner t (end_of track2 last2) other joined2
    (ap is_track_end on' ∙ inner_is_no_end x.what i m)) joined2 (inner_spot_at t other.to track i m x here' at_i on'))
beyond_by t k i m track x c other here at_i back (at_inner track2 i2 m2 x2 here2 at_i2 on2 at_m2) =
    to_inner (ap is_track_end on2 ∙ inner_is_no_end x2.what i2 m2)

beyond_is : (t : Topology) → IsResolved t → (k i m : ℕ) (track : Track) (x : Inner) (c : Conn) → slice_get t.tracks k ≡ Some track →
    slice_get track.inner i ≡ Some x → slice_get (connections x.what) m ≡ Some c → Beyond t k i m x c
beyond_is t resolved k i m track x c here at_i at_m =
    let back = resolved.joins.back (inner_place k x.what i m) c (inner_connection t k track i m x c here at_i at_m) in
    beyond_by t k i m track x c back.0 here at_i back.2 (where_is t c.to back.0 back.1)

before_beyond : (t : Topology) → AllForward t → (k i m : ℕ) (track : Track) (x : Inner) (c : Conn) → slice_get t.tracks k ≡ Some track →
    slice_get track.inner i ≡ Some x → Beyond t k i m x c → piece_number t k i ≢ edge_beyond t c
before_beyond t forward k i m track x c here at_i (to_end track2 last2 here2 place is leads) same =
    before_differs t forward k i c.to.track track track2 x last2 here at_i here2 leads (same ∙ is)
before_beyond t forward k i m track x c here at_i (to_inner inner) same =
    let within = slice_get_within track.inner i x at_i in
    no_join t k i track (min c.at (joined_at t c)) here (omega (arith, within)) (same ∙ beyond_inner t c inner)

after_beyond : (t : Topology) → AllForward t → (k i m : ℕ) (track : Track) (x : Inner) (c : Conn) → slice_get t.tracks k ≡ Some track →
    slice_get track.inner i ≡ Some x → Beyond t k i m x c → piece_number t k (i + 1) ≢ edge_beyond t c
after_beyond t forward k i m track x c here at_i (to_end track2 last2 here2 place is leads) same =
    after_differs t forward k i c.to.track track track2 x last2 here at_i here2 leads (same ∙ is)
after_beyond t forward k i m track x c here at_i (to_inner inner) same =
    let within = slice_get_within track.inner i x at_i in
    no_join t k (i + 1) track (min c.at (joined_at t c)) here (omega (arith, within)) (same ∙ beyond_inner t c inner)

-- ---- two connections of one switch or crossing

-- the join that a connection begins or ends stands at the earlier of the two
begun_by : (t : Topology) → IsResolved t → (k i m : ℕ) (track : Track) (x : Inner) (c other : Conn) → slice_get t.tracks k ≡ Some track →
    slice_get track.inner i ≡ Some x → slice_get (connections x.what) m ≡ Some c → is_track_end c.to.part ≡ false → connection t c.to ≡ Some other →
    other.to ≡ inner_place k x.what i m → Where t c.to other → (j : Join) × In j (joins t) × (j.at ≡ min c.at (joined_at t c))
begun_by t resolved k i m track x c other here at_i at_m inner there back (at_end track2 last2 here2 on joined2) =
    absurd (false≢true (sym inner ∙ ap is_track_end on ∙ end_is_end last2))
begun_by t resolved k i m track x c other here at_i at_m inner there back (at_inner track2 i2 m2 x2 here2 at_i2 on2 at_m2) =
    let p : Place = inner_place k x.what i m in
    let from : connection t p ≡ Some c = inner_connection t k track i m x c here at_i at_m in
    let elsewhere : p ≢ c.to = λ same. resolved.joins.elsewhere p c from (sym same) in
    let differ : c.at ≢ other.at = connections_apart t resolved p c.to c other from there elsewhere in
    let inner' : is_track_end other.to.part ≡ false = ap (λ (q : Place). is_track_end q.part) back ∙ inner_is_no_end x.what i m in
    let joined : joined_at t c ≡ other.at = joined_is t c other there in
    let joined' : joined_at t other ≡ c.at = joined_is t other c (ap (connection t) back ∙ from) in
    elim (cases_lt c.at other.at) [
      | inl less ↦ (join_from t x c, join_there t k i m track x c here at_i at_m (begins_yes t c inner (omega arith)), omega arith)
      | inr more ↦ (
        join_from t x2 other,
        join_there t c.to.track i2 m2 track2 x2 other here2 at_i2 at_m2 (begins_yes t other inner' (omega arith)),
        omega
            arith,
      )
    ]

begun_at : (t : Topology) → IsResolved t → (k i m : ℕ) (track : Track) (x : Inner) (c : Conn) → slice_get t.tracks k ≡ Some track →
    slice_get track.inner i ≡ Some x → slice_get (connections x.what) m ≡ Some c → is_track_end c.to.part ≡ false →
    (j : Join) × In j (joins t) × (j.at ≡ min c.at (joined_at t c))
begun_at t resolved k i m track x c here at_i at_m inner =
    let back = resolved.joins.back (inner_place k x.what i m) c (inner_connection t k track i m x c here at_i at_m) in
    begun_by t resolved k i m track x c back.0 here at_i at_m inner back.1 back.2 (where_is t c.to back.0 back.1)

-- a join doesn't lead from a switch or crossing to itself
loop_begun : (t : Topology) → AllForward t → (k i m m' : ℕ) (track : Track) (x : Inner) (c : Conn) → slice_get t.tracks k ≡ Some track →
    slice_get track.inner i ≡ Some x → slice_get (connections x.what) m ≡ Some c → c.to ≡ inner_place k x.what i m' → joined_at t c ≤ c.at
loop_begun t forward k i m m' track x c here at_i at_m to =
    elim (cases_lt c.at (joined_at t c)) [
      | inr late ↦ late
      | inl less ↦
          let inner : is_track_end c.to.part ≡ false = ap (λ (q : Place). is_track_end q.part) to ∙ inner_is_no_end x.what i m' in
          let here' : slice_get t.tracks c.to.track ≡ Some track = ap (λ (q : Place). slice_get t.tracks q.track) to ∙ here in
          let ends : unwrap_or (spot_at t c.to) (inner_spot x) ≡ inner_spot x = ap (λ (o : Option Spot). unwrap_or o (inner_spot x))
          (inner_spot_at t c.to track i m' x here' at_i (ap (λ (q : Place). q.part) to)) in
          let there : In (join_from t x c) (joins t) = join_there t k i m track x c here at_i at_m (begins_yes t c inner less) in
          absurd (forward (join_number t c.at) (join_from t x c).run (inr (join_from t x c, contains_in (joins t) (join_from t x c) there, refl, refl))
          (ap (λ (s : Spot). s.mile.0) (sym ends)))
    ]

no_loop : (t : Topology) → IsResolved t → AllForward t → (k i m m' : ℕ) (track : Track) (x : Inner) (c c' : Conn) → slice_get t.tracks k ≡ Some track →
    slice_get track.inner i ≡ Some x → slice_get (connections x.what) m ≡ Some c →
    slice_get (connections x.what) m' ≡ Some c' → inner_place k x.what i m ≢ inner_place k x.what i m' → c.to ≢ inner_place k x.what i m'
no_loop t resolved forward k i m m' track x c c' here at_i at_m at_m' apart to =
    let p : Place = inner_place k x.what i m in
    let p' : Place = inner_place k x.what i m' in
    let from : connection t p ≡ Some c = inner_connection t k track i m x c here at_i at_m in
    let from' : connection t p' ≡ Some c' = inner_connection t k track i m' x c' here at_i at_m' in
    let back = resolved.joins.back p c from in
    let there : connection t c.to ≡ Some c' = ap (connection t) to ∙ from' in
    let other : back.0 ≡ c' = same_Some back.0 c' (sym back.1 ∙ there) in
    let to' : c'.to ≡ p = ap (λ (d : Conn). d.to) (sym other) ∙ back.2 in
    let differ : c.at ≢ c'.at = connections_apart t resolved p p' c c' from from' apart in
    let late : joined_at t c ≤ c.at = loop_begun t forward k i m m' track x c here at_i at_m to in
    let late' : joined_at t c' ≤ c'.at = loop_begun t forward k i m' m track x c' here at_i at_m' to' in
    let joined : joined_at t c ≡ c'.at = joined_is t c c' there in
    let joined' : joined_at t c' ≡ c.at = joined_is t c' c (ap (connection t) to' ∙ from) in
    omega arith

one_target : (t : Topology) → IsResolved t → (p p' : Place) (c c' : Conn) → connection t p ≡ Some c → connection t p' ≡ Some c' → c.to ≡ c'.to → p ≡ p'
one_target t resolved p p' c c' from from' same =
    let back = resolved.joins.back p c from in
    let back' = resolved.joins.back p' c' from' in
    let one : back.0 ≡ back'.0 = same_Some back.0 back'.0 (sym back.1 ∙ ap (connection t) same ∙ back'.1) in
    sym back.2 ∙ ap (λ (d : Conn). d.to) one ∙ back'.2

joins_differ : (t : Topology) → IsResolved t → AllForward t → (k i m m' : ℕ) (track : Track) (x : Inner) (c c' : Conn) → slice_get t.tracks k ≡ Some track →
    slice_get track.inner i ≡ Some x → slice_get (connections x.what) m ≡ Some c →
    slice_get (connections x.what) m' ≡ Some c' → inner_place k x.what i m ≢ inner_place k x.what i m' → is_track_end c.to.part ≡ false →
    is_track_end c'.to.part ≡ false → join_of_connection t c ≢ join_of_connection t c'
joins_differ t resolved forward k i m m' track x c c' here at_i at_m at_m' apart inner inner' same =
    let p : Place = inner_place k x.what i m in
    let p' : Place = inner_place k x.what i m' in
    let from : connection t p ≡ Some c = inner_connection t k track i m x c here at_i at_m in
    let from' : connection t p' ≡ Some c' = inner_connection t k track i m' x c' here at_i at_m' in
    let back = resolved.joins.back p c from in
    let back' = resolved.joins.back p' c' from' in
    let j = begun_at t resolved k i m track x c here at_i at_m inner in
    let j' = begun_at t resolved k i m' track x c' here at_i at_m' inner' in
    let at_j : j.0.at ≡ min c.at (joined_at t c) = j.2 in
    let at_j' : j'.0.at ≡ min c'.at (joined_at t c') = j'.2 in
    let numbers : join_number t j.0.at ≡ join_number t j'.0.at = ap (join_number t) at_j ∙ same ∙ ap (join_number t) (sym at_j') in
    let one : j.0.at ≡ j'.0.at = one_rank (λ (j : Join). j.at) (joins t) j.0 j'.0 j.1 j'.1 (omega (arith, numbers)) in
    let joined : joined_at t c ≡ back.0.at = joined_is t c back.0 back.1 in
    let joined' : joined_at t c' ≡ back'.0.at = joined_is t c' back'.0 back'.1 in
    let a : c.at ≢ c'.at = connections_apart t resolved p p' c c' from from' apart in
    let b : c.at ≢ back'.0.at = connections_apart t resolved p c'.to c back'.0 from back'.1
    (λ e. no_loop t resolved forward k i m' m track x c' c here at_i at_m' at_m (λ f. apart (sym f)) (sym e)) in
    let d : back.0.at ≢ c'.at = connections_apart t resolved c.to p' back.0 c' back.1 from'
    (no_loop t resolved forward k i m m' track x c c' here at_i at_m at_m' apart) in
    let e : back.0.at ≢ back'.0.at = connections_apart t resolved c.to c'.to back.0 back'.0 back.1 back'.1
    (λ f. apart (one_target t resolved p p' c c' from from' f)) in
    four_apart c.at back.0.at c'.at back'.0.at a b d e (ap (min c.at) (sym joined) ∙ sym at_j ∙ one ∙ at_j' ∙ ap (min c'.at) joined')
  where
    four_apart : (a b c d : ℕ) → a ≢ c → a ≢ d → b ≢ c → b ≢ d → min a b ≢ min c d
    four_apart a b c d p q r s same = omega arith

beyonds_by : (t : Topology) → IsResolved t → AllForward t → (k i m m' : ℕ) (track : Track) (x : Inner) (c c' : Conn) → slice_get t.tracks k ≡ Some track →
    slice_get track.inner i ≡ Some x → slice_get (connections x.what) m ≡ Some c →
    slice_get (connections x.what) m' ≡ Some c' → inner_place k x.what i m ≢ inner_place k x.what i m' → Beyond t k i m x c → Beyond t k i m' x c' →
    edge_beyond t c ≢ edge_beyond t c'
beyonds_by t resolved forward k i m m' track x c c' here at_i at_m at_m' apart (to_end track2 last2 here2 place is leads)
    (to_end track3 last3 here3 place' is' leads') same =
    let from = inner_connection t k track i m x c here at_i at_m in
    let from' = inner_connection t k track i m' x c' here at_i at_m' in
    ends_differ t forward c.to.track c'.to.track track2 track3 last2 last3 here2 here3
    (λ e. apart (one_target t resolved (inner_place k x.what i m) (inner_place k x.what i m') c c' from from' (place ∙ e ∙ sym place')))
    (leads ∙ sym leads') (sym is ∙ same ∙ is')
beyonds_by t resolved forward k i m m' track x c c' here at_i at_m at_m' apart (to_end track2 last2 here2 place is leads) (to_inner inner') same =
    no_join t c.to.track (index track2 last2) track2 (min c'.at (joined_at t c')) here2 (index_within track2 last2)
    (sym (own_index t c.to.track track2 last2 here2) ∙ sym is ∙ same ∙ beyond_inner t c' inner')
beyonds_by t resolved forward k i m m' track x c c' here at_i at_m at_m' apart (to_inner inner) (to_end track3 last3 here3 place' is' leads') same =
    no_join t c'.to.track (index track3 last3) track3 (min c.at (joined_at t c)) here3 (index_within track3 last3)
    (sym (own_index t c'.to.track track3 last3 here3) ∙ sym is' ∙ sym same ∙ beyond_inner t c inner)
beyonds_by t resolved forward k i m m' track x c c' here at_i at_m at_m' apart (to_inner inner) (to_inner inner') same =
    joins_differ t resolved forward k i m m' track x c c' here at_i at_m at_m' apart inner inner'
    (sym (beyond_inner t c inner) ∙ same ∙ beyond_inner t c' inner')

-- ---- the edges of a meeting

pairs_one : {X : Type 0} (R : X → X → Type 0) (a : X) → AllPairs R (a ∷ [])
pairs_one R a i j d less within = absurd (omega arith)

pairs_two : {X : Type 0} (R : X → X → Type 0) (a b : X) → R a b → AllPairs R (a ∷ b ∷ [])
pairs_two R a b p = AllPairs-cons R a (b ∷ []) (All-cons (R a) b [] p (All-nil (R a))) (pairs_one R b)

pairs_three : {X : Type 0} (R : X → X → Type 0) (a b c : X) → R a b → R a c → R b c → AllPairs R (a ∷ b ∷ c ∷ [])
pairs_three R a b c p q r = AllPairs-cons R a (b ∷ c ∷ []) (All-cons (R a) b (c ∷ []) p (All-cons (R a) c [] q (All-nil (R a)))) (pairs_two R b c r)

pairs_four : {X : Type 0} (R : X → X → Type 0) (a b c d : X) → R a b → R a c → R a d → R b c → R b d → R c d → AllPairs R (a ∷ b ∷ c ∷ d ∷ [])
pairs_four R a b c d p q r s u v =
    AllPairs-cons R a (b ∷ c ∷ d ∷ []) (All-cons (R a) b (c ∷ d ∷ []) p (All-cons (R a) c (d ∷ []) q (All-cons (R a) d [] r (All-nil (R a)))))
    (pairs_three R b c d s u v)

abbrev Unlike : ℕ → ℕ → Type 0
Unlike e f = e ≢ f

incoming_isnt_outgoing : (k i : ℕ) (x : Inner) (hand : Hand) (incoming outgoing : Conn) →
    x.what ≡ Crossing hand incoming outgoing → inner_place k x.what i 0 ≢ inner_place k x.what i 1
incoming_isnt_outgoing k i x hand incoming outgoing what same =
    let parts : Incoming i ≡ Outgoing i = ap (λ (w : InnerKind). inner_part w i 0) (sym what) ∙ ap (λ (p : Place). p.part) same
    ∙ ap (λ (w : InnerKind). inner_part w i 1) what in
    cc

inner_apart : (t : Topology) → IsResolved t → AllForward t → (k i : ℕ) (track : Track) (x : Inner) (what : InnerKind) → slice_get t.tracks k ≡ Some track →
    slice_get track.inner i ≡ Some x → x.what ≡ what → AllPairs Unlike (edges_met (inner_meeting t (piece_number t k i) (piece_number t k (i + 1)) what))
inner_apart t resolved forward k i track x (Switch outgoing hand track_diverges conn) here at_i what =
    let at_m : slice_get (connections x.what) 0 ≡ Some conn = ap (λ (w : InnerKind). slice_get (connections w) 0) what in
    let beyond = beyond_is t resolved k i 0 track x conn here at_i at_m in
    pairs_three Unlike (piece_number t k i) (piece_number t k (i + 1)) (edge_beyond t conn)
    (λ same. omega (arith, same))
    (before_beyond t forward k i 0 track x conn here at_i beyond)
    (after_beyond t forward k i 0 track x conn here at_i beyond)
inner_apart t resolved forward k i track x (Crossing hand incoming outgoing) here at_i what =
    let at_m : slice_get (connections x.what) 0 ≡ Some incoming = ap (λ (w : InnerKind). slice_get (connections w) 0) what in
    let at_m' : slice_get (connections x.what) 1 ≡ Some outgoing = ap (λ (w : InnerKind). slice_get (connections w) 1) what in
    let beyond = beyond_is t resolved k i 0 track x incoming here at_i at_m in
    let beyond' = beyond_is t resolved k i 1 track x outgoing here at_i at_m' in
    pairs_four Unlike (piece_number t k i) (piece_number t k (i + 1)) (edge_beyond t incoming) (edge_beyond t outgoing)
    (λ same. omega (arith, same))
    (before_beyond t forward k i 0 track x incoming here at_i beyond)
    (before_beyond t forward k i 1 track x outgoing here at_i beyond')
    (after_beyond t forward k i 0 track x incoming here at_i beyond)
    (after_beyond t forward k i 1 track x outgoing here at_i beyond')
    (beyonds_by t resolved forward k i 0 1 track x incoming outgoing here at_i at_m at_m' (incoming_isnt_outgoing k i x hand incoming outgoing what) beyond
    beyond')

joint_apart : (t : Topology) → IsResolved t → AllForward t → (k : ℕ) (track : Track) (last : Bool) (c other : Conn) → slice_get t.tracks k ≡ Some track →
    has_node t (end_of track last) ≡ true → (end_of track last).joined ≡ Some c → connection t (end_place k last) ≡ Some c → other.to ≡ end_place k last →
    Where t c.to other → own t k last ≢ edge_beyond t c
joint_apart t resolved forward k track last c other here node joined from back (at_inner track2 i2 m2 x2 here2 at_i2 on2 at_m2) same =
    false≢true (sym (no_node_beside_inner t (end_of track last) c joined (ap is_track_end on2 ∙ inner_is_no_end x2.what i2 m2)) ∙ node)
joint_apart t resolved forward k track last c other here node joined from back (at_end track2 last2 here2 on joined2) same =
    let e : TrackEnd = end_of track last in
    let e2 : TrackEnd = end_of track2 last2 in
    let early : e.at < e2.at = ltb-true e.at e2.at (sym (node_beside_end t e c track2 last2 joined here2 on) ∙ node) in
    let here' : slice_get t.tracks other.to.track ≡ Some track = ap (λ (p : Place). slice_get t.tracks p.track) back ∙ here in
    let on' : other.to.part ≡ end_part last = ap (λ (p : Place). p.part) back in
    let node2 : has_node t e2 ≡ false = node_beside_end t e2 other track last joined2 here' on' ∙ le-ltb e2.at e.at (omega arith) in
    let leads : leads_to t e2 ≡ end_spot e = leads_other t e2 other (end_spot e) node2 joined2 (end_spot_at t other.to track last here' on') in
    ends_differ t forward k c.to.track track track2 last last2 here here2
    (λ f. resolved.joins.elsewhere (end_place k last) c from (same_place c.to (end_place c.to.track last2) refl on ∙ sym f))
    (leads_own t e node ∙ sym leads) (same ∙ beyond_end t c c.to.track last2 refl on)

end_apart : (t : Topology) → IsResolved t → AllForward t → (k : ℕ) (track : Track) (last : Bool) (o : Option Conn) → slice_get t.tracks k ≡ Some track →
    has_node t (end_of track last) ≡ true → (end_of track last).joined ≡ o → AllPairs Unlike (edges_met (end_meeting t (own t k last) o))
end_apart t resolved forward k track last None here node joined = pairs_one Unlike (own t k last)
end_apart t resolved forward k track last (Some c) here node joined =
    let from : connection t (end_place k last) ≡ Some c = end_connection t k track last here ∙ joined in
    let back = resolved.joins.back (end_place k last) c from in
    pairs_two Unlike (own t k last) (edge_beyond t c)
    (joint_apart t resolved forward k track last c back.0 here node joined from back.2 (where_is t c.to back.0 back.1))

apart_at : (t : Topology) → IsResolved t → AllForward t → (s : Site) → SiteOf t s → AllPairs Unlike (edges_met s.meets)
apart_at t resolved forward s (of_end k track last here node is) =
    subst (λ (s : Site). AllPairs Unlike (edges_met s.meets)) is (end_apart t resolved forward k track last (end_of track last).joined here node refl)
apart_at t resolved forward s (of_inner k i track x here at_i is) =
    subst (λ (s : Site). AllPairs Unlike (edges_met s.meets)) is (inner_apart t resolved forward k i track x x.what here at_i refl)

pub met_apart : (t : Topology) → IsResolved t → AllForward t → (s : Site) → In s (sites t) → AllPairs (λ (e f : ℕ). e ≢ f) (edges_met s.meets)
met_apart t resolved forward s there = apart_at t resolved forward s (site_of t s there)
