-- Both ends of a run are nodes at which it meets; and each edge that meets at a node is a run with an end there.
use Rattle.std.proofs.Common.{◌≡◌, ◌≢◌, ℕ, zero, suc, ◌+◌, ◌<◌, Bool, true, false, not, ◌&&◌, min, length, get_or, Option, Some, None, refl, sym, ap, ◌∙◌}
use Rattle.std.proofs.Common.{subst, inl, inr, arith}
use Rattle.std.specs.Prelude.{◌⊎◌, nat_lt, slice_get, unwrap_or}
use Rattle.std.specs.Option.{option_map}
use Rattle.std.proofs.lemmas.Bool.{false≢true, cases_lt, and_parts, ltb-true, lt-ltb, le-ltb, not-true}
use Rattle.std.proofs.lemmas.Option.{slice_get_within, slice_get-get_or, same_Some}
use Rattle.plan_core.specs.declared.topology.Topology.{Topology}
use Rattle.plan_core.specs.declared.topology.Track.{Track}
use Rattle.plan_core.specs.declared.topology.End.{End as TrackEnd}
use Rattle.plan_core.specs.declared.topology.Inner.{Inner}
use Rattle.plan_core.specs.declared.topology.Conn.{Conn}
use Rattle.plan_core.specs.declared.topology.Place.{Place}
use Rattle.plan_core.specs.Topology.{connections, connection, IsResolved}
use Rattle.port_graph.specs.declared.runs.Spot.{Spot}
use Rattle.port_graph.specs.declared.runs.Run.{Run}
use Rattle.port_graph.specs.declared.runs.Join.{Join}
use Rattle.port_graph.specs.declared.sites.Site.{Site}
use Rattle.port_graph.specs.Spots.{end_spot, inner_spot, spot_at, is_track_end, has_node, leads_to}
use Rattle.port_graph.specs.Runs.{spots_along, piece_number, last_piece, joined_at, begins_join, joins, join_number, edge_beyond}
use Rattle.port_graph.specs.Sites.{end_meeting, sites}
use Rattle.port_graph.specs.Sides.{edges_met}
use Rattle.port_graph.specs.TopologyGraph.{IsRun}
use Rattle.port_graph.proofs.Membership.{In, contains_in, in_contains}
use Rattle.port_graph.proofs.Places.{Where, at_end, at_inner, end_of, end_part, inner_part, end_place, inner_place, where_is, end_connection, inner_connection}
use Rattle.port_graph.proofs.Places.{end_spot_at, inner_spot_at, end_is_end, inner_is_no_end, connections_apart}
use Rattle.port_graph.proofs.RunLemmas.{spot_of_inner, spot_of_end, spot_cases, piece_at, piece_of, length-spots, join_from, IsJoin, join_of_list, join_there}
use Rattle.port_graph.proofs.MeetingLemmas.{own, beyond_end, beyond_inner, last_is, Met, met_before, met_after, met_beyond, met_cases, before_met, after_met}
use Rattle.port_graph.proofs.MeetingLemmas.{connection_met, SiteOf, of_end, of_inner, site_of, node_beside_end, no_node_beside_inner, leads_own, leads_other}
use Rattle.port_graph.proofs.MeetingLemmas.{SiteWith, same_site_with, inner_with, leads_with}

-- ---- what begins a join

pub begins_parts : (t : Topology) (c : Conn) → begins_join t c ≡ true → (is_track_end c.to.part ≡ false) × (c.at < joined_at t c)
begins_parts t c begins =
    let parts = and_parts (not (is_track_end c.to.part)) (nat_lt c.at (joined_at t c)) begins in
    (not-true (is_track_end c.to.part) parts.0, ltb-true c.at (joined_at t c) parts.1)

pub begins_yes : (t : Topology) (c : Conn) → is_track_end c.to.part ≡ false → c.at < joined_at t c → begins_join t c ≡ true
begins_yes t c inner less =
    ap (λ (b : Bool). not b && nat_lt c.at (joined_at t c)) inner ∙ lt-ltb c.at (joined_at t c) less

pub joined_is : (t : Topology) (c other : Conn) → connection t c.to ≡ Some other → joined_at t c ≡ other.at
joined_is t c other there = ap (λ (o : Option Conn). unwrap_or (option_map (λ (d : Conn). d.at) o) c.at) there

-- ---- the ends of a join

join_site_from : (t : Topology) (j : Join) → IsJoin t j → SiteWith t j.run.from (join_number t j.at)
join_site_from t j join =
    let parts = begins_parts t join.c join.begins in
    let less : join.c.at < joined_at t join.c = parts.1 in
    let first : min join.c.at (joined_at t join.c) ≡ join.c.at = omega arith in
    same_site_with t (inner_spot join.x) j.run.from (edge_beyond t join.c) (join_number t j.at)
    (ap (λ (j : Join). j.run.from) join.is)
    (beyond_inner t join.c parts.0 ∙ ap (join_number t) first ∙ ap (λ (j : Join). join_number t j.at) join.is)
    (inner_with t join.k join.i join.track join.x (edge_beyond t join.c) join.here join.at_i
    (connection_met t (piece_number t join.k join.i) (piece_number t join.k (join.i + 1)) join.x.what join.m join.c join.at_m))

join_to_inner : (t : Topology) (x : Inner) (c other : Conn) → begins_join t c ≡ true → connection t c.to ≡ Some other → connection t other.to ≡ Some c →
    is_track_end other.to.part ≡ false → Where t c.to other → SiteWith t (unwrap_or (spot_at t c.to) (inner_spot x)) (join_number t c.at)
join_to_inner t x c other begins there back inner (at_end track2 last2 here2 on joined2) =
    absurd (false≢true (sym (begins_parts t c begins).0 ∙ ap is_track_end on ∙ end_is_end last2))
join_to_inner t x c other begins there back inner (at_inner track2 i2 m2 x2 here2 at_i on at_m) =
    let less : c.at < joined_at t c = (begins_parts t c begins).1 in
    let joined : joined_at t c ≡ other.at = joined_is t c other there in
    let joined' : joined_at t other ≡ c.at = joined_is t other c back in
    let first : min other.at (joined_at t other) ≡ c.at = omega arith in
    same_site_with t (inner_spot x2) (unwrap_or (spot_at t c.to) (inner_spot x)) (edge_beyond t other) (join_number t c.at)
    (sym (ap (λ (o : Option Spot). unwrap_or o (inner_spot x)) (inner_spot_at t c.to track2 i2 m2 x2 here2 at_i on)))
    (beyond_inner t other inner ∙ ap (join_number t) first)
    (inner_with t c.to.track i2 track2 x2 (edge_beyond t other) here2 at_i
    (connection_met t (piece_number t c.to.track i2) (piece_number t c.to.track (i2 + 1)) x2.what m2 other at_m))

join_site_to : (t : Topology) → IsResolved t → (j : Join) → IsJoin t j → SiteWith t j.run.to (join_number t j.at)
join_site_to t resolved j join =
    let p : Place = inner_place join.k join.x.what join.i join.m in
    let from : connection t p ≡ Some join.c = inner_connection t join.k join.track join.i join.m join.x join.c join.here join.at_i join.at_m in
    let back = resolved.joins.back p join.c from in
    let inner : is_track_end back.0.to.part ≡ false = ap (λ (q : Place). is_track_end q.part) back.2 ∙ inner_is_no_end join.x.what join.i join.m in
    let site = join_to_inner t join.x join.c back.0 join.begins back.1 (ap (connection t) back.2 ∙ from) inner (where_is t join.c.to back.0 back.1) in
    same_site_with t (unwrap_or (spot_at t join.c.to) (inner_spot join.x)) j.run.to (join_number t join.c.at) (join_number t j.at)
    (ap (λ (j : Join). j.run.to) join.is) (ap (λ (j : Join). join_number t j.at) join.is) site

-- ---- the ends of a piece

next_number : (t : Topology) (k i : ℕ) → piece_number t k (i + 1) ≡ piece_number t k (suc i)
next_number t k i = ap (piece_number t k) (omega arith)

piece_site_from : (t : Topology) → IsResolved t → (r : Run) (k i : ℕ) (track : Track) → slice_get t.tracks k ≡ Some track →
    slice_get (spots_along t track) i ≡ Some r.from → slice_get (spots_along t track) (suc i) ≡ Some r.to → SiteWith t r.from (piece_number t k i)
piece_site_from t resolved r k zero track here from to =
    same_site_with t (leads_to t track.begin) r.from (piece_number t k 0) (piece_number t k 0) (same_Some (leads_to t track.begin) r.from from) refl
    (leads_with t resolved k track false here)
piece_site_from t resolved r k (suc i) track here from to =
    elim (spot_cases t track i r.from from) [
      | inl inner ↦
          same_site_with t (inner_spot inner.0) r.from (piece_number t k (i + 1)) (piece_number t k (suc i)) inner.2 (next_number t k i)
          (inner_with t k i track inner.0 (piece_number t k (i + 1)) here inner.1 (after_met t (piece_number t k i) (piece_number t k (i + 1)) inner.0.what))
      | inr end ↦
          let within = slice_get_within (spots_along t track) (suc (suc i)) r.to to in
          let long = length-spots t track in
          let same : i ≡ length track.inner = end.0 in
          absurd (omega (arith, within, long, same))
    ]

piece_site_to : (t : Topology) → IsResolved t → (r : Run) (k i : ℕ) (track : Track) → slice_get t.tracks k ≡ Some track →
    slice_get (spots_along t track) (suc i) ≡ Some r.to → SiteWith t r.to (piece_number t k i)
piece_site_to t resolved r k i track here to =
    elim (spot_cases t track i r.to to) [
      | inl inner ↦
          same_site_with t (inner_spot inner.0) r.to (piece_number t k i) (piece_number t k i) inner.2 refl
          (inner_with t k i track inner.0 (piece_number t k i) here inner.1 (before_met t (piece_number t k i) (piece_number t k (i + 1)) inner.0.what))
      | inr end ↦
          same_site_with t (leads_to t track.end) r.to (last_piece t k) (piece_number t k i) end.1
          (last_is t k track here ∙ ap (piece_number t k) (sym end.0))
          (leads_with t resolved k track true here)
    ]

-- ---- the ends of a run

pub run_site_from : (t : Topology) → IsResolved t → (e : ℕ) (r : Run) → IsRun t e r → SiteWith t r.from e
run_site_from t resolved e r (inl piece) =
    let p = piece_of t e r piece in
    same_site_with t r.from r.from (piece_number t p.k p.i) e refl (sym p.number) (piece_site_from t resolved r p.k p.i p.track p.here p.from p.to)
run_site_from t resolved e r (inr join) =
    same_site_with t join.0.run.from r.from (join_number t join.0.at) e (ap (λ (r : Run). r.from) join.3) join.2
    (join_site_from t join.0 (join_of_list t join.0 (in_contains (joins t) join.0 join.1)))

pub run_site_to : (t : Topology) → IsResolved t → (e : ℕ) (r : Run) → IsRun t e r → SiteWith t r.to e
run_site_to t resolved e r (inl piece) =
    let p = piece_of t e r piece in
    same_site_with t r.to r.to (piece_number t p.k p.i) e refl (sym p.number) (piece_site_to t resolved r p.k p.i p.track p.here p.to)
run_site_to t resolved e r (inr join) =
    same_site_with t join.0.run.to r.to (join_number t join.0.at) e (ap (λ (r : Run). r.to) join.3) join.2
    (join_site_to t resolved join.0 (join_of_list t join.0 (in_contains (joins t) join.0 join.1)))

-- ---- an edge that meets at a node is a run with an end there

pub record RunAt (t : Topology) (e : ℕ) (spot : Spot) : Type 0 where
  pub run : Run
  pub numbered : IsRun t e run
  pub ends : (run.from ≡ spot) ⊎ (run.to ≡ spot)

same_run_at : (t : Topology) (e e' : ℕ) (spot spot' : Spot) → e ≡ e' → spot ≡ spot' → RunAt t e spot → RunAt t e' spot'
same_run_at t e e' spot spot' same same' r = record {
  run = r.run;
  numbered = subst (λ (n : ℕ). IsRun t n r.run) same r.numbered;
  ends = elim r.ends [ inl from ↦ inl (from ∙ same') | inr to ↦ inr (to ∙ same') ];
}

spot_there : (t : Topology) (track : Track) (i : ℕ) → i < length track.inner + 2 →
    slice_get (spots_along t track) i ≡ Some (get_or (spots_along t track) i (leads_to t track.begin))
spot_there t track i within =
    let long = length-spots t track in
    slice_get-get_or (spots_along t track) i (leads_to t track.begin) (omega (arith, long))

-- the piece i of a track, by its two spots
piece_from_at : (t : Topology) (k i : ℕ) (track : Track) (a : Spot) → slice_get t.tracks k ≡ Some track → slice_get (spots_along t track) i ≡ Some a →
    i < length track.inner + 1 → RunAt t (piece_number t k i) a
piece_from_at t k i track a here from within = record {
  run = record { track = track.id; from = a; to = get_or (spots_along t track) (suc i) (leads_to t track.begin) };
  numbered = inl (piece_at t k i track a (get_or (spots_along t track) (suc i) (leads_to t track.begin)) here from (spot_there t track (suc i) (omega arith)));
  ends = inl refl;
}

piece_to_at : (t : Topology) (k i : ℕ) (track : Track) (b : Spot) → slice_get t.tracks k ≡ Some track → slice_get (spots_along t track) (suc i) ≡ Some b →
    i < length track.inner + 2 → RunAt t (piece_number t k i) b
piece_to_at t k i track b here to within = record {
  run = record { track = track.id; from = get_or (spots_along t track) i (leads_to t track.begin); to = b };
  numbered = inl (piece_at t k i track (get_or (spots_along t track) i (leads_to t track.begin)) b here (spot_there t track i within) to);
  ends = inr refl;
}

end_run : (t : Topology) (k : ℕ) (track : Track) (last : Bool) → slice_get t.tracks k ≡ Some track → RunAt t (own t k last) (leads_to t (end_of track last))
end_run t k track false here = piece_from_at t k 0 track (leads_to t track.begin) here refl (omega arith)
end_run t k track true here =
    same_run_at t (piece_number t k (length track.inner)) (last_piece t k) (leads_to t track.end) (leads_to t track.end) (sym (last_is t k track here)) refl
    (piece_to_at t k (length track.inner) track (leads_to t track.end) here (spot_of_end t track) (omega arith))

-- the edge beyond the connection of a track's end that has a node
beside_end : (t : Topology) (k : ℕ) (track : Track) (last : Bool) (c other : Conn) → slice_get t.tracks k ≡ Some track → (end_of track last).joined ≡ Some c →
    has_node t (end_of track last) ≡ true → other.to ≡ end_place k last → Where t c.to other → RunAt t (edge_beyond t c) (end_spot (end_of track last))
beside_end t k track last c other here joined node back (at_inner track2 i m x here2 at_i on at_m) =
    absurd (false≢true (sym (no_node_beside_inner t (end_of track last) c joined (ap is_track_end on ∙ inner_is_no_end x.what i m)) ∙ node))
beside_end t k track last c other here joined node back (at_end track2 last2 here2 on joined2) =
    let e : TrackEnd = end_of track last in
    let e2 : TrackEnd = end_of track2 last2 in
    let early : e.at < e2.at = ltb-true e.at e2.at (sym (node_beside_end t e c track2 last2 joined here2 on) ∙ node) in
    let here' : slice_get t.tracks other.to.track ≡ Some track = ap (λ (p : Place). slice_get t.tracks p.track) back ∙ here in
    let on' : other.to.part ≡ end_part last = ap (λ (p : Place). p.part) back in
    let node2 : has_node t e2 ≡ false = node_beside_end t e2 other track last joined2 here' on' ∙ le-ltb e2.at e.at (omega arith) in
    same_run_at t (own t c.to.track last2) (edge_beyond t c) (leads_to t e2) (end_spot e) (sym (beyond_end t c c.to.track last2 refl on))
    (leads_other t e2 other (end_spot e) node2 joined2 (end_spot_at t other.to track last here' on'))
    (end_run t c.to.track track2 last2 here2)

-- the edge beyond a connection of a switch or crossing
beside_inner : (t : Topology) → IsResolved t → (k i m : ℕ) (track : Track) (x : Inner) (c other : Conn) → slice_get t.tracks k ≡ Some track →
    slice_get track.inner i ≡ Some x → slice_get (connections x.what) m ≡ Some c → connection t c.to ≡ Some other → other.to ≡ inner_place k x.what i m →
    Where t c.to other → RunAt t (edge_beyond t c) (inner_spot x)
beside_inner t resolved k i m track x c other here at_i at_m there back (at_end track2 last2 here2 on joined2) =
    let e2 : TrackEnd = end_of track2 last2 in
    let here' : slice_get t.tracks other.to.track ≡ Some track = ap (λ (p : Place). slice_get t.tracks p.track) back ∙ here in
    let on' : other.to.part ≡ inner_part x.what i m = ap (λ (p : Place). p.part) back in
    let node2 : has_node t e2 ≡ false = no_node_beside_inner t e2 other joined2 (ap is_track_end on' ∙ inner_is_no_end x.what i m) in
    same_run_at t (own t c.to.track last2) (edge_beyond t c) (leads_to t e2) (inner_spot x) (sym (beyond_end t c c.to.track last2 refl on))
    (leads_other t e2 other (inner_spot x) node2 joined2 (inner_spot_at t other.to track i m x here' at_i on'))
    (end_run t c.to.track track2 last2 here2)
beside_inner t resolved k i m track x c other here at_i at_m there back (at_inner track2 i2 m2 x2 here2 at_i2 on2 at_m2) =
    let p : Place = inner_place k x.what i m in
    let from : connection t p ≡ Some c = inner_connection t k track i m x c here at_i at_m in
    let elsewhere : p ≢ c.to = λ same. resolved.joins.elsewhere p c from (sym same) in
    let differ : c.at ≢ other.at = connections_apart t resolved p c.to c other from there elsewhere in
    let inner : is_track_end c.to.part ≡ false = ap is_track_end on2 ∙ inner_is_no_end x2.what i2 m2 in
    let inner' : is_track_end other.to.part ≡ false = ap (λ (q : Place). is_track_end q.part) back ∙ inner_is_no_end x.what i m in
    let joined : joined_at t c ≡ other.at = joined_is t c other there in
    let back' : connection t other.to ≡ Some c = ap (connection t) back ∙ from in
    let joined' : joined_at t other ≡ c.at = joined_is t other c back' in
    elim (cases_lt c.at other.at) [
      | inl less ↦
          let first : c.at ≡ min c.at (joined_at t c) = omega arith in
          record {
            run = (join_from t x c).run;
            numbered = inr (
              join_from t x c,
              contains_in (joins t) (join_from t x c)
                  (join_there t k i m track x c here at_i at_m (begins_yes t c inner (omega arith))),
              ap (join_number t) first ∙ sym (beyond_inner t c inner),
              refl,
            );
            ends = inl refl;
          }
      | inr more ↦
          let first : other.at ≡ min c.at (joined_at t c) = omega arith in
          let here' : slice_get t.tracks other.to.track ≡ Some track = ap (λ (q : Place). slice_get t.tracks q.track) back ∙ here in
          record {
            run = (join_from t x2 other).run;
            numbered = inr (
              join_from t x2 other,
              contains_in (joins t) (join_from t x2 other)
                  (join_there t c.to.track i2 m2 track2 x2 other here2 at_i2 at_m2 (begins_yes t other inner' (omega arith))),
              ap (join_number t) first
                  ∙ sym (beyond_inner t c inner),
              refl,
            );
            ends = inr (ap (λ (o : Option Spot). unwrap_or o (inner_spot x2)) (inner_spot_at t other.to track i m x here' at_i
                (ap (λ (q : Place). q.part) back)));
          }
    ]

pub beyond_run : (t : Topology) → IsResolved t → (k i m : ℕ) (track : Track) (x : Inner) (c : Conn) → slice_get t.tracks k ≡ Some track →
    slice_get track.inner i ≡ Some x → slice_get (connections x.what) m ≡ Some c → RunAt t (edge_beyond t c) (inner_spot x)
beyond_run t resolved k i m track x c here at_i at_m =
    let p : Place = inner_place k x.what i m in
    let back = resolved.joins.back p c (inner_connection t k track i m x c here at_i at_m) in
    beside_inner t resolved k i m track x c back.0 here at_i at_m back.1 back.2 (where_is t c.to back.0 back.1)

end_met : (t : Topology) → IsResolved t → (k : ℕ) (track : Track) (last : Bool) (e : ℕ) (o : Option Conn) → slice_get t.tracks k ≡ Some track →
    has_node t (end_of track last) ≡ true → (end_of track last).joined ≡ o → In e (edges_met (end_meeting t (own t k last) o)) →
    RunAt t e (end_spot (end_of track last))
end_met t resolved k track last e None here node joined (inl is) =
    same_run_at t (own t k last) e (leads_to t (end_of track last)) (end_spot (end_of track last)) is (leads_own t (end_of track last) node)
    (end_run t k track last here)
end_met t resolved k track last e None here node joined (inr none) = absurd none
end_met t resolved k track last e (Some c) here node joined (inl is) =
    same_run_at t (own t k last) e (leads_to t (end_of track last)) (end_spot (end_of track last)) is (leads_own t (end_of track last) node)
    (end_run t k track last here)
end_met t resolved k track last e (Some c) here node joined (inr (inl is)) =
    let back = resolved.joins.back (end_place k last) c (end_connection t k track last here ∙ joined) in
    same_run_at t (edge_beyond t c) e (end_spot (end_of track last)) (end_spot (end_of track last)) is refl
    (beside_end t k track last c back.0 here joined node back.2 (where_is t c.to back.0 back.1))
end_met t resolved k track last e (Some c) here node joined (inr (inr none)) = absurd none

inner_met : (t : Topology) → IsResolved t → (k i : ℕ) (track : Track) (x : Inner) (e : ℕ) → slice_get t.tracks k ≡ Some track →
    slice_get track.inner i ≡ Some x → Met t (piece_number t k i) (piece_number t k (i + 1)) x.what e → RunAt t e (inner_spot x)
inner_met t resolved k i track x e here at_i (met_before is) =
    let within = slice_get_within track.inner i x at_i in
    same_run_at t (piece_number t k i) e (inner_spot x) (inner_spot x) is refl (piece_to_at t k i track (inner_spot x) here (spot_of_inner t track i x at_i)
    (omega (arith, within)))
inner_met t resolved k i track x e here at_i (met_after is) =
    let within = slice_get_within track.inner i x at_i in
    same_run_at t (piece_number t k (suc i)) e (inner_spot x) (inner_spot x) (sym (next_number t k i) ∙ is) refl
    (piece_from_at t k (suc i) track (inner_spot x) here (spot_of_inner t track i x at_i) (omega (arith, within)))
inner_met t resolved k i track x e here at_i (met_beyond m c at_m is) =
    same_run_at t (edge_beyond t c) e (inner_spot x) (inner_spot x) is refl (beyond_run t resolved k i m track x c here at_i at_m)

run_at : (t : Topology) → IsResolved t → (s : Site) (e : ℕ) → SiteOf t s → In e (edges_met s.meets) → RunAt t e s.spot
run_at t resolved s e (of_end k track last here node is) met =
    subst (λ (spot : Spot). RunAt t e spot) (ap (λ (s : Site). s.spot) is)
    (end_met t resolved k track last e (end_of track last).joined here node refl (subst (λ (s : Site). In e (edges_met s.meets)) (sym is) met))
run_at t resolved s e (of_inner k i track x here at_i is) met =
    subst (λ (spot : Spot). RunAt t e spot) (ap (λ (s : Site). s.spot) is)
    (inner_met t resolved k i track x e here at_i (met_cases t (piece_number t k i) (piece_number t k (i + 1)) x.what e
    (subst (λ (s : Site). In e (edges_met s.meets)) (sym is) met)))

pub met_run : (t : Topology) → IsResolved t → (s : Site) (e : ℕ) → In s (sites t) → In e (edges_met s.meets) → RunAt t e s.spot
met_run t resolved s e there met = run_at t resolved s e (site_of t s there) met
