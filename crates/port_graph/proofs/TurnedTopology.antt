-- What the topology of the same station, seen from its other end, has for spots, runs and sites.
use Rattle.std.proofs.Common.{◌≡◌, ℕ, zero, suc, ◌+◌, Bool, true, false, not, ◌&&◌, cond, min, List, [], ◌∷◌, ◌++◌, length, map, take, Option, Some, None}
use Rattle.std.proofs.Common.{refl, sym, ap, ◌∙◌}
use Rattle.std.specs.Prelude.{nat_lt, sum_by, count_by, slice_get, unwrap_or, option_and_then}
use Rattle.std.specs.Option.{option_map, option_map_or}
use Rattle.std.specs.List.{flat_map, enumerate_from}
use Rattle.std.proofs.lemmas.List.{map-append, length-map, take-map}
use Rattle.plan_core.specs.declared.topology.Topology.{Topology}
use Rattle.plan_core.specs.declared.topology.Track.{Track}
use Rattle.plan_core.specs.declared.topology.End.{End as TrackEnd}
use Rattle.plan_core.specs.declared.topology.Inner.{Inner}
use Rattle.plan_core.specs.declared.topology.InnerKind.{InnerKind}
use Rattle.plan_core.specs.declared.topology.InnerKind.TheVariants.{Switch, Crossing}
use Rattle.plan_core.specs.declared.topology.Conn.{Conn}
use Rattle.plan_core.specs.declared.topology.Place.{Place}
use Rattle.plan_core.specs.declared.topology.Part.{Part}
use Rattle.plan_core.specs.declared.topology.Part.TheVariants.{Begin, End, Branch, Incoming, Outgoing}
use Rattle.plan_core.specs.Topology.{connections, connection, connection_of, branch_of, incoming_of, outgoing_of}
use Rattle.port_graph.specs.declared.runs.Spot.{Spot}
use Rattle.port_graph.specs.declared.runs.Run.{Run}
use Rattle.port_graph.specs.declared.runs.Join.{Join}
use Rattle.port_graph.specs.declared.sites.Site.{Site}
use Rattle.port_graph.specs.declared.sites.Meeting.{Meeting}
use Rattle.port_graph.specs.declared.sites.Meeting.TheVariants as meeting
use Rattle.port_graph.specs.Spots.{end_spot, inner_spot, spot_on, spot_at, is_track_end, is_listed_before, is_node, has_node, joined_spot, leads_to}
use Rattle.port_graph.specs.Runs.{spots_along, runs_between, track_pieces, pieces_of_tracks, piece_count, piece_number, joined_at, begins_join, begun_join}
use Rattle.port_graph.specs.Runs.{inner_joins, track_joins, joins, join_number, edge_count, last_piece, join_of_connection, edge_toward, edge_beyond}
use Rattle.port_graph.specs.Sites.{edge_no, end_meeting, end_sites, inner_meeting, inner_site, track_sites, sites, node_number}
use Rattle.port_graph.specs.Turned.{turned_mile, turned_end, turned_inner, turned_track, turned_topology}
use Rattle.port_graph.proofs.TurnedLists.{map_turned, flat_turned, flat_same, sum_turned, count_turned, enumerate_turned, option_turned, read_alike}
use Rattle.port_graph.proofs.TurnedLists.{read_turned}

abbrev pub turned_spot : Spot → Spot
turned_spot s = record s { mile = turned_mile s.mile }

abbrev pub turned_run : Run → Run
turned_run r = record r { from = turned_spot r.from; to = turned_spot r.to }

abbrev pub turned_join : Join → Join
turned_join j = record j { run = turned_run j.run }

abbrev pub turned_site : Site → Site
turned_site s = record s { spot = turned_spot s.spot }

-- ---- connections and spots

connection_of-turned : (track : Track) (part : Part) → connection_of (turned_track track) part ≡ connection_of track part
connection_of-turned track Begin = refl
connection_of-turned track End = refl
connection_of-turned track (Branch i) = read_alike turned_inner (λ (x : Inner). branch_of x.what) (λ (x : Inner). branch_of x.what) (λ x. refl) track.inner i
connection_of-turned track (Incoming i) = read_alike turned_inner (λ (x : Inner). incoming_of x.what) (λ (x : Inner). incoming_of x.what) (λ x. refl)
    track.inner i
connection_of-turned track (Outgoing i) = read_alike turned_inner (λ (x : Inner). outgoing_of x.what) (λ (x : Inner). outgoing_of x.what) (λ x. refl)
    track.inner i

pub connection-turned : (t : Topology) (p : Place) → connection (turned_topology t) p ≡ connection t p
connection-turned t p =
    read_alike turned_track (λ (track : Track). connection_of track p.part) (λ (track : Track). connection_of track p.part)
    (λ track. connection_of-turned track p.part) t.tracks p.track

spot_on-turned : (track : Track) (part : Part) → spot_on (turned_track track) part ≡ option_map turned_spot (spot_on track part)
spot_on-turned track Begin = refl
spot_on-turned track End = refl
spot_on-turned track (Branch i) = option_turned turned_inner inner_spot turned_spot inner_spot (λ x. refl) track.inner i
spot_on-turned track (Incoming i) = option_turned turned_inner inner_spot turned_spot inner_spot (λ x. refl) track.inner i
spot_on-turned track (Outgoing i) = option_turned turned_inner inner_spot turned_spot inner_spot (λ x. refl) track.inner i

pub spot_at-turned : (t : Topology) (p : Place) → spot_at (turned_topology t) p ≡ option_map turned_spot (spot_at t p)
spot_at-turned t p =
    read_turned turned_track (λ (track : Track). spot_on track p.part) turned_spot (λ (track : Track). spot_on track p.part)
    (λ track. spot_on-turned track p.part) t.tracks p.track

listed-turned : (e : TrackEnd) (other : Option Spot) → is_listed_before (turned_end e) (option_map turned_spot other) ≡ is_listed_before e other
listed-turned e None = refl
listed-turned e (Some s) = refl

is_node-turned : (t : Topology) (e : TrackEnd) (joined : Option Conn) → is_node (turned_topology t) (turned_end e) joined ≡ is_node t e joined
is_node-turned t e None = refl
is_node-turned t e (Some c) =
    ap (λ (s : Option Spot). is_track_end c.to.part && is_listed_before (turned_end e) s) (spot_at-turned t c.to)
    ∙ ap (λ (b : Bool). is_track_end c.to.part && b) (listed-turned e (spot_at t c.to))

pub has_node-turned : (t : Topology) (e : TrackEnd) → has_node (turned_topology t) (turned_end e) ≡ has_node t e
has_node-turned t e = is_node-turned t e e.joined

joined_spot-turned : (t : Topology) (e : TrackEnd) → joined_spot (turned_topology t) (turned_end e) ≡ option_map turned_spot (joined_spot t e)
joined_spot-turned t e = go e.joined
  where
    go : (joined : Option Conn) → option_and_then (λ (c : Conn). spot_at (turned_topology t) c.to) joined ≡ option_map turned_spot
        (option_and_then (λ (c : Conn). spot_at t c.to) joined)
    go None = refl
    go (Some c) = spot_at-turned t c.to

turned_or : (o : Option Spot) (s : Spot) → unwrap_or (option_map turned_spot o) (turned_spot s) ≡ turned_spot (unwrap_or o s)
turned_or None s = refl
turned_or (Some r) s = refl

turned_choice : (b : Bool) (r s : Spot) → cond b (turned_spot r) (turned_spot s) ≡ turned_spot (cond b r s)
turned_choice true r s = refl
turned_choice false r s = refl

pub leads_to-turned : (t : Topology) (e : TrackEnd) → leads_to (turned_topology t) (turned_end e) ≡ turned_spot (leads_to t e)
leads_to-turned t e =
    ap (λ (b : Bool). cond b (turned_spot (end_spot e)) (unwrap_or (joined_spot (turned_topology t) (turned_end e)) (turned_spot (end_spot e))))
    (has_node-turned t e)
    ∙ ap (λ (o : Option Spot). cond (has_node t e) (turned_spot (end_spot e)) (unwrap_or o (turned_spot (end_spot e)))) (joined_spot-turned t e)
    ∙ ap (λ (s : Spot). cond (has_node t e) (turned_spot (end_spot e)) s) (turned_or (joined_spot t e) (end_spot e))
    ∙ turned_choice (has_node t e) (end_spot e) (unwrap_or (joined_spot t e) (end_spot e))

-- ---- pieces

spots_along-turned : (t : Topology) (track : Track) → spots_along (turned_topology t) (turned_track track) ≡ map turned_spot (spots_along t track)
spots_along-turned t track =
    let last = ap (λ (s : Spot). s ∷ []) (leads_to-turned t track.end) in
    ap (λ (s : Spot). s ∷ (map inner_spot (map turned_inner track.inner) ++ leads_to (turned_topology t) (turned_end track.end) ∷ []))
    (leads_to-turned t track.begin)
    ∙ ap (λ (l : List Spot). turned_spot (leads_to t track.begin) ∷ (l ++ leads_to (turned_topology t) (turned_end track.end) ∷ []))
    (map_turned turned_inner inner_spot turned_spot inner_spot (λ x. refl) track.inner)
    ∙ ap (λ (l : List Spot). turned_spot (leads_to t track.begin) ∷ (map turned_spot (map inner_spot track.inner) ++ l)) last
    ∙ ap (λ (l : List Spot). turned_spot (leads_to t track.begin) ∷ l) (sym (map-append turned_spot (map inner_spot track.inner) (leads_to t track.end ∷ [])))

runs_between-turned : (name : List ℕ) (spots : List Spot) → runs_between name (map turned_spot spots) ≡ map turned_run (runs_between name spots)
runs_between-turned name [] = refl
runs_between-turned name (from ∷ []) = refl
runs_between-turned name (from ∷ to ∷ rest) =
    ap (λ (l : List Run). record { track = name; from = turned_spot from; to = turned_spot to } ∷ l) (runs_between-turned name (to ∷ rest))

pub pieces-turned : (t : Topology) → pieces_of_tracks (turned_topology t) ≡ map turned_run (pieces_of_tracks t)
pieces-turned t =
    flat_turned turned_track (track_pieces (turned_topology t)) turned_run (track_pieces t)
    (λ track. ap (runs_between track.id) (spots_along-turned t track) ∙ runs_between-turned track.id (spots_along t track)) t.tracks

piece_count-turned : (track : Track) → piece_count (turned_track track) ≡ piece_count track
piece_count-turned track = ap (λ (n : ℕ). n + 1) (length-map track.inner turned_inner)

pub piece_total-turned : (t : Topology) → sum_by piece_count (turned_topology t).tracks ≡ sum_by piece_count t.tracks
piece_total-turned t = sum_turned turned_track piece_count piece_count piece_count-turned t.tracks

pub piece_number-turned : (t : Topology) (k i : ℕ) → piece_number (turned_topology t) k i ≡ piece_number t k i
piece_number-turned t k i =
    ap (λ (l : List Track). sum_by piece_count l + i) (take-map turned_track k t.tracks)
    ∙ ap (λ (n : ℕ). n + i) (sum_turned turned_track piece_count piece_count piece_count-turned (take k t.tracks))

-- ---- joins

joined_at-turned : (t : Topology) (c : Conn) → joined_at (turned_topology t) c ≡ joined_at t c
joined_at-turned t c = ap (λ (o : Option Conn). unwrap_or (option_map (λ (other : Conn). other.at) o) c.at) (connection-turned t c.to)

begins_join-turned : (t : Topology) (c : Conn) → begins_join (turned_topology t) c ≡ begins_join t c
begins_join-turned t c = ap (λ (n : ℕ). not (is_track_end c.to.part) && nat_lt c.at n) (joined_at-turned t c)

begun_join-turned : (t : Topology) (x : Inner) (c : Conn) → begun_join (turned_topology t) (turned_inner x) c ≡ map turned_join (begun_join t x c)
begun_join-turned t x c =
    ap (λ (b : Bool). cond b (run_to (turned_spot (inner_spot x)) (unwrap_or (spot_at (turned_topology t) c.to) (turned_spot (inner_spot x))) ∷ []) [])
    (begins_join-turned t c)
    ∙ ap (λ (o : Option Spot). cond (begins_join t c) (run_to (turned_spot (inner_spot x)) (unwrap_or o (turned_spot (inner_spot x))) ∷ []) [])
    (spot_at-turned t c.to)
    ∙ ap (λ (s : Spot). cond (begins_join t c) (run_to (turned_spot (inner_spot x)) s ∷ []) []) (turned_or (spot_at t c.to) (inner_spot x))
    ∙ choice (begins_join t c)
  where
    run_to : Spot → Spot → Join
    run_to from to = record { at = c.at; run = record { track = c.id; from = from; to = to } }

    choice : (b : Bool) → cond b (run_to (turned_spot (inner_spot x)) (turned_spot (unwrap_or (spot_at t c.to) (inner_spot x))) ∷ []) [] ≡ map turned_join
        (cond b (run_to (inner_spot x) (unwrap_or (spot_at t c.to) (inner_spot x)) ∷ []) [])
    choice true = refl
    choice false = refl

inner_joins-turned : (t : Topology) (x : Inner) → inner_joins (turned_topology t) (turned_inner x) ≡ map turned_join (inner_joins t x)
inner_joins-turned t x = flat_same (begun_join (turned_topology t) (turned_inner x)) turned_join (begun_join t x) (begun_join-turned t x) (connections x.what)

track_joins-turned : (t : Topology) (track : Track) → track_joins (turned_topology t) (turned_track track) ≡ map turned_join (track_joins t track)
track_joins-turned t track = flat_turned turned_inner (inner_joins (turned_topology t)) turned_join (inner_joins t) (inner_joins-turned t) track.inner

pub joins-turned : (t : Topology) → joins (turned_topology t) ≡ map turned_join (joins t)
joins-turned t = flat_turned turned_track (track_joins (turned_topology t)) turned_join (track_joins t) (track_joins-turned t) t.tracks

pub join_number-turned : (t : Topology) (at : ℕ) → join_number (turned_topology t) at ≡ join_number t at
join_number-turned t at =
    ap (λ (n : ℕ). n + count_by (λ (j : Join). nat_lt j.at at) (joins (turned_topology t))) (piece_total-turned t)
    ∙ ap (λ (l : List Join). sum_by piece_count t.tracks + count_by (λ (j : Join). nat_lt j.at at) l) (joins-turned t)
    ∙ ap (λ (n : ℕ). sum_by piece_count t.tracks + n) (count_turned turned_join (λ (j : Join). nat_lt j.at at) (λ (j : Join). nat_lt j.at at) (λ j. refl)
    (joins t))

pub edge_count-turned : (t : Topology) → edge_count (turned_topology t) ≡ edge_count t
edge_count-turned t =
    ap (λ (n : ℕ). n + length (joins (turned_topology t))) (piece_total-turned t)
    ∙ ap (λ (l : List Join). sum_by piece_count t.tracks + length l) (joins-turned t)
    ∙ ap (λ (n : ℕ). sum_by piece_count t.tracks + n) (length-map (joins t) turned_join)

-- ---- edges beyond connections

last_piece-turned : (t : Topology) (k : ℕ) → last_piece (turned_topology t) k ≡ last_piece t k
last_piece-turned t k =
    piece_number-turned t k (option_map_or (λ (track : Track). length track.inner) (slice_get (turned_topology t).tracks k) 0)
    ∙ ap (piece_number t k) (inner_count t.tracks k)
  where
    inner_count : (tracks : List Track) (k : ℕ) → option_map_or (λ (track : Track). length track.inner) (slice_get (map turned_track tracks) k) 0
        ≡ option_map_or (λ (track : Track). length track.inner) (slice_get tracks k) 0
    inner_count [] k = refl
    inner_count (track ∷ tracks) zero = length-map track.inner turned_inner
    inner_count (track ∷ tracks) (suc k) = inner_count tracks k

join_of-turned : (t : Topology) (c : Conn) → join_of_connection (turned_topology t) c ≡ join_of_connection t c
join_of-turned t c =
    join_number-turned t (min c.at (joined_at (turned_topology t) c)) ∙ ap (λ (n : ℕ). join_number t (min c.at n)) (joined_at-turned t c)

edge_toward-turned : (t : Topology) (c : Conn) (track : ℕ) (part : Part) → edge_toward (turned_topology t) c track part ≡ edge_toward t c track part
edge_toward-turned t c track Begin = piece_number-turned t track 0
edge_toward-turned t c track End = last_piece-turned t track
edge_toward-turned t c track (Branch i) = join_of-turned t c
edge_toward-turned t c track (Incoming i) = join_of-turned t c
edge_toward-turned t c track (Outgoing i) = join_of-turned t c

pub edge_beyond-turned : (t : Topology) (c : Conn) → edge_beyond (turned_topology t) c ≡ edge_beyond t c
edge_beyond-turned t c = edge_toward-turned t c c.to.track c.to.part

-- ---- sites

end_meeting-turned : (t : Topology) (own : ℕ) (joined : Option Conn) → end_meeting (turned_topology t) own joined ≡ end_meeting t own joined
end_meeting-turned t own None = refl
end_meeting-turned t own (Some c) = ap (λ (e : ℕ). meeting.Joint (edge_no own) (edge_no e)) (edge_beyond-turned t c)

end_sites-turned : (t : Topology) (e : TrackEnd) (own own' : ℕ) → own' ≡ own →
    end_sites (turned_topology t) (turned_end e) own' ≡ map turned_site (end_sites t e own)
end_sites-turned t e own own' same =
    ap (λ (n : ℕ). end_sites (turned_topology t) (turned_end e) n) same
    ∙ ap (λ (m : Meeting). cond (has_node (turned_topology t) (turned_end e)) (site_of (turned_spot (end_spot e)) m ∷ []) [])
    (end_meeting-turned t own e.joined)
    ∙ ap (λ (b : Bool). cond b (site_of (turned_spot (end_spot e)) (end_meeting t own e.joined) ∷ []) []) (has_node-turned t e)
    ∙ choice (has_node t e)
  where
    site_of : Spot → Meeting → Site
    site_of s m = record { id = e.id; spot = s; meets = m }

    choice : (b : Bool) → cond b (site_of (turned_spot (end_spot e)) (end_meeting t own e.joined) ∷ []) [] ≡ map turned_site
        (cond b (site_of (end_spot e) (end_meeting t own e.joined) ∷ []) [])
    choice true = refl
    choice false = refl

inner_meeting-turned : (t : Topology) (before after : ℕ) (what : InnerKind) → inner_meeting (turned_topology t) before after what ≡ inner_meeting t before after
    what
inner_meeting-turned t before after (Switch outgoing hand track_diverges conn) =
    ap (λ (e : ℕ). meeting.Switch outgoing hand track_diverges (edge_no before) (edge_no after) (edge_no e)) (edge_beyond-turned t conn)
inner_meeting-turned t before after (Crossing hand incoming outgoing) =
    ap (λ (e : ℕ). meeting.Crossing hand (edge_no before) (edge_no after) (edge_no e) (edge_no (edge_beyond (turned_topology t) outgoing)))
    (edge_beyond-turned t incoming)
    ∙ ap (λ (e : ℕ). meeting.Crossing hand (edge_no before) (edge_no after) (edge_no (edge_beyond t incoming)) (edge_no e)) (edge_beyond-turned t outgoing)

inner_site-turned : (t : Topology) (k i : ℕ) (x : Inner) → inner_site (turned_topology t) k i (turned_inner x) ≡ turned_site (inner_site t k i x)
inner_site-turned t k i x =
    ap (λ (n : ℕ). site_of (inner_meeting (turned_topology t) n (piece_number (turned_topology t) k (i + 1)) x.what)) (piece_number-turned t k i)
    ∙ ap (λ (n : ℕ). site_of (inner_meeting (turned_topology t) (piece_number t k i) n x.what)) (piece_number-turned t k (i + 1))
    ∙ ap site_of (inner_meeting-turned t (piece_number t k i) (piece_number t k (i + 1)) x.what)
  where
    site_of : Meeting → Site
    site_of m = record { id = x.id; spot = turned_spot (inner_spot x); meets = m }

inner_sites-turned : (t : Topology) (k : ℕ) (xs : List Inner) → map (λ (ix : ℕ × Inner). inner_site (turned_topology t) k ix.0 ix.1)
    (enumerate_from 0 (map turned_inner xs)) ≡ map turned_site (map (λ (ix : ℕ × Inner). inner_site t k ix.0 ix.1) (enumerate_from 0 xs))
inner_sites-turned t k xs =
    ap (λ (l : List (ℕ × Inner)). map (λ (ix : ℕ × Inner). inner_site (turned_topology t) k ix.0 ix.1) l) (enumerate_turned turned_inner 0 xs)
    ∙ map_turned (λ (ix : ℕ × Inner). (ix.0, turned_inner ix.1)) (λ (ix : ℕ × Inner). inner_site (turned_topology t) k ix.0 ix.1) turned_site
    (λ (ix : ℕ × Inner). inner_site t k ix.0 ix.1)
    (λ ix. inner_site-turned t k ix.0 ix.1) (enumerate_from 0 xs)

track_sites-turned : (t : Topology) (k : ℕ) (track : Track) → track_sites (turned_topology t) k (turned_track track) ≡ map turned_site (track_sites t k track)
track_sites-turned t k track =
    let inner' = map (λ (ix : ℕ × Inner). inner_site (turned_topology t) k ix.0 ix.1) (enumerate_from 0 (map turned_inner track.inner)) in
    let inner = map (λ (ix : ℕ × Inner). inner_site t k ix.0 ix.1) (enumerate_from 0 track.inner) in
    let ending = end_sites t track.end (last_piece t k) in
    ap (λ (l : List Site). l ++ (inner' ++ end_sites (turned_topology t) (turned_end track.end) (last_piece (turned_topology t) k)))
    (end_sites-turned t track.begin (piece_number t k 0) (piece_number (turned_topology t) k 0) (piece_number-turned t k 0))
    ∙ ap (λ (l : List Site). map turned_site (end_sites t track.begin (piece_number t k 0)) ++ (inner' ++ l))
    (end_sites-turned t track.end (last_piece t k) (last_piece (turned_topology t) k) (last_piece-turned t k))
    ∙ ap (λ (l : List Site). map turned_site (end_sites t track.begin (piece_number t k 0)) ++ (l ++ map turned_site ending))
    (inner_sites-turned t k track.inner)
    ∙ ap (λ (l : List Site). map turned_site (end_sites t track.begin (piece_number t k 0)) ++ l) (sym (map-append turned_site inner ending))
    ∙ sym (map-append turned_site (end_sites t track.begin (piece_number t k 0)) (inner ++ ending))

pub sites-turned : (t : Topology) → sites (turned_topology t) ≡ map turned_site (sites t)
sites-turned t =
    ap (λ (l : List (ℕ × Track)). flat_map (λ (kt : ℕ × Track). track_sites (turned_topology t) kt.0 kt.1) l) (enumerate_turned turned_track 0 t.tracks)
    ∙ flat_turned (λ (kt : ℕ × Track). (kt.0, turned_track kt.1)) (λ (kt : ℕ × Track). track_sites (turned_topology t) kt.0 kt.1) turned_site
    (λ (kt : ℕ × Track). track_sites t kt.0 kt.1)
    (λ kt. track_sites-turned t kt.0 kt.1) (enumerate_from 0 t.tracks)

pub node_number-turned : (t : Topology) (at : ℕ) → node_number (turned_topology t) at ≡ node_number t at
node_number-turned t at =
    ap (λ (l : List Site). count_by (λ (s : Site). nat_lt s.spot.at at) l) (sites-turned t)
    ∙ count_turned turned_site (λ (s : Site). nat_lt s.spot.at at) (λ (s : Site). nat_lt s.spot.at at) (λ s. refl) (sites t)
