-- What the topology with every hand exchanged has for spots, runs and sites: only the hands of what meets differ.
use Rattle.std.proofs.Common.{◌≡◌, ℕ, zero, suc, ◌+◌, Bool, true, false, not, ◌&&◌, cond, min, List, [], ◌∷◌, ◌++◌, length, map, take, Option, Some, None}
use Rattle.std.proofs.Common.{refl, sym, ap, ◌∙◌}
use Rattle.std.specs.Prelude.{nat_lt, sum_by, count_by, slice_get, unwrap_or, option_and_then}
use Rattle.std.specs.Option.{option_map, option_map_or}
use Rattle.std.specs.List.{flat_map, enumerate_from}
use Rattle.std.proofs.lemmas.List.{map-append, length-map, take-map}
use Rattle.plan_core.specs.declared.topology.Topology.{Topology}
use Rattle.plan_core.specs.declared.topology.Track.{Track}
use Rattle.plan_core.specs.declared.topology.End.{End as TrackEnd}
use Rattle.plan_core.specs.declared.topology.Inner.{Inner}
use Rattle.plan_core.specs.declared.topology.InnerKind.{InnerKind}
use Rattle.plan_core.specs.declared.topology.InnerKind.TheVariants.{Switch, Crossing}
use Rattle.plan_core.specs.declared.topology.Conn.{Conn}
use Rattle.plan_core.specs.declared.topology.Place.{Place}
use Rattle.plan_core.specs.declared.topology.Part.{Part}
use Rattle.plan_core.specs.declared.topology.Part.TheVariants.{Begin, End, Branch, Incoming, Outgoing}
use Rattle.plan_core.specs.Topology.{connections, connection, connection_of, branch_of, incoming_of, outgoing_of}
use Rattle.port_graph.specs.declared.runs.Spot.{Spot}
use Rattle.port_graph.specs.declared.runs.Join.{Join}
use Rattle.port_graph.specs.declared.sites.Site.{Site}
use Rattle.port_graph.specs.declared.sites.Meeting.{Meeting}
use Rattle.port_graph.specs.declared.sites.Meeting.TheVariants as meeting
use Rattle.port_graph.specs.Spots.{end_spot, inner_spot, spot_on, spot_at, is_track_end, is_listed_before, is_node, has_node, joined_spot, leads_to}
use Rattle.port_graph.specs.Runs.{spots_along, runs_between, track_pieces, pieces_of_tracks, piece_count, piece_number, joined_at, begins_join, begun_join}
use Rattle.port_graph.specs.Runs.{inner_joins, track_joins, joins, join_number, edge_count, last_piece, join_of_connection, edge_toward, edge_beyond}
use Rattle.port_graph.specs.Sites.{edge_no, end_meeting, end_sites, inner_meeting, inner_site, track_sites, sites, node_number}
use Rattle.port_graph.specs.Mirrored.{other_hand, mirrored_kind, mirrored_inner, mirrored_track, mirrored_topology}
use Rattle.port_graph.proofs.TurnedLists.{map_turned, flat_turned, flat_alike, flat_equal, map_alike, sum_turned, count_turned, enumerate_turned, option_alike}
use Rattle.port_graph.proofs.TurnedLists.{read_alike}

abbrev pub mirrored_meeting : Meeting → Meeting
mirrored_meeting (meeting.End e) = meeting.End e
mirrored_meeting (meeting.Joint first other) = meeting.Joint first other
mirrored_meeting (meeting.Switch outgoing hand track_diverges before after branch) = meeting.Switch outgoing (other_hand hand) track_diverges before after
    branch
mirrored_meeting (meeting.Crossing hand before after incoming outgoing) = meeting.Crossing (other_hand hand) before after incoming outgoing

abbrev pub mirrored_site : Site → Site
mirrored_site s = record s { meets = mirrored_meeting s.meets }

-- ---- connections and spots

pub connections-mirrored : (what : InnerKind) → connections (mirrored_kind what) ≡ connections what
connections-mirrored (Switch outgoing hand track_diverges conn) = refl
connections-mirrored (Crossing hand incoming outgoing) = refl

branch-mirrored : (what : InnerKind) → branch_of (mirrored_kind what) ≡ branch_of what
branch-mirrored (Switch outgoing hand track_diverges conn) = refl
branch-mirrored (Crossing hand incoming outgoing) = refl

incoming-mirrored : (what : InnerKind) → incoming_of (mirrored_kind what) ≡ incoming_of what
incoming-mirrored (Switch outgoing hand track_diverges conn) = refl
incoming-mirrored (Crossing hand incoming outgoing) = refl

outgoing-mirrored : (what : InnerKind) → outgoing_of (mirrored_kind what) ≡ outgoing_of what
outgoing-mirrored (Switch outgoing hand track_diverges conn) = refl
outgoing-mirrored (Crossing hand incoming outgoing) = refl

connection_of-mirrored : (track : Track) (part : Part) → connection_of (mirrored_track track) part ≡ connection_of track part
connection_of-mirrored track Begin = refl
connection_of-mirrored track End = refl
connection_of-mirrored track (Branch i) = read_alike mirrored_inner (λ (x : Inner). branch_of x.what) (λ (x : Inner). branch_of x.what)
    (λ x. branch-mirrored x.what) track.inner i
connection_of-mirrored track (Incoming i) = read_alike mirrored_inner (λ (x : Inner). incoming_of x.what) (λ (x : Inner). incoming_of x.what)
    (λ x. incoming-mirrored x.what) track.inner i
connection_of-mirrored track (Outgoing i) = read_alike mirrored_inner (λ (x : Inner). outgoing_of x.what) (λ (x : Inner). outgoing_of x.what)
    (λ x. outgoing-mirrored x.what) track.inner i

pub connection-mirrored : (t : Topology) (p : Place) → connection (mirrored_topology t) p ≡ connection t p
connection-mirrored t p =
    read_alike mirrored_track (λ (track : Track). connection_of track p.part) (λ (track : Track). connection_of track p.part)
    (λ track. connection_of-mirrored track p.part) t.tracks p.track

spot_on-mirrored : (track : Track) (part : Part) → spot_on (mirrored_track track) part ≡ spot_on track part
spot_on-mirrored track Begin = refl
spot_on-mirrored track End = refl
spot_on-mirrored track (Branch i) = option_alike mirrored_inner inner_spot inner_spot (λ x. refl) track.inner i
spot_on-mirrored track (Incoming i) = option_alike mirrored_inner inner_spot inner_spot (λ x. refl) track.inner i
spot_on-mirrored track (Outgoing i) = option_alike mirrored_inner inner_spot inner_spot (λ x. refl) track.inner i

spot_at-mirrored : (t : Topology) (p : Place) → spot_at (mirrored_topology t) p ≡ spot_at t p
spot_at-mirrored t p =
    read_alike mirrored_track (λ (track : Track). spot_on track p.part) (λ (track : Track). spot_on track p.part)
    (λ track. spot_on-mirrored track p.part) t.tracks p.track

has_node-mirrored : (t : Topology) (e : TrackEnd) → has_node (mirrored_topology t) e ≡ has_node t e
has_node-mirrored t e = go e.joined
  where
    go : (joined : Option Conn) → is_node (mirrored_topology t) e joined ≡ is_node t e joined
    go None = refl
    go (Some c) = ap (λ (s : Option Spot). is_track_end c.to.part && is_listed_before e s) (spot_at-mirrored t c.to)

joined_spot-mirrored : (t : Topology) (e : TrackEnd) → joined_spot (mirrored_topology t) e ≡ joined_spot t e
joined_spot-mirrored t e = go e.joined
  where
    go : (joined : Option Conn) → option_and_then (λ (c : Conn). spot_at (mirrored_topology t) c.to) joined ≡ option_and_then (λ (c : Conn). spot_at t c.to)
        joined
    go None = refl
    go (Some c) = spot_at-mirrored t c.to

leads_to-mirrored : (t : Topology) (e : TrackEnd) → leads_to (mirrored_topology t) e ≡ leads_to t e
leads_to-mirrored t e =
    ap (λ (b : Bool). cond b (end_spot e) (unwrap_or (joined_spot (mirrored_topology t) e) (end_spot e))) (has_node-mirrored t e)
    ∙ ap (λ (o : Option Spot). cond (has_node t e) (end_spot e) (unwrap_or o (end_spot e))) (joined_spot-mirrored t e)

-- ---- pieces

spots_along-mirrored : (t : Topology) (track : Track) → spots_along (mirrored_topology t) (mirrored_track track) ≡ spots_along t track
spots_along-mirrored t track =
    ap (λ (s : Spot). s ∷ (map inner_spot (map mirrored_inner track.inner) ++ leads_to (mirrored_topology t) track.end ∷ [])) (leads_to-mirrored t track.begin)
    ∙ ap (λ (l : List Spot). leads_to t track.begin ∷ (l ++ leads_to (mirrored_topology t) track.end ∷ []))
    (map_alike mirrored_inner inner_spot inner_spot (λ x. refl) track.inner)
    ∙ ap (λ (s : Spot). leads_to t track.begin ∷ (map inner_spot track.inner ++ s ∷ [])) (leads_to-mirrored t track.end)

pub pieces-mirrored : (t : Topology) → pieces_of_tracks (mirrored_topology t) ≡ pieces_of_tracks t
pieces-mirrored t =
    flat_alike mirrored_track (track_pieces (mirrored_topology t)) (track_pieces t) (λ track. ap (runs_between track.id) (spots_along-mirrored t track))
    t.tracks

piece_count-mirrored : (track : Track) → piece_count (mirrored_track track) ≡ piece_count track
piece_count-mirrored track = ap (λ (n : ℕ). n + 1) (length-map track.inner mirrored_inner)

piece_total-mirrored : (t : Topology) → sum_by piece_count (mirrored_topology t).tracks ≡ sum_by piece_count t.tracks
piece_total-mirrored t = sum_turned mirrored_track piece_count piece_count piece_count-mirrored t.tracks

piece_number-mirrored : (t : Topology) (k i : ℕ) → piece_number (mirrored_topology t) k i ≡ piece_number t k i
piece_number-mirrored t k i =
    ap (λ (l : List Track). sum_by piece_count l + i) (take-map mirrored_track k t.tracks)
    ∙ ap (λ (n : ℕ). n + i) (sum_turned mirrored_track piece_count piece_count piece_count-mirrored (take k t.tracks))

-- ---- joins

joined_at-mirrored : (t : Topology) (c : Conn) → joined_at (mirrored_topology t) c ≡ joined_at t c
joined_at-mirrored t c = ap (λ (o : Option Conn). unwrap_or (option_map (λ (other : Conn). other.at) o) c.at) (connection-mirrored t c.to)

begins_join-mirrored : (t : Topology) (c : Conn) → begins_join (mirrored_topology t) c ≡ begins_join t c
begins_join-mirrored t c = ap (λ (n : ℕ). not (is_track_end c.to.part) && nat_lt c.at n) (joined_at-mirrored t c)

begun_join-mirrored : (t : Topology) (x : Inner) (c : Conn) → begun_join (mirrored_topology t) (mirrored_inner x) c ≡ begun_join t x c
begun_join-mirrored t x c =
    ap (λ (b : Bool). cond b (run_to (unwrap_or (spot_at (mirrored_topology t) c.to) (inner_spot x)) ∷ []) []) (begins_join-mirrored t c)
    ∙ ap (λ (o : Option Spot). cond (begins_join t c) (run_to (unwrap_or o (inner_spot x)) ∷ []) []) (spot_at-mirrored t c.to)
  where
    run_to : Spot → Join
    run_to to = record { at = c.at; run = record { track = c.id; from = inner_spot x; to = to } }

inner_joins-mirrored : (t : Topology) (x : Inner) → inner_joins (mirrored_topology t) (mirrored_inner x) ≡ inner_joins t x
inner_joins-mirrored t x =
    ap (λ (cs : List Conn). flat_map (begun_join (mirrored_topology t) (mirrored_inner x)) cs) (connections-mirrored x.what)
    ∙ flat_equal (begun_join (mirrored_topology t) (mirrored_inner x)) (begun_join t x) (begun_join-mirrored t x) (connections x.what)

track_joins-mirrored : (t : Topology) (track : Track) → track_joins (mirrored_topology t) (mirrored_track track) ≡ track_joins t track
track_joins-mirrored t track = flat_alike mirrored_inner (inner_joins (mirrored_topology t)) (inner_joins t) (inner_joins-mirrored t) track.inner

pub joins-mirrored : (t : Topology) → joins (mirrored_topology t) ≡ joins t
joins-mirrored t = flat_alike mirrored_track (track_joins (mirrored_topology t)) (track_joins t) (track_joins-mirrored t) t.tracks

pub join_number-mirrored : (t : Topology) (at : ℕ) → join_number (mirrored_topology t) at ≡ join_number t at
join_number-mirrored t at =
    ap (λ (n : ℕ). n + count_by (λ (j : Join). nat_lt j.at at) (joins (mirrored_topology t))) (piece_total-mirrored t)
    ∙ ap (λ (l : List Join). sum_by piece_count t.tracks + count_by (λ (j : Join). nat_lt j.at at) l) (joins-mirrored t)

pub edge_count-mirrored : (t : Topology) → edge_count (mirrored_topology t) ≡ edge_count t
edge_count-mirrored t =
    ap (λ (n : ℕ). n + length (joins (mirrored_topology t))) (piece_total-mirrored t)
    ∙ ap (λ (l : List Join). sum_by piece_count t.tracks + length l) (joins-mirrored t)

-- ---- edges beyond connections

last_piece-mirrored : (t : Topology) (k : ℕ) → last_piece (mirrored_topology t) k ≡ last_piece t k
last_piece-mirrored t k =
    piece_number-mirrored t k (option_map_or (λ (track : Track). length track.inner) (slice_get (mirrored_topology t).tracks k) 0)
    ∙ ap (piece_number t k) (inner_count t.tracks k)
  where
    inner_count : (tracks : List Track) (k : ℕ) → option_map_or (λ (track : Track). length track.inner) (slice_get (map mirrored_track tracks) k) 0
        ≡ option_map_or (λ (track : Track). length track.inner) (slice_get tracks k) 0
    inner_count [] k = refl
    inner_count (track ∷ tracks) zero = length-map track.inner mirrored_inner
    inner_count (track ∷ tracks) (suc k) = inner_count tracks k

join_of-mirrored : (t : Topology) (c : Conn) → join_of_connection (mirrored_topology t) c ≡ join_of_connection t c
join_of-mirrored t c =
    join_number-mirrored t (min c.at (joined_at (mirrored_topology t) c)) ∙ ap (λ (n : ℕ). join_number t (min c.at n)) (joined_at-mirrored t c)

edge_toward-mirrored : (t : Topology) (c : Conn) (track : ℕ) (part : Part) → edge_toward (mirrored_topology t) c track part ≡ edge_toward t c track part
edge_toward-mirrored t c track Begin = piece_number-mirrored t track 0
edge_toward-mirrored t c track End = last_piece-mirrored t track
edge_toward-mirrored t c track (Branch i) = join_of-mirrored t c
edge_toward-mirrored t c track (Incoming i) = join_of-mirrored t c
edge_toward-mirrored t c track (Outgoing i) = join_of-mirrored t c

edge_beyond-mirrored : (t : Topology) (c : Conn) → edge_beyond (mirrored_topology t) c ≡ edge_beyond t c
edge_beyond-mirrored t c = edge_toward-mirrored t c c.to.track c.to.part

-- ---- sites

end_meeting-mirrored : (t : Topology) (own : ℕ) (joined : Option Conn) →
    end_meeting (mirrored_topology t) own joined ≡ mirrored_meeting (end_meeting t own joined)
end_meeting-mirrored t own None = refl
end_meeting-mirrored t own (Some c) = ap (λ (e : ℕ). meeting.Joint (edge_no own) (edge_no e)) (edge_beyond-mirrored t c)

end_sites-mirrored : (t : Topology) (e : TrackEnd) (own own' : ℕ) → own' ≡ own → end_sites (mirrored_topology t) e own' ≡ map mirrored_site (end_sites t e own)
end_sites-mirrored t e own own' same =
    ap (λ (n : ℕ). end_sites (mirrored_topology t) e n) same
    ∙ ap (λ (m : Meeting). cond (has_node (mirrored_topology t) e) (site_of m ∷ []) []) (end_meeting-mirrored t own e.joined)
    ∙ ap (λ (b : Bool). cond b (site_of (mirrored_meeting (end_meeting t own e.joined)) ∷ []) []) (has_node-mirrored t e)
    ∙ choice (has_node t e)
  where
    site_of : Meeting → Site
    site_of m = record { id = e.id; spot = end_spot e; meets = m }

    choice : (b : Bool) → cond b (site_of (mirrored_meeting (end_meeting t own e.joined)) ∷ []) [] ≡ map mirrored_site
        (cond b (site_of (end_meeting t own e.joined) ∷ []) [])
    choice true = refl
    choice false = refl

inner_meeting-mirrored : (t : Topology) (before after : ℕ) (what : InnerKind) → inner_meeting (mirrored_topology t) before after (mirrored_kind what)
    ≡ mirrored_meeting (inner_meeting t before after what)
inner_meeting-mirrored t before after (Switch outgoing hand track_diverges conn) =
    ap (λ (e : ℕ). meeting.Switch outgoing (other_hand hand) track_diverges (edge_no before) (edge_no after) (edge_no e)) (edge_beyond-mirrored t conn)
inner_meeting-mirrored t before after (Crossing hand incoming outgoing) =
    ap (λ (e : ℕ). meeting.Crossing (other_hand hand) (edge_no before) (edge_no after) (edge_no e) (edge_no (edge_beyond (mirrored_topology t) outgoing)))
    (edge_beyond-mirrored t incoming)
    ∙ ap (λ (e : ℕ). meeting.Crossing (other_hand hand) (edge_no before) (edge_no after) (edge_no (edge_beyond t incoming)) (edge_no e))
    (edge_beyond-mirrored t outgoing)

inner_site-mirrored : (t : Topology) (k i : ℕ) (x : Inner) → inner_site (mirrored_topology t) k i (mirrored_inner x) ≡ mirrored_site (inner_site t k i x)
inner_site-mirrored t k i x =
    ap (λ (n : ℕ). site_of (inner_meeting (mirrored_topology t) n (piece_number (mirrored_topology t) k (i + 1)) (mirrored_kind x.what)))
    (piece_number-mirrored t k i)
    ∙ ap (λ (n : ℕ). site_of (inner_meeting (mirrored_topology t) (piece_number t k i) n (mirrored_kind x.what))) (piece_number-mirrored t k (i + 1))
    ∙ ap site_of (inner_meeting-mirrored t (piece_number t k i) (piece_number t k (i + 1)) x.what)
  where
    site_of : Meeting → Site
    site_of m = record { id = x.id; spot = inner_spot x; meets = m }

inner_sites-mirrored : (t : Topology) (k : ℕ) (xs : List Inner) →
    map (λ (ix : ℕ × Inner). inner_site (mirrored_topology t) k ix.0 ix.1) (enumerate_from 0 (map mirrored_inner xs)) ≡ map mirrored_site
    (map (λ (ix : ℕ × Inner). inner_site t k ix.0 ix.1) (enumerate_from 0 xs))
inner_sites-mirrored t k xs =
    ap (λ (l : List (ℕ × Inner)). map (λ (ix : ℕ × Inner). inner_site (mirrored_topology t) k ix.0 ix.1) l) (enumerate_turned mirrored_inner 0 xs)
    ∙ map_turned (λ (ix : ℕ × Inner). (ix.0, mirrored_inner ix.1)) (λ (ix : ℕ × Inner). inner_site (mirrored_topology t) k ix.0 ix.1) mirrored_site
    (λ (ix : ℕ × Inner). inner_site t k ix.0 ix.1)
    (λ ix. inner_site-mirrored t k ix.0 ix.1) (enumerate_from 0 xs)

track_sites-mirrored : (t : Topology) (k : ℕ) (track : Track) → track_sites (mirrored_topology t) k (mirrored_track track) ≡ map mirrored_site
    (track_sites t k track)
track_sites-mirrored t k track =
    let inner' = map (λ (ix : ℕ × Inner). inner_site (mirrored_topology t) k ix.0 ix.1) (enumerate_from 0 (map mirrored_inner track.inner)) in
    let inner = map (λ (ix : ℕ × Inner). inner_site t k ix.0 ix.1) (enumerate_from 0 track.inner) in
    let ending = end_sites t track.end (last_piece t k) in
    ap (λ (l : List Site). l ++ (inner' ++ end_sites (mirrored_topology t) track.end (last_piece (mirrored_topology t) k)))
    (end_sites-mirrored t track.begin (piece_number t k 0) (piece_number (mirrored_topology t) k 0) (piece_number-mirrored t k 0))
    ∙ ap (λ (l : List Site). map mirrored_site (end_sites t track.begin (piece_number t k 0)) ++ (inner' ++ l))
    (end_sites-mirrored t track.end (last_piece t k) (last_piece (mirrored_topology t) k) (last_piece-mirrored t k))
    ∙ ap (λ (l : List Site). map mirrored_site (end_sites t track.begin (piece_number t k 0)) ++ (l ++ map mirrored_site ending))
    (inner_sites-mirrored t k track.inner)
    ∙ ap (λ (l : List Site). map mirrored_site (end_sites t track.begin (piece_number t k 0)) ++ l) (sym (map-append mirrored_site inner ending))
    ∙ sym (map-append mirrored_site (end_sites t track.begin (piece_number t k 0)) (inner ++ ending))

pub sites-mirrored : (t : Topology) → sites (mirrored_topology t) ≡ map mirrored_site (sites t)
sites-mirrored t =
    ap (λ (l : List (ℕ × Track)). flat_map (λ (kt : ℕ × Track). track_sites (mirrored_topology t) kt.0 kt.1) l) (enumerate_turned mirrored_track 0 t.tracks)
    ∙ flat_turned (λ (kt : ℕ × Track). (kt.0, mirrored_track kt.1)) (λ (kt : ℕ × Track). track_sites (mirrored_topology t) kt.0 kt.1) mirrored_site
    (λ (kt : ℕ × Track). track_sites t kt.0 kt.1)
    (λ kt. track_sites-mirrored t kt.0 kt.1) (enumerate_from 0 t.tracks)

pub node_number-mirrored : (t : Topology) (at : ℕ) → node_number (mirrored_topology t) at ≡ node_number t at
node_number-mirrored t at =
    ap (λ (l : List Site). count_by (λ (s : Site). nat_lt s.spot.at at) l) (sites-mirrored t)
    ∙ count_turned mirrored_site (λ (s : Site). nat_lt s.spot.at at) (λ (s : Site). nat_lt s.spot.at at) (λ s. refl) (sites t)
