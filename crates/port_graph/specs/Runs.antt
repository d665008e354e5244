-- The edges of a topology: the pieces into which nodes cut its tracks, and the joins between switches
-- and crossings; and their numbers.
use Rattle.std.specs.Prelude.{ℕ, ◌+◌, nat_lt, min, not, ◌&&◌, Bool, if◌then◌else◌, List, [], ◌∷◌, ◌++◌, length, map}
use Rattle.std.specs.Prelude.{take, sum_by, count_by, flat_map, slice_get, unwrap_or}
use Rattle.std.specs.Option.{option_map, option_map_or}
use Rattle.plan_core.specs.declared.topology.Topology.{Topology}
use Rattle.plan_core.specs.declared.topology.Track.{Track}
use Rattle.plan_core.specs.declared.topology.Inner.{Inner}
use Rattle.plan_core.specs.declared.topology.Conn.{Conn}
use Rattle.plan_core.specs.declared.topology.Part.{Part}
use Rattle.plan_core.specs.declared.topology.Part.TheVariants.{Begin, End, Branch, Incoming, Outgoing}
use Rattle.plan_core.specs.Topology.{connections, connection}
use Rattle.port_graph.specs.declared.runs.Spot.{Spot}
use Rattle.port_graph.specs.declared.runs.Run.{Run}
use Rattle.port_graph.specs.declared.runs.Join.{Join}
use Rattle.port_graph.specs.Spots.{spot_at, is_track_end, inner_spot, leads_to}

-- Pieces.

-- the nodes along a track, from begin to end
abbrev pub spots_along : Topology → Track → List Spot
spots_along t track = leads_to t track.begin ∷ (map inner_spot track.inner ++ leads_to t track.end ∷ [])

-- the runs of this name, each between two neighbours
abbrev pub runs_between : List ℕ → List Spot → List Run
runs_between name [] = []
runs_between name (from ∷ []) = []
runs_between name (from ∷ to ∷ rest) = record { track = name; from = from; to = to } ∷ runs_between name (to ∷ rest)

abbrev pub track_pieces : Topology → Track → List Run
track_pieces t track = runs_between track.id (spots_along t track)

-- the pieces track by track, each from begin to end; this is the order of their numbers
abbrev pub pieces_of_tracks : Topology → List Run
pieces_of_tracks t = flat_map (track_pieces t) t.tracks

-- how many pieces a track has: one more than its switches and crossings
abbrev pub piece_count : Track → ℕ
piece_count track = length track.inner + 1

-- the number of piece i, from 0, of track k
abbrev pub piece_number : Topology → ℕ → ℕ → ℕ
piece_number t k i = sum_by piece_count (take k t.tracks) + i

-- Joins.

-- the file place of the connection to which a connection leads
abbrev pub joined_at : Topology → Conn → ℕ
joined_at t c = unwrap_or (option_map (λ (other : Conn). other.at) (connection t c.to)) c.at

-- a connection begins a join where it leads to a connection of a switch or crossing that is listed
-- later
abbrev pub begins_join : Topology → Conn → Bool
begins_join t c = not (is_track_end c.to.part) && nat_lt c.at (joined_at t c)

-- the join that a connection of this switch or crossing begins, if it does
abbrev pub begun_join : Topology → Inner → Conn → List Join
begun_join t x c =
    if begins_join t c
    then record {
      at = c.at;
      run = record { track = c.id; from = inner_spot x; to = unwrap_or (spot_at t c.to) (inner_spot x) };
    } ∷ []
    else []

abbrev pub inner_joins : Topology → Inner → List Join
inner_joins t x = flat_map (begun_join t x) (connections x.what)

abbrev pub track_joins : Topology → Track → List Join
track_joins t track = flat_map (inner_joins t) track.inner

-- the joins, each by the connection that is listed first, and named by its id
abbrev pub joins : Topology → List Join
joins t = flat_map (track_joins t) t.tracks

-- the number of the join whose first connection stands at this place of the file: it comes after all
-- pieces and after the joins that stand before
abbrev pub join_number : Topology → ℕ → ℕ
join_number t at = sum_by piece_count t.tracks + count_by (λ (j : Join). nat_lt j.at at) (joins t)

-- how many edges there are
abbrev pub edge_count : Topology → ℕ
edge_count t = sum_by piece_count t.tracks + length (joins t)

-- The edge on the other side of a connection.

-- the number of a track's last piece
abbrev pub last_piece : Topology → ℕ → ℕ
last_piece t k = piece_number t k (option_map_or (λ (track : Track). length track.inner) (slice_get t.tracks k) 0)

-- the number of the join that a connection begins or ends
abbrev pub join_of_connection : Topology → Conn → ℕ
join_of_connection t c = join_number t (min c.at (joined_at t c))

abbrev pub edge_toward : Topology → Conn → ℕ → Part → ℕ
edge_toward t c track Begin = piece_number t track 0
edge_toward t c track End = last_piece t track
edge_toward t c track (Branch i) = join_of_connection t c
edge_toward t c track (Incoming i) = join_of_connection t c
edge_toward t c track (Outgoing i) = join_of_connection t c

-- the edge along which a connection leads away from its switch, its crossing or its track's end
abbrev pub edge_beyond : Topology → Conn → ℕ
edge_beyond t c = edge_toward t c c.to.track c.to.part
