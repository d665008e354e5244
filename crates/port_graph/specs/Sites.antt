-- The nodes of a topology, each with the edges that meet there; and their numbers.
use Rattle.std.specs.Prelude.{ℕ, ◌+◌, nat_lt, if◌then◌else◌, List, [], ◌∷◌, ◌++◌, map, count_by, Option, Some, None}
use Rattle.std.specs.List.{flat_map, enumerate_from}
use Rattle.plan_core.specs.declared.numbers.EdgeNo.{EdgeNo}
use Rattle.plan_core.specs.declared.topology.Topology.{Topology}
use Rattle.plan_core.specs.declared.topology.Track.{Track}
use Rattle.plan_core.specs.declared.topology.End.{End as TrackEnd}
use Rattle.plan_core.specs.declared.topology.Inner.{Inner}
use Rattle.plan_core.specs.declared.topology.InnerKind.{InnerKind}
use Rattle.plan_core.specs.declared.topology.InnerKind.TheVariants.{Switch, Crossing}
use Rattle.plan_core.specs.declared.topology.Conn.{Conn}
use Rattle.port_graph.specs.declared.sites.Site.{Site}
use Rattle.port_graph.specs.declared.sites.Meeting.{Meeting}
use Rattle.port_graph.specs.declared.sites.Meeting.TheVariants as meeting
use Rattle.port_graph.specs.Spots.{has_node, end_spot, inner_spot}
use Rattle.port_graph.specs.Runs.{piece_number, last_piece, edge_beyond}

abbrev pub edge_no : ℕ → EdgeNo
edge_no e = record { 0 = e }

-- what meets at the node of a track's end with this edge
abbrev pub end_meeting : Topology → ℕ → Option Conn → Meeting
end_meeting t own None = meeting.End (edge_no own)
end_meeting t own (Some c) = meeting.Joint (edge_no own) (edge_no (edge_beyond t c))

-- the node of a track's end with this edge, if it has one of its own
abbrev pub end_sites : Topology → TrackEnd → ℕ → List Site
end_sites t e own =
    if has_node t e
    then record { id = e.id; spot = end_spot e; meets = end_meeting t own e.joined } ∷ []
    else []

-- what meets at a switch or crossing between these two pieces of its track
abbrev pub inner_meeting : Topology → ℕ → ℕ → InnerKind → Meeting
inner_meeting t before after (Switch outgoing hand track_diverges conn) =
    meeting.Switch outgoing hand track_diverges (edge_no before) (edge_no after) (edge_no (edge_beyond t conn))
inner_meeting t before after (Crossing hand incoming outgoing) =
    meeting.Crossing hand (edge_no before) (edge_no after) (edge_no (edge_beyond t incoming))
    (edge_no (edge_beyond t outgoing))

-- the node of track k's switch or crossing i, both from 0
abbrev pub inner_site : Topology → ℕ → ℕ → Inner → Site
inner_site t k i x = record {
  id = x.id;
  spot = inner_spot x;
  meets = inner_meeting t (piece_number t k i) (piece_number t k (i + 1)) x.what;
}

-- the nodes of track k's switches and crossings
abbrev pub inner_sites : Topology → ℕ → Track → List Site
inner_sites t k track = map (λ (ix : ℕ × Inner). inner_site t k ix.0 ix.1) (enumerate_from 0 track.inner)

-- the nodes of track k
abbrev pub track_sites : Topology → ℕ → Track → List Site
track_sites t k track =
    end_sites t track.begin (piece_number t k 0)
    ++ (inner_sites t k track ++ end_sites t track.end (last_piece t k))

-- the nodes, track by track
abbrev pub sites : Topology → List Site
sites t = flat_map (λ (kt : ℕ × Track). track_sites t kt.0 kt.1) (enumerate_from 0 t.tracks)

-- how many of these nodes stand before a place of the file
abbrev pub number_among : List Site → ℕ → ℕ
number_among ss at = count_by (λ (s : Site). nat_lt s.spot.at at) ss

-- the number of the node whose element stands at this place of the file: how many nodes stand before it
abbrev pub node_number : Topology → ℕ → ℕ
node_number t at = number_among (sites t) at
