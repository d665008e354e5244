-- Where the nodes of a topology stand, and to which of them the ends of its tracks lead.
use Rattle.std.specs.Prelude.{Bool, true, false, ◌&&◌, nat_lt, if◌then◌else◌, Option, Some, None, slice_get}
use Rattle.std.specs.Prelude.{option_and_then, unwrap_or}
use Rattle.std.specs.Option.{option_map}
use Rattle.plan_core.specs.declared.topology.Topology.{Topology}
use Rattle.plan_core.specs.declared.topology.Track.{Track}
use Rattle.plan_core.specs.declared.topology.End.{End as TrackEnd}
use Rattle.plan_core.specs.declared.topology.Inner.{Inner}
use Rattle.plan_core.specs.declared.topology.Conn.{Conn}
use Rattle.plan_core.specs.declared.topology.Place.{Place}
use Rattle.plan_core.specs.declared.topology.Part.{Part}
use Rattle.plan_core.specs.declared.topology.Part.TheVariants.{Begin, End, Branch, Incoming, Outgoing}
use Rattle.port_graph.specs.declared.runs.Spot.{Spot}

abbrev pub end_spot : TrackEnd → Spot
end_spot e = record { at = e.at; mile = e.mile }

abbrev pub inner_spot : Inner → Spot
inner_spot x = record { at = x.at; mile = x.mile }

abbrev pub spot_on : Track → Part → Option Spot
spot_on track Begin = Some (end_spot track.begin)
spot_on track End = Some (end_spot track.end)
spot_on track (Branch i) = option_map inner_spot (slice_get track.inner i)
spot_on track (Incoming i) = option_map inner_spot (slice_get track.inner i)
spot_on track (Outgoing i) = option_map inner_spot (slice_get track.inner i)

-- where the track's end, the switch or the crossing at a place stands
abbrev pub spot_at : Topology → Place → Option Spot
spot_at t p = option_and_then (λ (track : Track). spot_on track p.part) (slice_get t.tracks p.track)

abbrev pub is_track_end : Part → Bool
is_track_end Begin = true
is_track_end End = true
is_track_end (Branch i) = false
is_track_end (Incoming i) = false
is_track_end (Outgoing i) = false

-- the end is listed before what stands there
abbrev pub is_listed_before : TrackEnd → Option Spot → Bool
is_listed_before e (Some other) = nat_lt e.at other.at
is_listed_before e None = false

abbrev pub is_node : Topology → TrackEnd → Option Conn → Bool
is_node t e None = true
is_node t e (Some c) = is_track_end c.to.part && is_listed_before e (spot_at t c.to)

-- whether a track's end has a node of its own: where it is open, and of two ends that are joined to
-- each other the one that is listed first
abbrev pub has_node : Topology → TrackEnd → Bool
has_node t e = is_node t e e.joined

-- where what the end is joined to stands
abbrev pub joined_spot : Topology → TrackEnd → Option Spot
joined_spot t e = option_and_then (λ (c : Conn). spot_at t c.to) e.joined

-- the node to which a track's end leads: its own, or else that of the end, the switch or the crossing
-- to which it is joined
abbrev pub leads_to : Topology → TrackEnd → Spot
leads_to t e = if has_node t e then end_spot e else unwrap_or (joined_spot t e) (end_spot e)
