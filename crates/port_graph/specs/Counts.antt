-- How many nodes a topology has.
use Rattle.std.specs.Prelude.{ℕ, ◌+◌, if◌then◌else◌, length}
use Rattle.plan_core.specs.declared.topology.Topology.{Topology}
use Rattle.plan_core.specs.declared.topology.Track.{Track}
use Rattle.plan_core.specs.declared.topology.End.{End as TrackEnd}
use Rattle.port_graph.specs.Spots.{has_node}

abbrev pub end_count : Topology → TrackEnd → ℕ
end_count t e = if has_node t e then 1 else 0

-- how many nodes a track has
abbrev pub node_count : Topology → Track → ℕ
node_count t track = end_count t track.begin + (length track.inner + end_count t track.end)
