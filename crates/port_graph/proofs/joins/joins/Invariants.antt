use Rattle.std.proofs.Common.{◌≡◌, ◌++◌, drop}
use Rattle.std.specs.List.{flat_map}
use Rattle.port_graph.specs.Runs.{track_joins, joins}
use Rattle.port_graph.proofs.joins.joins.Given as goal

abbrev pub invariant-loop-track : goal.invariant-loop-track
invariant-loop-track l = l.joins.items ++ flat_map (track_joins l.t) (drop l.track-index l.track-items) ≡ joins l.t
