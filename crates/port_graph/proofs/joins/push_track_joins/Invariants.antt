use Rattle.std.proofs.Common.{◌≡◌, ◌++◌, drop}
use Rattle.std.specs.List.{flat_map}
use Rattle.port_graph.specs.Runs.{inner_joins, track_joins}
use Rattle.port_graph.proofs.joins.push_track_joins.Given as goal

abbrev pub invariant-loop-inner : goal.invariant-loop-inner
invariant-loop-inner l = l.joins.items ++ flat_map (inner_joins l.t) (drop l.inner-index l.inner-items) ≡ l.fn.joins.items ++ track_joins l.t l.track
