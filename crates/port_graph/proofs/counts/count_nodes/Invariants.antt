use Rattle.std.proofs.Common.{◌≡◌, ◌+◌, length, drop}
use Rattle.std.specs.Prelude.{sum_by}
use Rattle.port_graph.specs.Counts.{node_count}
use Rattle.port_graph.specs.Sites.{sites}
use Rattle.port_graph.proofs.counts.count_nodes.Given as goal

abbrev pub invariant-loop-track : goal.invariant-loop-track
invariant-loop-track l = l.total + sum_by (node_count l.t) (drop l.track-index l.track-items) ≡ length (sites l.t)
