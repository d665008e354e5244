use Rattle.std.proofs.Common.{◌≡◌, ◌+◌, drop}
use Rattle.std.specs.Prelude.{sum_by}
use Rattle.port_graph.specs.Runs.{piece_count}
use Rattle.port_graph.proofs.counts.count_pieces.Given as goal

abbrev pub invariant-loop-track : goal.invariant-loop-track
invariant-loop-track l = l.total + sum_by piece_count (drop l.track-index l.track-items) ≡ sum_by piece_count l.t.tracks
