use Rattle.std.proofs.Common.{◌≡◌, ℕ, ◌<◌, get_or}
use Rattle.std.specs.Prelude.{vec_len}
use Rattle.port_graph.specs.Runs.{piece_number}
use Rattle.port_graph.proofs.numbers.first_pieces.Given as goal

abbrev pub invariant-loop-track : goal.invariant-loop-track
invariant-loop-track l = record {
  count : vec_len l.firsts ≡ l.track-index;
  next : l.next ≡ piece_number l.t l.track-index 0;
  each : (k : ℕ) → k < l.track-index → get_or l.firsts.items k 0 ≡ piece_number l.t k 0;
}
