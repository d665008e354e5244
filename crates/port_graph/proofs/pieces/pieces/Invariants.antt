use Rattle.std.proofs.Common.{◌≡◌, ◌++◌, drop}
use Rattle.std.specs.List.{flat_map}
use Rattle.port_graph.specs.Runs.{track_pieces, pieces_of_tracks}
use Rattle.port_graph.proofs.pieces.pieces.Given as goal

abbrev pub invariant-loop-track : goal.invariant-loop-track
invariant-loop-track l = l.runs.items ++ flat_map (track_pieces l.t) (drop l.track-index l.track-items) ≡ pieces_of_tracks l.t
