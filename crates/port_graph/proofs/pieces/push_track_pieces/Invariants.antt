use Rattle.std.proofs.Common.{◌≡◌, ◌∷◌, ◌++◌, [], map, drop}
use Rattle.port_graph.specs.Spots.{inner_spot, leads_to}
use Rattle.port_graph.specs.Runs.{runs_between, track_pieces}
use Rattle.port_graph.proofs.pieces.push_track_pieces.Given as goal

-- what is there and what is left are all
abbrev pub invariant-loop-inner : goal.invariant-loop-inner
invariant-loop-inner l = l.runs.items ++ runs_between l.track.id (l.from ∷ (map inner_spot (drop l.inner-index l.inner-items) ++ leads_to l.t l.track.end ∷ []))
    ≡ l.fn.runs.items ++ track_pieces l.t l.track
