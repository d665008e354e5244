use Rattle.std.specs.Prelude.{◌≡◌, ◌++◌, flat_map}
use Rattle.std.specs.List.{range_with_len}
use Rattle.station_make.specs.StationText.{loop_track}
use Rattle.station_make.proofs.loop_track.push_loop_tracks.Given as goal

abbrev pub invariant-loop-i : goal.invariant-loop-i
invariant-loop-i l = l.into.items ≡ l.fn.into.items ++ flat_map loop_track (range_with_len 0 l.i)
