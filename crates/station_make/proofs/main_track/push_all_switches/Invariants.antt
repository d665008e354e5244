use Rattle.std.specs.Prelude.{◌≡◌, ◌++◌, flat_map}
use Rattle.std.specs.List.{range_with_len}
use Rattle.station_make.specs.StationText.{switches}
use Rattle.station_make.proofs.main_track.push_all_switches.Given as goal

abbrev pub invariant-loop-i : goal.invariant-loop-i
invariant-loop-i l = l.into.items ≡ l.fn.into.items ++ flat_map (switches l.n) (range_with_len 0 l.i)
