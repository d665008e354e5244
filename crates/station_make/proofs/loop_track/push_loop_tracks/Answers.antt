use Rattle.station_make.specs.StationText.{loop_track}
use Rattle.outside_io.proofs.LineLemmas.{line_more}
use Rattle.station_make.proofs.loop_track.push_loop_tracks.Goals as goal

pub loop-i-preserved : goal.loop-i-preserved
loop-i-preserved c = line_more loop_track c.args.into.now.items c.loop-i.into.items c.push_loop_track.new.into.items c.loop-i.i c.loop-i.invariant
    c.in_ok-push_loop_track.ensures
