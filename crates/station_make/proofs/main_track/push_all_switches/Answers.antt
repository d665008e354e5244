use Rattle.station_make.specs.StationText.{switches}
use Rattle.outside_io.proofs.LineLemmas.{line_more}
use Rattle.station_make.proofs.main_track.push_all_switches.Goals as goal

pub loop-i-preserved : goal.loop-i-preserved
loop-i-preserved c = line_more (switches c.args.n) c.args.into.now.items c.loop-i.into.items c.push_switches.new.into.items c.loop-i.i c.loop-i.invariant
    c.in_ok-push_switches.ensures
