use Rattle.std.proofs.Common.{length, refl, arith}
use Rattle.std.proofs.lemmas.Option.{slice_get_read}
use Rattle.railml_topology.proofs.PlaceLemmas.{placed_more, placed_all}
use Rattle.railml_topology.proofs.places.places_of.Goals as goal

pub loop-track-preserved : goal.loop-track-preserved
loop-track-preserved c =
    placed_more c.args.rows.now c.args.layouts.now c.loop-track.track c.index-layouts-track.result c.loop-track.table.items c.put_track.new.table.items
    c.loop-track-test.true
    (slice_get_read c.args.layouts.now (length c.args.layouts.now) c.loop-track.track c.index-layouts-track.result refl c.loop-track-test.true
    c.index-layouts-track.is)
    c.loop-track.invariant c.put_track.ensures

pub returns : goal.returns
returns c = placed_all c.args.rows.now c.args.layouts.now c.loop-track.track c.loop-track.table.items (omega arith) c.loop-track.invariant
