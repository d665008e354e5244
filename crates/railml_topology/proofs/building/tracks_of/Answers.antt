use Rattle.std.proofs.Common.{◌+◌, List, take, length, refl, subst, sym}
use Rattle.std.specs.List.{AllZip}
use Rattle.std.proofs.lemmas.Option.{slice_get_read}
use Rattle.plan_core.specs.declared.topology.Track.{Track as Line}
use Rattle.railml_topology.specs.Resolved.{IsTrackOf}
use Rattle.railml_topology.proofs.BuildLemmas.{zip_taken, layout_track}
use Rattle.railml_topology.proofs.building.tracks_of.Goals as goal

pub track_of-requires-clause-a_track : goal.track_of-requires-clause-a_track
track_of-requires-clause-a_track c =
    layout_track c.args.site.now.rows.now c.args.site.now.layouts.now c.requires.laid_out c.loop-layout.layout-index c.layout-item.result
    (slice_get_read c.args.site.now.layouts.now (length c.args.site.now.layouts.now) c.loop-layout.layout-index c.layout-item.result refl
    c.loop-layout-test.true c.layout-item.is)

pub loop-layout-preserved : goal.loop-layout-preserved
loop-layout-preserved c =
    subst (λ (v : List Line). AllZip (IsTrackOf c.args.site.now.rows.now c.args.site.now.layouts.now)
    (take (c.loop-layout.layout-index + 1) c.args.site.now.layouts.now) v) (sym c.in_ok-push.ensures.ok)
    (zip_taken (IsTrackOf c.args.site.now.rows.now c.args.site.now.layouts.now) c.args.site.now.layouts.now c.loop-layout.tracks c.loop-layout.layout-index
    c.layout-item.result c.in_ok-track_of.field-0 c.loop-layout-test.true
    c.layout-item.is c.loop-layout.invariant c.in_ok-track_of.ensures)
