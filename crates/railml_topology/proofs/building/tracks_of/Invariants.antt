use Rattle.std.proofs.Common.{take}
use Rattle.std.specs.List.{AllZip}
use Rattle.railml_topology.specs.Resolved.{IsTrackOf}
use Rattle.railml_topology.proofs.building.tracks_of.Given as goal

abbrev pub invariant-loop-layout : goal.invariant-loop-layout
invariant-loop-layout l = AllZip (IsTrackOf l.site.rows.now l.site.layouts.now) (take l.layout-index l.site.layouts.now) l.tracks
