use Rattle.std.proofs.Common.{ℕ, List, refl, ap, ◌∙◌, sym}
use Rattle.std.specs.Prelude.{slice_get}
use Rattle.std.proofs.lemmas.Option.{slice_get_read}
use Rattle.plan_core.specs.declared.topology.Track.{Track}
use Rattle.port_graph.specs.Sites.{track_sites}
use Rattle.port_graph.proofs.EdgeLemmas.{all_counted_over}
use Rattle.port_graph.proofs.listing.sites.Goals as goal

pub push_track_sites-requires-clause-there : goal.push_track_sites-requires-clause-there
push_track_sites-requires-clause-there c =
    ap (λ (l : List Track). slice_get l c.loop-number.number) (sym c.as_slice-track-items.ensures)
    ∙ slice_get_read c.as_slice-track-items.result.now _ _ c.track-item.result refl c.loop-number-test.true c.track-item.is

pub loop-number-preserved : goal.loop-number-preserved
loop-number-preserved c = all_counted_over (λ (kt : ℕ × Track). track_sites c.args.t.now kt.0 kt.1) _ _ _ c.as_slice-track-items.result.now c.loop-number.number
    c.track-item.result c.loop-number-test.true c.track-item.is c.loop-number.invariant c.in_ok-push_track_sites.ensures
