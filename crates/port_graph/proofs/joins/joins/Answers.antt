use Rattle.port_graph.specs.Runs.{track_joins}
use Rattle.port_graph.proofs.EdgeLemmas.{all_moved_over}
use Rattle.port_graph.proofs.joins.joins.Goals as goal

pub loop-track-preserved : goal.loop-track-preserved
loop-track-preserved c = all_moved_over (track_joins c.args.t.now) _ _ _ c.as_slice-track-items.result.now c.loop-track.track-index c.track-item.result
    c.loop-track-test.true c.track-item.is c.loop-track.invariant c.in_ok-push_track_joins.ensures
