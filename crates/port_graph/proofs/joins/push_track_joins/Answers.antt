use Rattle.port_graph.specs.Runs.{inner_joins}
use Rattle.port_graph.proofs.EdgeLemmas.{all_moved_over}
use Rattle.port_graph.proofs.joins.push_track_joins.Goals as goal

pub loop-inner-preserved : goal.loop-inner-preserved
loop-inner-preserved c = all_moved_over (inner_joins c.args.t.now) _ _ _ c.as_slice-inner-items.result.now c.loop-inner.inner-index c.inner-item.result
    c.loop-inner-test.true c.inner-item.is c.loop-inner.invariant c.in_ok-push_inner_joins.ensures
