use Rattle.std.proofs.Common.{◌+◌, ◌≤◌, length, arith}
use Rattle.plan_core.specs.Topology.{elements}
use Rattle.port_graph.specs.Counts.{node_count}
use Rattle.port_graph.proofs.FromFile.{counted_more}
use Rattle.port_graph.proofs.counts.count_nodes.Goals as goal

pub node_count-total-requires : goal.node_count-total-requires
node_count-total-requires c = let h : c.loop-track.total + node_count c.args.t.now c.track-item.result ≤ length (elements c.args.t.now) = counted_more
    c.args.t.now c.as_slice-track-items.result.now c.loop-track.track-index _ _ (omega arith) c.track-item.is c.loop-track.invariant in omega
    (arith, c.requires)

pub overflow_add-total : goal.overflow_add-total
overflow_add-total c = let h : c.loop-track.total + node_count c.args.t.now c.track-item.result ≤ length (elements c.args.t.now) = counted_more c.args.t.now
    c.as_slice-track-items.result.now c.loop-track.track-index _ _ (omega arith) c.track-item.is c.loop-track.invariant in omega
    (arith, c.requires, c.node_count-total.ensures)
