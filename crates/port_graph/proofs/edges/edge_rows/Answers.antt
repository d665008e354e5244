use Rattle.port_graph.specs.TopologyGraph.{edge_among}
use Rattle.port_graph.proofs.EdgeLemmas.{moved_over}
use Rattle.port_graph.proofs.edges.edge_rows.Goals as goal

pub loop-run-preserved : goal.loop-run-preserved
loop-run-preserved c = moved_over (edge_among c.args.sites.now) _ _ _ c.args.runs.now c.loop-run.run-index c.run-item.result c.loop-run-test.true c.run-item.is
    c.loop-run.invariant c.in_ok-push_edge_row.ensures
