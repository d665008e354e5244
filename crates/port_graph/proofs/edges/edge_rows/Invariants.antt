use Rattle.std.proofs.Common.{◌≡◌, ◌++◌, map, drop}
use Rattle.port_graph.specs.Plain.{plain_edge}
use Rattle.port_graph.specs.TopologyGraph.{edge_among}
use Rattle.port_graph.proofs.edges.edge_rows.Given as goal

abbrev pub invariant-loop-run : goal.invariant-loop-run
invariant-loop-run l = map plain_edge l.rows.items ++ map (edge_among l.sites) (drop l.run-index l.runs) ≡ map (edge_among l.sites) l.runs
