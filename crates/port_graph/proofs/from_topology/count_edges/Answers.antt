use Rattle.std.proofs.Common.{length, ap, arith}
use Rattle.port_graph.proofs.NumberLemmas.{edges_few}
use Rattle.port_graph.proofs.from_topology.count_edges.Goals as goal

pub count_pieces-requires : goal.count_pieces-requires
count_pieces-requires c = omega (arith, edges_few c.args.t.now, c.requires.resolved.few)

pub overflow_cast-result : goal.overflow_cast-result
overflow_cast-result c = omega (arith, edges_few c.args.t.now, c.requires.resolved.few, ap length c.requires.joins)

pub overflow_add-result : goal.overflow_add-result
overflow_add-result c = omega (arith, edges_few c.args.t.now, c.requires.resolved.few, ap length c.requires.joins, c.count_pieces.ensures)
