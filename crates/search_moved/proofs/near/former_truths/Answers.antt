use Rattle.std.proofs.Common.{length, ◌∙◌, ap, subst, arith}
use Rattle.plan_core.specs.Graph.{Graph}
use Rattle.plan_core.specs.Grid.{IsGrid}
use Rattle.port_graph.specs.StationGraph.{IsStationGraph}
use Rattle.edge_shape.specs.EdgeVars.{node_ints}
use Rattle.drawing_cnf.specs.Encoding.{encoded_vars}
use Rattle.search_moved.proofs.StartLemmas.{node_same, node_there}
use Rattle.search_moved.proofs.near.former_truths.Goals as goal

pub put_nearest-requires : goal.put_nearest-requires
put_nearest-requires c =
    let e = c.args.encoded.now in
    record {
      there = node_there e (length c.loop-k.truths) c.loop-k.k (node_ints c.node.result.x c.node.result.y)
          (subst IsStationGraph c.graph.ensures c.nodes-end.ensures.station) (subst IsGrid c.grid.ensures c.width.ensures.is_grid)
          c.requires.whole c.requires.bounds (let n = c.loop-k.invariant in let le = c.requires.there in omega (arith, n, le))
          (let lt = c.loop-k-test.true in let end = c.nodes-end.ensures.value ∙ ap (λ (g : Graph). length g.nodes) c.graph.ensures in omega (arith, lt, end))
          (node_same c.node.result ((encoded_vars e).node c.loop-k.k) c.node.ensures.x c.node.ensures.y);
    }
