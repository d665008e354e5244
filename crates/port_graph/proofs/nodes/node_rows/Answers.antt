use Rattle.std.proofs.Common.{map}
use Rattle.std.proofs.lemmas.Result.{err_from_is_err_and}
use Rattle.port_graph.specs.Plain.{plain_edge}
use Rattle.port_graph.specs.Ordered.{node_among}
use Rattle.port_graph.proofs.EdgeLemmas.{counted_over}
use Rattle.port_graph.proofs.NodeLemmas.{match_more, first_mismatch}
use Rattle.port_graph.proofs.nodes.node_rows.Goals as goal

pub loop-number-preserved : goal.loop-number-preserved
loop-number-preserved c = record {
  all = counted_over (node_among (map plain_edge c.args.edges.now)) _ _ _ c.args.sites.now c.loop-number.number c.index-sites-number.result
      c.loop-number-test.true c.index-sites-number.is c.loop-number.invariant.all c.in_ok-push_node.ensures.added;
  before = match_more (map plain_edge c.args.edges.now) c.args.sites.now c.loop-number.number c.index-sites-number.result c.loop-number-test.true
      c.index-sites-number.is c.loop-number.invariant.before c.in_ok-push_node.ensures.lies;
}

pub returns-in_err-push_node-clause-fault : goal.returns-in_err-push_node-clause-fault
returns-in_err-push_node-clause-fault c =
    let p = err_from_is_err_and c.from_residual.result c.from_residual.ensures.1 in
    rw (p.1, p.2) (first_mismatch (map plain_edge c.args.edges.now) c.args.sites.now c.loop-number.number c.index-sites-number.result _ c.loop-number-test.true
    c.index-sites-number.is c.loop-number.invariant.before c.in_err-push_node.ensures.fault)
