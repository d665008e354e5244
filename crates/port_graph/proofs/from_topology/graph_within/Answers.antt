use Rattle.std.proofs.Common.{List, map, subst}
use Rattle.std.proofs.lemmas.Result.{err_from_is_err_and}
use Rattle.port_graph.specs.declared.runs.Run.{Run}
use Rattle.port_graph.specs.declared.sites.Site.{Site}
use Rattle.port_graph.specs.declared.rows.EdgeRow.{EdgeRow}
use Rattle.port_graph.specs.declared.fault.GraphFault.{GraphFault}
use Rattle.port_graph.specs.Plain.{plain_edge}
use Rattle.port_graph.specs.Ordered.{IsLevelFault, IsMismatchFault}
use Rattle.port_graph.proofs.GraphLemmas.{level_fault}
use Rattle.port_graph.proofs.BuildLemmas.{IsLaidOut, laid_out, few_sites, met_in_order, laid_mismatch, laid_station, laid_station_graph}
use Rattle.port_graph.proofs.from_topology.graph_within.Goals as goal

pub returns-in_err-check_forward-clause-fault : goal.returns-in_err-check_forward-clause-fault
returns-in_err-check_forward-clause-fault c =
    let p = err_from_is_err_and c.from_residual-in_err-check_forward.result c.from_residual-in_err-check_forward.ensures.1 in
    let fault : GraphFault = c.in_err-check_forward.field-0.0 in
    let told : IsLevelFault c.in_ok-runs.runs.items fault = subst (λ (runs : List Run). IsLevelFault runs fault) c.deref.ensures.value
    c.in_err-check_forward.ensures.fault in
    rw (p.1, p.2) (level_fault c.args.t.now c.in_ok-runs.runs.items fault c.in_ok-runs.ensures c.requires.nodes c.requires.edges told)

pub node_rows-requires-clause-few : goal.node_rows-requires-clause-few
node_rows-requires-clause-few c =
    let laid : IsLaidOut c.args.t.now c.in_ok-runs.runs.items c.in_ok-edges.edges.items c.order_sites.new.sites.items =
    laid_out _ _ _ _ _ _ _ _ c.requires.resolved c.requires.nodes c.requires.edges c.in_ok-runs.ensures c.deref.ensures.value
    c.in_ok-check_forward.ensures.forward c.in_ok-sites.ensures.sites c.deref-2.ensures.value c.deref-3.ensures.value c.in_ok-edges.ensures
    c.order_sites.ensures.same c.order_sites.ensures.rise in
    rw c.deref-5.ensures.value (few_sites _ _ _ _ laid)

pub node_rows-requires-clause-there : goal.node_rows-requires-clause-there
node_rows-requires-clause-there c =
    let laid : IsLaidOut c.args.t.now c.in_ok-runs.runs.items c.in_ok-edges.edges.items c.order_sites.new.sites.items =
    laid_out _ _ _ _ _ _ _ _ c.requires.resolved c.requires.nodes c.requires.edges c.in_ok-runs.ensures c.deref.ensures.value
    c.in_ok-check_forward.ensures.forward c.in_ok-sites.ensures.sites c.deref-2.ensures.value c.deref-3.ensures.value c.in_ok-edges.ensures
    c.order_sites.ensures.same c.order_sites.ensures.rise in
    rw (c.deref-5.ensures.value, c.deref-4.ensures.value) (met_in_order _ _ _ _ laid)

pub returns-in_err-nodes-clause-fault : goal.returns-in_err-nodes-clause-fault
returns-in_err-nodes-clause-fault c =
    let laid : IsLaidOut c.args.t.now c.in_ok-runs.runs.items c.in_ok-edges.edges.items c.order_sites.new.sites.items =
    laid_out _ _ _ _ _ _ _ _ c.requires.resolved c.requires.nodes c.requires.edges c.in_ok-runs.ensures c.deref.ensures.value
    c.in_ok-check_forward.ensures.forward c.in_ok-sites.ensures.sites c.deref-2.ensures.value c.deref-3.ensures.value c.in_ok-edges.ensures
    c.order_sites.ensures.same c.order_sites.ensures.rise in
    let p = err_from_is_err_and c.from_residual-in_err-nodes.result c.from_residual-in_err-nodes.ensures.1 in
    let fault : GraphFault = c.in_err-nodes.field-0.0 in
    let edges = subst (λ (es : List EdgeRow). IsMismatchFault (map plain_edge es) c.deref-5.result.now fault) c.deref-4.ensures.value
    c.in_err-nodes.ensures.fault in
    let told = subst (λ (ss : List Site). IsMismatchFault (map plain_edge c.in_ok-edges.edges.items) ss fault) c.deref-5.ensures.value edges in
    rw (p.1, p.2) (laid_mismatch _ _ _ _ fault laid told)

pub from_rows-requires : goal.from_rows-requires
from_rows-requires c =
    let laid : IsLaidOut c.args.t.now c.in_ok-runs.runs.items c.in_ok-edges.edges.items c.order_sites.new.sites.items =
    laid_out _ _ _ _ _ _ _ _ c.requires.resolved c.requires.nodes c.requires.edges c.in_ok-runs.ensures c.deref.ensures.value
    c.in_ok-check_forward.ensures.forward c.in_ok-sites.ensures.sites c.deref-2.ensures.value c.deref-3.ensures.value c.in_ok-edges.ensures
    c.order_sites.ensures.same c.order_sites.ensures.rise in
    laid_station _ _ _ _ _ laid (rw (← c.deref-5.ensures.value, ← c.deref-4.ensures.value) c.in_ok-nodes.ensures.nodes)

pub returns-clause-graph : goal.returns-clause-graph
returns-clause-graph c =
    let laid : IsLaidOut c.args.t.now c.in_ok-runs.runs.items c.in_ok-edges.edges.items c.order_sites.new.sites.items =
    laid_out _ _ _ _ _ _ _ _ c.requires.resolved c.requires.nodes c.requires.edges c.in_ok-runs.ensures c.deref.ensures.value
    c.in_ok-check_forward.ensures.forward c.in_ok-sites.ensures.sites c.deref-2.ensures.value c.deref-3.ensures.value c.in_ok-edges.ensures
    c.order_sites.ensures.same c.order_sites.ensures.rise in
    rw c.in_ok-graph.ensures (laid_station_graph _ _ _ _ _ laid (rw (← c.deref-5.ensures.value, ← c.deref-4.ensures.value) c.in_ok-nodes.ensures.nodes))
