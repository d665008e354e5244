-- From what the parts of `build` give to what it gives.
use Rattle.std.proofs.Common.{◌≡◌, ◌⊎◌, ℕ, ◌<◌, ◌≤◌, List, length, map, get_or, Some, ◌∙◌, subst, arith}
use Rattle.std.specs.Prelude.{All}
use Rattle.std.specs.List.Sorted.{IsPermutation, IsNonDecreasingBy}
use Rattle.std.proofs.lemmas.List.{length-map}
use Rattle.std.proofs.lemmas.Option.{slice_get-get_or}
use Rattle.std.proofs.lemmas.List.Sorted.{length_permutation}
use Rattle.plan_core.specs.declared.topology.Topology.{Topology}
use Rattle.plan_core.specs.Topology.{IsResolved}
use Rattle.port_graph.specs.declared.runs.Run.{Run}
use Rattle.port_graph.specs.declared.sites.Site.{Site}
use Rattle.port_graph.specs.declared.rows.EdgeRow.{EdgeRow}
use Rattle.port_graph.specs.declared.rows.NodeRow.{NodeRow}
use Rattle.port_graph.specs.declared.fault.GraphFault.{GraphFault}
use Rattle.port_graph.specs.declared.fault.GraphFault.TheVariants.{Memory}
use Rattle.port_graph.specs.Plain.{plain_edge, plain_node, plain_graph}
use Rattle.port_graph.specs.StationGraph.{IsStationGraph}
use Rattle.port_graph.specs.Sides.{edges_met}
use Rattle.port_graph.specs.Sites.{sites}
use Rattle.port_graph.specs.TopologyGraph.{edge_of, edge_among, IsForward, AllForward, IsGraphOf, IsStationGraphOf, IsGraphFault, HasFewNodes, HasFewEdges}
use Rattle.port_graph.specs.Ordered.{AreRunsOf, IsMismatchFault, nodes_among}
use Rattle.port_graph.proofs.GraphLemmas.{AreInOrder, edges_made, sites_in_order, are_edges, all_forward, is_graph, site_there, mismatch_fault}
use Rattle.port_graph.proofs.StationLemmas.{is_station}
use Rattle.port_graph.proofs.Membership.{in_contains, in_at}
use Rattle.port_graph.proofs.RunEnds.{met_run}
use Rattle.port_graph.proofs.TrackGraphLemmas.{edge_within, track_graph}

-- runs that all lead forward, the edges that they become, and the sites in order
pub record IsLaidOut (t : Topology) (runs : List Run) (edges : List EdgeRow) (ss : List Site) : Type 0 where
  pub resolved : IsResolved t
  pub few_nodes : HasFewNodes t
  pub few_edges : HasFewEdges t
  pub in_order : AreRunsOf t runs
  pub forward : AllForward t
  pub made : map plain_edge edges ≡ map (edge_of t) runs
  pub sites : AreInOrder t ss

pub laid_out : (t : Topology) (found named ss : List Site) (runs tried read : List Run) (edges : List EdgeRow) → IsResolved t → HasFewNodes t → HasFewEdges t →
    AreRunsOf t runs → tried ≡ runs → All IsForward tried → found ≡ sites t → named ≡ found → read ≡ runs → map plain_edge edges ≡ map (edge_among named) read →
    IsPermutation found ss → IsNonDecreasingBy (λ (s : Site). s.spot.at) ss → IsLaidOut t runs edges ss
laid_out t found named ss runs tried read edges resolved nodes few in_order same forward all of_named of_read made moved rise = record {
  resolved = resolved;
  few_nodes = nodes;
  few_edges = few;
  in_order = in_order;
  forward = all_forward t runs in_order (subst (All IsForward) same forward);
  made = edges_made t named runs read (map plain_edge edges) (of_named ∙ all) of_read made;
  sites = sites_in_order t found ss all moved rise;
}

pub few_sites : (t : Topology) (runs : List Run) (edges : List EdgeRow) (ss : List Site) → IsLaidOut t runs edges ss → length ss ≤ 128
few_sites t runs edges ss laid = omega (arith, length_permutation (sites t) ss laid.sites.same, laid.few_nodes)

-- the edges that meet at each site are there
pub met_in_order : (t : Topology) (runs : List Run) (edges : List EdgeRow) (ss : List Site) → IsLaidOut t runs edges ss →
    All (λ (s : Site). All (λ (e : ℕ). e < length edges) (edges_met s.meets)) ss
met_in_order t runs edges ss laid i d within j f there =
    let s = get_or ss i d in
    let e = get_or (edges_met s.meets) j f in
    let at = in_contains (sites t) s (site_there t ss laid.sites i s (slice_get-get_or ss i d within)) in
    let run = met_run t laid.resolved s e at (in_at (edges_met s.meets) j e (slice_get-get_or (edges_met s.meets) j f there)) in
    let found : e < length (map plain_edge edges) = edge_within t (map plain_edge edges) e run.run
    (are_edges t runs (map plain_edge edges) laid.in_order laid.made) run.numbered in
    omega (arith, length-map edges plain_edge)

pub laid_mismatch : (t : Topology) (runs : List Run) (edges : List EdgeRow) (ss : List Site) (fault : GraphFault) → IsLaidOut t runs edges ss →
    IsMismatchFault (map plain_edge edges) ss fault → (fault ≡ Memory) ⊎ IsGraphFault t fault
laid_mismatch t runs edges ss fault laid h =
    mismatch_fault t (map plain_edge edges) ss fault laid.resolved laid.few_nodes laid.few_edges laid.forward
    (are_edges t runs (map plain_edge edges) laid.in_order laid.made) laid.sites h

pub laid_graph : (t : Topology) (runs : List Run) (edges : List EdgeRow) (ss : List Site) (nodes : List NodeRow) → IsLaidOut t runs edges ss →
    map Some (map plain_node nodes) ≡ nodes_among (map plain_edge edges) ss → IsGraphOf t (plain_graph nodes edges)
laid_graph t runs edges ss nodes laid all =
    is_graph t (plain_graph nodes edges) ss laid.resolved (are_edges t runs (map plain_edge edges) laid.in_order laid.made) laid.sites all

pub laid_station : (t : Topology) (runs : List Run) (edges : List EdgeRow) (ss : List Site) (nodes : List NodeRow) → IsLaidOut t runs edges ss →
    map Some (map plain_node nodes) ≡ nodes_among (map plain_edge edges) ss → IsStationGraph (plain_graph nodes edges)
laid_station t runs edges ss nodes laid all =
    is_station t runs ss (plain_graph nodes edges) laid.resolved laid.few_nodes laid.few_edges laid.in_order laid.sites laid.made all
    (track_graph t (plain_graph nodes edges) laid.resolved laid.forward (laid_graph t runs edges ss nodes laid all))

pub laid_station_graph : (t : Topology) (runs : List Run) (edges : List EdgeRow) (ss : List Site) (nodes : List NodeRow) → IsLaidOut t runs edges ss →
    map Some (map plain_node nodes) ≡ nodes_among (map plain_edge edges) ss → IsStationGraphOf t (plain_graph nodes edges)
laid_station_graph t runs edges ss nodes laid all = record {
  graph = laid_graph t runs edges ss nodes laid all;
  station = laid_station t runs edges ss nodes laid all;
}
