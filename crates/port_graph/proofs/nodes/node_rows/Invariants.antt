use Rattle.std.proofs.Common.{◌≡◌, ℕ, ◌<◌, ◌++◌, Some, IsSome, map, drop}
use Rattle.std.specs.Prelude.{slice_get}
use Rattle.std.specs.List.{enumerate_from}
use Rattle.port_graph.specs.declared.sites.Site.{Site}
use Rattle.port_graph.specs.Plain.{plain_edge, plain_node}
use Rattle.port_graph.specs.PortRule.{ports_of}
use Rattle.port_graph.specs.TopologyGraph.{side_at}
use Rattle.port_graph.specs.Ordered.{node_among, nodes_among}
use Rattle.port_graph.proofs.nodes.node_rows.Given as goal

abbrev pub invariant-loop-number : goal.invariant-loop-number
invariant-loop-number l = record {
  all : map Some (map plain_node l.rows.items) ++ map (node_among (map plain_edge l.edges)) (enumerate_from l.number (drop l.number l.sites)) ≡ nodes_among
      (map plain_edge l.edges) l.sites;
  before : (m : ℕ) (r : Site) → m < l.number → slice_get l.sites m ≡ Some r → IsSome (ports_of (side_at (map plain_edge l.edges) m) r.meets);
}
