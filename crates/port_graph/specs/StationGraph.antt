-- What every track graph of a station is, whatever the station.
use Rattle.std.specs.Prelude.{◌≢◌, ◌≤◌, length, All, AllPairs}
use Rattle.plan_core.specs.declared.limits.TheConstants.{MAX_NODES, MAX_EDGES}
use Rattle.plan_core.specs.Topology.{IsId, IsMileage}
use Rattle.plan_core.specs.Graph.{Graph, Node, Edge, IsTrackGraph}

-- a track graph of at most 128 nodes and 160 edges, whose nodes have names of their own, and whose names
-- and mileages are such as a file may have
pub record IsStationGraph (g : Graph) : Type 0 where
  pub track_graph : IsTrackGraph g
  pub few_nodes : length g.nodes ≤ MAX_NODES
  pub few_edges : length g.edges ≤ MAX_EDGES
  pub names : All (λ (n : Node). IsId n.name) g.nodes
  pub names_differ : AllPairs (λ (m n : Node). m.name ≢ n.name) g.nodes
  pub track_names : All (λ (e : Edge). IsId e.track) g.edges
  pub mileages : All (λ (n : Node). IsMileage n.mileage) g.nodes
