use Rattle.railml_topology.proofs.OneTopologyLemmas.{one_topology}
use Rattle.railml_topology.proofs.laws.one_topology.Goals as goal

pub returns : goal.returns
returns c = one_topology
