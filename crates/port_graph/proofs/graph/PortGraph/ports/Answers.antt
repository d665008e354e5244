use Rattle.port_graph.proofs.ColumnLemmas.{ports_there}
use Rattle.port_graph.proofs.graph.PortGraph.ports.Goals as goal

pub returns-clause-there : goal.returns-clause-there
returns-clause-there c = ports_there _ _ _ _ _ c.self.view_is c.self.invariant.station c.requires c.index.ensures
