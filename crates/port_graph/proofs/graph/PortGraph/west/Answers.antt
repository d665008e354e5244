use Rattle.port_graph.proofs.ColumnLemmas.{west_there}
use Rattle.port_graph.proofs.graph.PortGraph.west.Goals as goal

pub returns-clause-there : goal.returns-clause-there
returns-clause-there c = west_there _ _ _ _ _ c.self.view_is c.self.invariant.station c.requires c.index.ensures
