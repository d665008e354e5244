use Rattle.std.proofs.lemmas.Option.{slice_get_within}
use Rattle.port_graph.proofs.ColumnLemmas.{column_of_node}
use Rattle.port_graph.proofs.graph.PortGraph.column_of.Goals as goal

pub returns-clause-place : goal.returns-clause-place
returns-clause-place c =
    column_of_node _ _ _ _ _ _ c.self.view_is c.self.invariant.places c.requires c.index.ensures

pub returns-clause-there : goal.returns-clause-there
returns-clause-there c =
    slice_get_within _ _ _ (column_of_node _ _ _ _ _ _ c.self.view_is c.self.invariant.places c.requires c.index.ensures)
