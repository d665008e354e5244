use Rattle.port_graph.proofs.ColumnLemmas.{columns_are, few_columns}
use Rattle.port_graph.proofs.graph.PortGraph.columns.Goals as goal

pub returns-clause-limit : goal.returns-clause-limit
returns-clause-limit c = few_columns _ _ _ _ c.self.view_is c.self.invariant.count

pub returns-clause-are_columns : goal.returns-clause-are_columns
returns-clause-are_columns c = columns_are _
