use Rattle.port_graph.proofs.TurnedColumns.{columns_of-turned, opposite_column}
use Rattle.port_graph.proofs.laws.columns_count_from_the_other_end.Goals as goal

pub returns-clause-columns : goal.returns-clause-columns
returns-clause-columns c = columns_of-turned

pub returns-clause-node : goal.returns-clause-node
returns-clause-node c = opposite_column
