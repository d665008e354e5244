use Rattle.port_graph.specs.Columns.{columns_of}
use Rattle.port_graph.proofs.ColumnLemmas.{columns_are, only_columns, column_order}
use Rattle.port_graph.proofs.laws.columns_are_the_distinct_mileages.Goals as goal

pub returns-clause-are : goal.returns-clause-are
returns-clause-are c = columns_are

pub returns-clause-only : goal.returns-clause-only
returns-clause-only c = only_columns

pub returns-clause-order : goal.returns-clause-order
returns-clause-order c = λ g m n i j. column_order (columns_of g) i j _ _ (columns_are g).rise
