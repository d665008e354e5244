use Rattle.port_graph.proofs.ColumnLemmas.{sorted_once}
use Rattle.port_graph.proofs.columns.put_in_order.Goals as goal

pub returns : goal.returns
returns c = sorted_once _ _ _ c.sort_unstable.ensures.permutation c.sort_unstable.ensures.sorted c.dedup.ensures.filtered
