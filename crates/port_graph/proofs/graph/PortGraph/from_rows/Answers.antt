use Rattle.port_graph.proofs.ColumnLemmas.{rows_kept}
use Rattle.port_graph.proofs.graph.PortGraph.from_rows.Goals as goal

pub invariant_of-result : goal.invariant_of-result
invariant_of-result c =
    rows_kept _ _ _ _ c.requires
    (rw c.deref.ensures.value at c.in_ok-columns.ensures.count)
    (rw c.deref.ensures.value at c.in_ok-columns.ensures.places)
