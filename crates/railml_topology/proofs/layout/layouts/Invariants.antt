use Rattle.railml_topology.proofs.LayoutLemmas.{LaidUpTo}
use Rattle.railml_topology.proofs.layout.layouts.Given as goal

abbrev pub invariant-loop-i : goal.invariant-loop-i
invariant-loop-i l = LaidUpTo l.rows l.i l.list.items
