use Rattle.railml_faults.proofs.ChildLemmas.{Listed}
use Rattle.railml_faults.proofs.children.all_children.Given as goal

abbrev pub invariant-loop-i : goal.invariant-loop-i
invariant-loop-i l = Listed l.rows l.i l.table.items
