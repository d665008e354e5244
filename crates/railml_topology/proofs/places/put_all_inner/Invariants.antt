use Rattle.railml_topology.specs.Places.{Adds, IsOnFirst}
use Rattle.railml_topology.proofs.places.put_all_inner.Given as goal

abbrev pub invariant-loop-number : goal.invariant-loop-number
invariant-loop-number l = Adds (IsOnFirst l.rows l.track l.inner l.number) l.fn.table.items l.table.items
