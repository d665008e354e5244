use Rattle.std.proofs.Common.{◌≡◌, ℕ, Option}
use Rattle.railml_faults.specs.Rows.{children}
use Rattle.railml_faults.specs.Tables.{only_of}
use Rattle.railml_faults.proofs.TableLemmas.{HasFirst}
use Rattle.railml_faults.proofs.children.only_children.Given as goal

abbrev pub invariant-loop-list : goal.invariant-loop-list
invariant-loop-list l = HasFirst (λ i (only : Option ℕ). only ≡ only_of (children l.rows i l.kind)) l.list-index l.table.items
