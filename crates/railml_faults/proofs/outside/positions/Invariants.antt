use Rattle.std.proofs.Common.{◌≡◌, Option, Some, slice_get}
use Rattle.plan_core.specs.declared.numbers.Micro.{Micro}
use Rattle.railml_read.specs.declared.rows.Elem.{Elem}
use Rattle.railml_faults.specs.Tables.{IsPositionOf}
use Rattle.railml_faults.proofs.TableLemmas.{HasFirst}
use Rattle.railml_faults.proofs.outside.positions.Given as goal

abbrev pub invariant-loop-row : goal.invariant-loop-row
invariant-loop-row l = HasFirst (λ i (position : Option Micro). (row : Elem) → slice_get l.rows i ≡ Some row → IsPositionOf row position) l.row-index
    l.table.items
