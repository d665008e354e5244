use Rattle.std.proofs.Common.{◌≡◌, ℕ, Option, Some, slice_get}
use Rattle.railml_read.specs.declared.rows.Elem.{Elem}
use Rattle.railml_faults.specs.Tables.{IsTargetOf}
use Rattle.railml_faults.proofs.TableLemmas.{HasFirst}
use Rattle.railml_faults.proofs.references.targets.Given as goal

abbrev pub invariant-loop-row : goal.invariant-loop-row
invariant-loop-row l = HasFirst (λ i (target : Option ℕ). (row : Elem) → slice_get l.rows i ≡ Some row → IsTargetOf l.rows row target) l.row-index l.table.items
