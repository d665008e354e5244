use Rattle.std.proofs.Common.{◌≡◌, List, length}
use Rattle.plan_write.specs.SheetLine.{SheetLine}
use Rattle.plan_text.specs.SheetFaults.{node_due}
use Rattle.plan_text.specs.SheetReading.{placed_lines, AreReadTo}
use Rattle.plan_text.proofs.sheet_reading.places.Given as goal

abbrev pub invariant-loop-n : goal.invariant-loop-n
invariant-loop-n l = (length l.places.items ≡ l.n) × ((before : List SheetLine) → AreReadTo l.g before (node_due l.edition l.g 0) l.text
    (placed_lines l.edition l.g 0 l.places.items) l.rest)
