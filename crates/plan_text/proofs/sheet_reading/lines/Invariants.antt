use Rattle.std.proofs.Common.{◌≡◌, List, length}
use Rattle.plan_write.specs.SheetLine.{SheetLine}
use Rattle.plan_text.specs.SheetFaults.{edge_due}
use Rattle.plan_text.specs.SheetReading.{drawn_lines, AreReadTo}
use Rattle.plan_text.proofs.sheet_reading.lines.Given as goal

abbrev pub invariant-loop-e : goal.invariant-loop-e
invariant-loop-e l = (length l.lines.items ≡ l.e) × ((before : List SheetLine) → AreReadTo l.g before (edge_due l.edition l.g 0) l.text
    (drawn_lines l.edition l.g 0 l.lines.items) l.rest)
