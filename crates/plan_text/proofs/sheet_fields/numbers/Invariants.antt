use Rattle.std.proofs.Common.{length}
use Rattle.plan_text.specs.SheetReading.{AreNumbersTo}
use Rattle.plan_text.proofs.sheet_fields.numbers.Given as goal

abbrev pub invariant-loop-after : goal.invariant-loop-after
invariant-loop-after l = AreNumbersTo l.text l.numbers.items l.rest

abbrev pub decreases-loop-after : goal.decreases-loop-after
decreases-loop-after l = length l.rest
