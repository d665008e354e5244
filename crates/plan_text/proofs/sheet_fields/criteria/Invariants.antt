use Rattle.std.proofs.Common.{length}
use Rattle.plan_text.specs.SheetReading.{AreCriteriaTo}
use Rattle.plan_text.proofs.sheet_fields.criteria.Given as goal

abbrev pub invariant-loop-after : goal.invariant-loop-after
invariant-loop-after l = AreCriteriaTo l.text l.criteria.items l.rest

abbrev pub decreases-loop-after : goal.decreases-loop-after
decreases-loop-after l = length l.rest
