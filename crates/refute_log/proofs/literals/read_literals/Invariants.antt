use Rattle.std.proofs.Common.{length}
use Rattle.refute_log.specs.FieldText.{IsReadTo}
use Rattle.refute_log.proofs.literals.read_literals.Given as goal

abbrev pub invariant-loop-field : goal.invariant-loop-field
invariant-loop-field l = IsReadTo l.text l.rest l.right l.literals.items

abbrev pub decreases-loop-field : goal.decreases-loop-field
decreases-loop-field l = length l.rest
