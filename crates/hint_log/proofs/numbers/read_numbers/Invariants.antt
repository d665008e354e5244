use Rattle.std.proofs.Common.{length}
use Rattle.hint_log.specs.Parts.{AreHintsReadTo}
use Rattle.hint_log.proofs.numbers.read_numbers.Given as goal

abbrev pub invariant-loop-field : goal.invariant-loop-field
invariant-loop-field l = AreHintsReadTo l.text l.rest l.right l.numbers.items

abbrev pub decreases-loop-field : goal.decreases-loop-field
decreases-loop-field l = length l.rest
