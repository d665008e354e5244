use Rattle.std.proofs.Common.{length}
use Rattle.plan_core.specs.Values.{value_of}
use Rattle.log_check.specs.Counted.{HasCounted}
use Rattle.log_check.proofs.counting.caps_in.Given as goal

abbrev pub invariant-loop-text : goal.invariant-loop-text
invariant-loop-text l = HasCounted l.log l.rest (value_of l.greatest) (value_of l.numbers)

abbrev pub decreases-loop-text : goal.decreases-loop-text
decreases-loop-text l = length l.rest
