use Rattle.std.proofs.Common.{◌≡◌, ◌++◌, drop}
use Rattle.log_check.specs.HintExpected.{bounds_of}
use Rattle.log_check.proofs.hint_expecting.bounds_in.Given as goal

abbrev pub invariant-loop-part : goal.invariant-loop-part
invariant-loop-part l = l.bounds.items ++ bounds_of (drop l.part-index l.parts) ≡ bounds_of l.parts
