use Rattle.std.proofs.Common.{◌≡◌, ◌++◌}
use Rattle.log_check.proofs.HintExpectingLemmas.{bounds_from}
use Rattle.log_check.proofs.hint_expecting.add_bounds.Given as goal

-- the bounds so far, with those of what is left, are all of them
abbrev pub invariant-loop-i : goal.invariant-loop-i
invariant-loop-i l = l.bounds.items ++ bounds_from l.criterion l.last l.cap l.i ≡ l.fn.bounds.items ++ bounds_from l.criterion l.last l.cap 0
