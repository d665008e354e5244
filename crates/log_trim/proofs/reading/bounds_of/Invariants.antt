use Rattle.std.proofs.Common.{◌≡◌, take}
use Rattle.std.specs.Prelude.{flat_map}
use Rattle.refute_check.specs.Lacking.{told_bound}
use Rattle.log_trim.proofs.reading.bounds_of.Given as goal

abbrev pub invariant-loop-i : goal.invariant-loop-i
invariant-loop-i l = l.bounds.items ≡ flat_map told_bound (take l.i l.lines)
