use Rattle.std.proofs.Common.{◌≡◌, ◌≤◌, length, take}
use Rattle.std.specs.Prelude.{flat_map}
use Rattle.refute_log.specs.Log.{given}
use Rattle.log_trim.proofs.hint_trimming.count_given.Given as goal

abbrev pub invariant-loop-i : goal.invariant-loop-i
invariant-loop-i l = record { count_is : l.count ≡ length (flat_map given (take l.i l.lines)); within : l.count ≤ l.i }
