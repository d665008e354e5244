use Rattle.std.proofs.Common.{◌≡◌, ◌≤◌, length, take}
use Rattle.std.specs.Prelude.{flat_map}
use Rattle.hint_log.specs.Checked.{clauses_learnt}
use Rattle.run_check.proofs.writing.count_kept.Given as goal

abbrev pub invariant-loop-i : goal.invariant-loop-i
invariant-loop-i l = record { count_is : l.count ≡ length (flat_map clauses_learnt (take l.i l.lines)); within : l.count ≤ l.i }
