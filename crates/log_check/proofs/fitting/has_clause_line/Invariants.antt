use Rattle.std.proofs.Common.{◌≡◌, [], take}
use Rattle.refute_log.specs.Log.{clause_lines}
use Rattle.log_check.proofs.fitting.has_clause_line.Given as goal

abbrev pub invariant-loop-i : goal.invariant-loop-i
invariant-loop-i l = clause_lines (take l.i l.lines) ≡ []
