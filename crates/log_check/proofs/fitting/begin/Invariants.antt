use Rattle.std.proofs.Common.{◌≡◌, ◌++◌, take}
use Rattle.refute_log.specs.Log.{clause_lines}
use Rattle.log_check.specs.Awaited.{awaited_lines, IsAwaited}
use Rattle.log_check.proofs.fitting.begin.Given as goal

abbrev pub invariant-loop-i : goal.invariant-loop-i
invariant-loop-i l = IsAwaited l.awaited × (awaited_lines l.all ≡ clause_lines (take l.i l.lines) ++ awaited_lines l.awaited)
