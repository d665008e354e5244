use Rattle.std.proofs.Common.{◌+◌}
use Rattle.railml_faults.specs.Telling.{HasNoneBelow}
use Rattle.railml_faults.proofs.finding.first_finding.Given as goal

abbrev pub invariant-loop-what : goal.invariant-loop-what
invariant-loop-what l = HasNoneBelow l.rows (l.what-index + 1)
