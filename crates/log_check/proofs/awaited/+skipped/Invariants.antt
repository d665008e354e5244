use Rattle.std.proofs.Common.{length}
use Rattle.log_check.proofs.awaited.+skipped.Given as goal

abbrev pub decreases-skipped : goal.decreases-skipped
decreases-skipped l = length l.awaited.now.parts.now
