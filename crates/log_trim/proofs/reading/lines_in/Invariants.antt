use Rattle.std.proofs.Common.{length}
use Rattle.log_trim.proofs.ReadingLemmas.{HasReadTo}
use Rattle.log_trim.proofs.reading.lines_in.Given as goal

abbrev pub invariant-loop-rest : goal.invariant-loop-rest
invariant-loop-rest l = HasReadTo l.log l.list l.rest

abbrev pub decreases-loop-rest : goal.decreases-loop-rest
decreases-loop-rest l = length l.rest
