use Rattle.std.proofs.Common.{take}
use Rattle.log_trim.specs.Shortened.{Uses}
use Rattle.log_trim.proofs.shortening.use_all.Given as goal

abbrev pub invariant-loop-n : goal.invariant-loop-n
invariant-loop-n l = Uses (take l.n-index l.n-items) l.fn.used l.used
