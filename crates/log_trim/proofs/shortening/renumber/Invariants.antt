use Rattle.std.proofs.Common.{◌≡◌, take}
use Rattle.log_trim.specs.Shortened.{renumbered}
use Rattle.log_trim.proofs.shortening.renumber.Given as goal

abbrev pub invariant-loop-n : goal.invariant-loop-n
invariant-loop-n l = l.new ≡ renumbered l.numbers (take l.n-index l.n-items)
