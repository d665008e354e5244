use Rattle.std.proofs.Common.{◌≡◌, length}
use Rattle.search_moved.proofs.near.former_truths.Given as goal

abbrev pub invariant-loop-k : goal.invariant-loop-k
invariant-loop-k l = length l.truths ≡ l.vars
