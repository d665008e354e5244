use Rattle.track_order.specs.Splits.{AreSplits, forks_before}
use Rattle.track_order.proofs.splitting.all_splits.Given as goal

abbrev pub invariant-loop-n : goal.invariant-loop-n
invariant-loop-n l = AreSplits l.g (forks_before l.g l.n) l.splits
