use Rattle.std.proofs.Common.{ℕ, ◌<◌, get_or}
use Rattle.track_order.specs.declared.splitting.Split.{Split}
use Rattle.track_order.specs.Splits.{IsSplitBy}
use Rattle.track_order.proofs.splitting.are_split.Given as goal

abbrev pub invariant-loop-split : goal.invariant-loop-split
invariant-loop-split l = (k : ℕ) (d : Split) → k < l.split-index → IsSplitBy (get_or l.splits k d) l.e l.f → ⊥
