use Rattle.std.proofs.Common.{arith}
use Rattle.track_order.proofs.splitting.add_splits.Goals as goal

pub add_legs-requires-clause-straight : goal.add_legs-requires-clause-straight
add_legs-requires-clause-straight c = c.in-Switch.ensures.there.there 1 0 (omega arith)

pub add_legs-requires-clause-diverging : goal.add_legs-requires-clause-diverging
add_legs-requires-clause-diverging c = c.in-Switch.ensures.there.there 2 0 (omega arith)
