use Rattle.std.proofs.Common.{rules}
use Rattle.log_check.proofs.HintExpectingLemmas.{bounds_from, bounds_pushed}
use Rattle.std.proofs.Common.{◌++◌}
use Rattle.log_check.proofs.hint_expecting.add_bounds.Goals as goal

pub loop-i-preserved : goal.loop-i-preserved
loop-i-preserved c =
    bounds_pushed c.args.criterion c.args.last c.args.cap c.loop-i.i c.new.result c.loop-i.bounds.items c.push.new.self.items
    (c.args.bounds.now.items ++ bounds_from c.args.criterion c.args.last c.args.cap 0) (search rules) c.new.ensures
    c.in_ok-push.ensures.items c.loop-i.invariant
