use Rattle.plan_write.proofs.PictureLineLemmas.{begins_more}
use Rattle.plan_write.proofs.svg.push_further_points.Goals as goal

pub returns-in_err-push_further_point-clause-begins : goal.returns-in_err-push_further_point-clause-begins
returns-in_err-push_further_point-clause-begins c = begins_more c.args.into.now.items c.loop-p.into.items c.push_further_point.new.into.items
    c.loop-p.invariant.begins c.push_further_point.ensures.begins
