use Rattle.plan_write.proofs.PictureLineLemmas.{begins_more}
use Rattle.plan_write.proofs.sheet_text.push_points.Goals as goal

pub returns-in_err-push_point-clause-begins : goal.returns-in_err-push_point-clause-begins
returns-in_err-push_point-clause-begins c = begins_more c.args.into.now.items c.loop-p.into.items c.push_point.new.into.items c.loop-p.invariant.begins
    c.push_point.ensures.begins
