use Rattle.plan_write.proofs.PictureLineLemmas.{begins_more}
use Rattle.plan_write.proofs.svg.push_escaped.Goals as goal

pub returns-in_err-push_escaped_byte-clause-begins : goal.returns-in_err-push_escaped_byte-clause-begins
returns-in_err-push_escaped_byte-clause-begins c = begins_more c.args.into.now.items c.loop-b.into.items c.push_escaped_byte.new.into.items
    c.loop-b.invariant.begins c.push_escaped_byte.ensures.begins
