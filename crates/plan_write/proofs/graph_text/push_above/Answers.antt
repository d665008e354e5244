use Rattle.track_order.specs.Order.{is_above}
use Rattle.plan_write.specs.GraphText.{above_line}
use Rattle.outside_io.proofs.LineLemmas.{line_more}
use Rattle.plan_write.proofs.PictureLineLemmas.{begins_more}
use Rattle.plan_write.proofs.graph_text.push_above.Goals as goal

pub loop-f-preserved : goal.loop-f-preserved
loop-f-preserved c = line_more (above_line (is_above c.args.t.now) c.args.e) c.args.into.now.items c.loop-f.into.items c.push_if_above.new.into.items c.loop-f.f
    c.loop-f.invariant c.in_ok-push_if_above.ensures.ok

pub returns-clause-begins : goal.returns-clause-begins
returns-clause-begins c = (_, c.loop-f.invariant)

pub returns-in_err-push_if_above-clause-begins : goal.returns-in_err-push_if_above-clause-begins
returns-in_err-push_if_above-clause-begins c = begins_more c.args.into.now.items c.loop-f.into.items c.push_if_above.new.into.items (_, c.loop-f.invariant)
    c.push_if_above.ensures.begins
