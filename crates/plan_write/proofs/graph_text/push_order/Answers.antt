use Rattle.track_order.specs.Order.{is_above}
use Rattle.plan_write.specs.GraphText.{above_lines}
use Rattle.outside_io.proofs.LineLemmas.{line_more}
use Rattle.plan_write.proofs.PictureLineLemmas.{begins_more}
use Rattle.plan_write.proofs.graph_text.push_order.Goals as goal

pub loop-e-preserved : goal.loop-e-preserved
loop-e-preserved c = line_more (above_lines (is_above c.args.t.now) c.args.t.now.edges) c.args.into.now.items c.loop-e.into.items c.push_above.new.into.items
    c.loop-e.e c.loop-e.invariant c.in_ok-push_above.ensures.ok

pub returns-clause-begins : goal.returns-clause-begins
returns-clause-begins c = (_, c.loop-e.invariant)

pub returns-in_err-push_above-clause-begins : goal.returns-in_err-push_above-clause-begins
returns-in_err-push_above-clause-begins c = begins_more c.args.into.now.items c.loop-e.into.items c.push_above.new.into.items (_, c.loop-e.invariant)
    c.push_above.ensures.begins
