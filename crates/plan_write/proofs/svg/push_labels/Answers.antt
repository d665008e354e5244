use Rattle.outside_io.proofs.LineLemmas.{line_more}
use Rattle.plan_write.specs.SvgText.{label}
use Rattle.plan_write.proofs.PictureLineLemmas.{begins_more}
use Rattle.plan_write.proofs.svg.push_labels.Goals as goal

pub loop-n-preserved : goal.loop-n-preserved
loop-n-preserved c = line_more (label c.args.g.now c.args.d.now) c.args.into.now.items c.loop-n.into.items c.push_label.new.into.items c.loop-n.n
    c.loop-n.invariant c.in_ok-push_label.ensures.ok

pub returns-clause-begins : goal.returns-clause-begins
returns-clause-begins c = (_, c.loop-n.invariant)

pub returns-in_err-push_label-clause-begins : goal.returns-in_err-push_label-clause-begins
returns-in_err-push_label-clause-begins c = begins_more c.args.into.now.items c.loop-n.into.items c.push_label.new.into.items (_, c.loop-n.invariant)
    c.push_label.ensures.begins
