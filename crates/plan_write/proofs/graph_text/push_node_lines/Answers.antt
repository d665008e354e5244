use Rattle.plan_write.specs.GraphText.{node_line}
use Rattle.outside_io.proofs.LineLemmas.{line_more}
use Rattle.plan_write.proofs.PictureLineLemmas.{begins_more}
use Rattle.plan_write.proofs.graph_text.push_node_lines.Goals as goal

pub loop-n-preserved : goal.loop-n-preserved
loop-n-preserved c = line_more (node_line c.args.g.now) c.args.into.now.items c.loop-n.into.items c.push_node_line.new.into.items c.loop-n.n c.loop-n.invariant
    c.in_ok-push_node_line.ensures.ok

pub returns-clause-begins : goal.returns-clause-begins
returns-clause-begins c = (_, c.loop-n.invariant)

pub returns-in_err-push_node_line-clause-begins : goal.returns-in_err-push_node_line-clause-begins
returns-in_err-push_node_line-clause-begins c = begins_more c.args.into.now.items c.loop-n.into.items c.push_node_line.new.into.items (_, c.loop-n.invariant)
    c.push_node_line.ensures.begins
