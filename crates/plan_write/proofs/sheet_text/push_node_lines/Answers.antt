use Rattle.plan_write.specs.declared.edition.Edition.TheVariants.{Second}
use Rattle.plan_write.specs.SheetText.{node_line}
use Rattle.plan_write.proofs.SheetParts.{text_more}
use Rattle.plan_write.proofs.PictureLineLemmas.{begins_more}
use Rattle.plan_write.proofs.sheet_text.push_node_lines.Goals as goal

pub loop-n-preserved : goal.loop-n-preserved
loop-n-preserved c = text_more (node_line Second c.args.g.now c.args.d.now) c.args.into.now.items c.loop-n.into.items c.push_node_line.new.into.items c.loop-n.n
    c.loop-n.invariant c.in_ok-push_node_line.ensures.ok

pub returns-clause-begins : goal.returns-clause-begins
returns-clause-begins c = (_, c.loop-n.invariant)

pub returns-in_err-push_node_line-clause-begins : goal.returns-in_err-push_node_line-clause-begins
returns-in_err-push_node_line-clause-begins c = begins_more c.args.into.now.items c.loop-n.into.items c.push_node_line.new.into.items (_, c.loop-n.invariant)
    c.push_node_line.ensures.begins
