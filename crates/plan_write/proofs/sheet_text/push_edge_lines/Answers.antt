use Rattle.plan_write.specs.declared.edition.Edition.TheVariants.{Second}
use Rattle.plan_write.specs.SheetText.{edge_line}
use Rattle.plan_write.proofs.SheetParts.{text_more}
use Rattle.plan_write.proofs.PictureLineLemmas.{begins_more}
use Rattle.plan_write.proofs.sheet_text.push_edge_lines.Goals as goal

pub loop-e-preserved : goal.loop-e-preserved
loop-e-preserved c = text_more (edge_line Second c.args.g.now c.args.d.now) c.args.into.now.items c.loop-e.into.items c.push_edge_line.new.into.items c.loop-e.e
    c.loop-e.invariant c.in_ok-push_edge_line.ensures.ok

pub returns-clause-begins : goal.returns-clause-begins
returns-clause-begins c = (_, c.loop-e.invariant)

pub returns-in_err-push_edge_line-clause-begins : goal.returns-in_err-push_edge_line-clause-begins
returns-in_err-push_edge_line-clause-begins c = begins_more c.args.into.now.items c.loop-e.into.items c.push_edge_line.new.into.items (_, c.loop-e.invariant)
    c.push_edge_line.ensures.begins
