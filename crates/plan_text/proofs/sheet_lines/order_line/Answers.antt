use Rattle.plan_text.proofs.FormLemmas.{no_order}
use Rattle.plan_text.proofs.sheet_lines.order_line.Goals as goal

pub returns-then-is_empty : goal.returns-then-is_empty
returns-then-is_empty c = no_order c.args.text.now c.in_ok-behind.field-0.now c.in_ok-criteria.rest.now c.in_ok-criteria.criteria.items c.is_empty.result
    c.in_ok-behind.ensures c.in_ok-criteria.ensures c.is_empty.ensures c.if-is_empty.true
