use Rattle.plan_words.proofs.OrderTextLemmas.{not_an_order, order_or_none}
use Rattle.plan_words.proofs.option_values.order_in.Goals as goal

pub returns-in-Some : goal.returns-in-Some
returns-in-Some c = order_or_none c.args.text.now c.in-Some.list.items c.new.result c.in-Some.ensures (rw (c.deref.ensures.0) at c.new.ensures)

pub returns-in-None : goal.returns-in-None
returns-in-None c = not_an_order c.args.text.now c.in-None.ensures
