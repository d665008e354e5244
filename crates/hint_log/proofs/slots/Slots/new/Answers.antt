use Rattle.hint_log.proofs.SlotTableLemmas.{own_none, own_more, own_all, own_first}
use Rattle.hint_log.proofs.slots.Slots.new.Goals as goal

pub loop-v-init : goal.loop-v-init
loop-v-init c = own_none c.in_ok-order.order.items c.in_ok-order.ensures.items

pub loop-v-preserved : goal.loop-v-preserved
loop-v-preserved c = rw c.in_ok-push.ensures.items (own_more c.loop-v.v c.loop-v.order.items c.loop-v.invariant)

pub invariant_of-result : goal.invariant_of-result
invariant_of-result c = own_first c.args.vars c.loop-v.order.items c.new.result c.requires
    (own_all c.loop-v.v c.args.vars c.loop-v.order.items c.loop-v.auto.v-end c.loop-v-test.false c.loop-v.invariant) c.new.ensures.empty

pub returns : goal.returns
returns c = own_all c.loop-v.v c.args.vars c.loop-v.order.items c.loop-v.auto.v-end c.loop-v-test.false c.loop-v.invariant
