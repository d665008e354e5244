use Rattle.hint_log.specs.Slots.{AreOwnSlots}
use Rattle.hint_log.proofs.slots.Slots.new.Given as goal

abbrev pub invariant-loop-v : goal.invariant-loop-v
invariant-loop-v l = AreOwnSlots l.v l.order.items
