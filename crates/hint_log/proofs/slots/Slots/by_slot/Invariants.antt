use Rattle.std.proofs.Common.{take}
use Rattle.outside_io.specs.Contents.{Begins}
use Rattle.hint_log.specs.Slots.{IsInOneSlot, AreBySlot}
use Rattle.hint_log.proofs.slots.Slots.by_slot.Given as goal

abbrev pub invariant-loop-l : goal.invariant-loop-l
invariant-loop-l l = record {
  begins : Begins l.fn.self l.self;
  one : IsInOneSlot l.self;
  done : AreBySlot l.self (take l.l-index l.lits) l.by_slot.items;
}
