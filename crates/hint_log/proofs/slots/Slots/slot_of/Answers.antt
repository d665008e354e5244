use Rattle.std.proofs.Common.{◌≡◌, ◌∙◌, sym, arith}
use Rattle.std.specs.Prelude.{Some, None}
use Rattle.std.specs.Ordering.{nat_cmp}
use Rattle.std.specs.BTreeMap.{get}
use Rattle.hint_log.proofs.SlotTableLemmas.{in_one_slot, one_slot_of, own_slot, found_slot, found_small, slots_taken, slots_same}
use Rattle.hint_log.proofs.slots.Slots.slot_of.Goals as goal

pub returns-then-v-self-clause-slot : goal.returns-then-v-self-clause-slot
returns-then-v-self-clause-slot c =
    own_slot c.self.inside.vars c.self.inside.order.items c.args.self.now c.self.inside.beyond c.args.v c.self.invariant c.self.view_is c.requires
    c.if-v-self.true

pub returns-then-v-self-clause-one : goal.returns-then-v-self-clause-one
returns-then-v-self-clause-one c = one_slot_of c.self.inside.vars c.self.inside.order.items c.args.self.now c.self.inside.beyond c.self.invariant c.self.view_is

pub returns-in-Some-clause-slot : goal.returns-in-Some-clause-slot
returns-in-Some-clause-slot c =
    let found : get nat_cmp c.self.inside.beyond c.args.v ≡ Some c.in-Some.slot = sym c.get.ensures.value ∙ sym c.copied.ensures ∙ c.in-Some.is in
    found_slot c.self.inside.vars c.self.inside.order.items c.args.self.now c.self.inside.beyond c.args.v c.in-Some.slot c.self.invariant c.self.view_is found

pub returns-in-Some-clause-small : goal.returns-in-Some-clause-small
returns-in-Some-clause-small c =
    let found : get nat_cmp c.self.inside.beyond c.args.v ≡ Some c.in-Some.slot = sym c.get.ensures.value ∙ sym c.copied.ensures ∙ c.in-Some.is in
    found_small c.self.inside.vars c.self.inside.order.items c.self.inside.beyond c.args.v c.in-Some.slot c.self.invariant found

pub returns-in-Some-clause-one : goal.returns-in-Some-clause-one
returns-in-Some-clause-one c = one_slot_of c.self.inside.vars c.self.inside.order.items c.args.self.now c.self.inside.beyond c.self.invariant c.self.view_is

pub invariant_of-self : goal.invariant_of-self
invariant_of-self c = slots_same c.self.inside.vars c.self.inside.order.items c.take_slot.new.order.items c.self.inside.beyond c.take_slot.new.beyond
    c.self.invariant
    c.in_err-slot.ensures.order_stays c.in_err-slot.ensures.beyond_stays

pub invariant_of-self-2 : goal.invariant_of-self-2
invariant_of-self-2 c =
    let none : get nat_cmp c.self.inside.beyond c.args.v ≡ None = sym c.get.ensures.value ∙ sym c.copied.ensures ∙ c.in_default.is in
    slots_taken c.self.inside.vars c.self.inside.order.items c.take_slot.new.order.items c.self.inside.beyond c.take_slot.new.beyond c.args.v c.self.invariant
    c.if-v-self.false none (omega (arith, c.len.ensures, c.if-len.false)) c.in_ok-slot.ensures.order c.in_ok-slot.ensures.beyond

pub returns-clause-one : goal.returns-clause-one
returns-clause-one c =
    let none : get nat_cmp c.self.inside.beyond c.args.v ≡ None = sym c.get.ensures.value ∙ sym c.copied.ensures ∙ c.in_default.is in
    in_one_slot c.self.inside.vars c.take_slot.new.order.items c.take_slot.new.beyond
    (slots_taken c.self.inside.vars c.self.inside.order.items c.take_slot.new.order.items c.self.inside.beyond c.take_slot.new.beyond c.args.v c.self.invariant
    c.if-v-self.false none (omega (arith, c.len.ensures, c.if-len.false)) c.in_ok-slot.ensures.order c.in_ok-slot.ensures.beyond)
