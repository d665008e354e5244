use Rattle.std.proofs.Common.{◌∙◌, ◌++◌, ◌∷◌, [], List, ℕ, ap, sym, append_assoc}
use Rattle.std.proofs.lemmas.List.{append-nil}
use Rattle.cnf_core.specs.Lit.{Literal, literal}
use Rattle.hint_log.proofs.SlotTableLemmas.{one_slot_of}
use Rattle.hint_log.proofs.SlotLemmas.{none_by_slot_yet, one_more_by_slot}
use Rattle.hint_log.proofs.slots.Slots.by_slot.Goals as goal

pub loop-l-init : goal.loop-l-init
loop-l-init c = record {
  begins = ([], sym (append-nil c.args.self.now));
  one = one_slot_of c.self.inside.vars c.self.inside.order.items c.args.self.now c.self.inside.beyond c.self.invariant c.self.view_is;
  done = none_by_slot_yet c.args.self.now c.in_ok-by_slot.by_slot.items c.in_ok-by_slot.ensures.items;
}

pub loop-l-preserved : goal.loop-l-preserved
loop-l-preserved c =
    let inv = c.loop-l.invariant in
    let grown = c.in_ok-slot.ensures.begins in
    record {
      begins = (
        inv.begins.0 ++ grown.0,
        grown.1 ∙ ap (λ (s : List ℕ). s ++ grown.0) inv.begins.1 ∙ append_assoc c.args.self.now inv.begins.0 grown.0,
      );
      one = c.in_ok-slot.ensures.one;
      done = one_more_by_slot c.loop-l.self c.slot_of.new.self c.args.lits.now c.loop-l.l-index c.l-item.result c.loop-l.by_slot.items c.push.new.self.items
          c.in_ok-slot.slot c.loop-l-test.true c.l-item.is grown inv.done (rw c.var.ensures.value at c.in_ok-slot.ensures.slot)
          (c.in_ok-push.ensures.items ∙ ap (λ (k : Literal). c.loop-l.by_slot.items ++ k ∷ [])
          (c.new.ensures ∙ ap (literal c.in_ok-slot.slot) c.positive.ensures));
    }
