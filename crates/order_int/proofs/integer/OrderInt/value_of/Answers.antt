use Rattle.std.proofs.Common.{◌≡◌, ◌+◌, false, subst, sym, ap, ◌∙◌}
use Rattle.cnf_core.specs.Assignment.{truth, SatisfiesAll}
use Rattle.cnf_core.specs.Truths.{assignment}
use Rattle.order_int.specs.IntVars.{IntVars, int_vars}
use Rattle.order_int.specs.OrderInt.{int_clauses, Reads}
use Rattle.order_int.proofs.IntLemmas.{value_read}
use Rattle.order_int.proofs.integer.OrderInt.value_of.Goals as goal

pub returns-then-not-holds : goal.returns-then-not-holds
returns-then-not-holds c =
    let i = c.self.inside in
    let v = assignment c.args.m.now in
    let e : v (i.first.0 + c.loop-k.k) ≡ false = sym (ap (truth v) c.new.ensures) ∙ sym c.holds.ensures ∙ c.if-not-holds.true in
    subst (λ (j : IntVars). Reads v j (i.low + c.loop-k.k)) c.self.view_is
    (value_read v (int_vars i.low i.high i.first.0) c.loop-k.k c.self.invariant (subst (λ (j : IntVars). SatisfiesAll v (int_clauses j)) (sym c.self.view_is)
    c.requires.model) c.loop-k-test.true c.loop-k.invariant e)
