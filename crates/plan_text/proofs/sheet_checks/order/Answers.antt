use Rattle.std.proofs.Common.{refl, subst, sym}
use Rattle.plan_core.specs.Order.{IsOrder}
use Rattle.plan_write.specs.SheetLine.{OrderLine}
use Rattle.plan_text.specs.SheetFaults.{OrderDue}
use Rattle.plan_text.proofs.CheckLemmas.{out_of_range}
use Rattle.plan_text.proofs.sheet_checks.order.Goals as goal

pub returns-in-None : goal.returns-in-None
returns-in-None c = λ g before edition needs_drawing. (
  refl,
  out_of_range g before (OrderDue edition needs_drawing) c.args.text.now c.in-Some.rest.now
      (OrderLine c.in-Some.criteria.items) tt c.in-Some.ensures.0 c.in-Some.ensures.1
      (λ is. c.in-None.ensures (subst IsOrder (sym c.as_slice.ensures.value) is)),
)
