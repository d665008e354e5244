use Rattle.plan_text.proofs.ReadingLemmas.{fails}
use Rattle.plan_text.proofs.SheetAgain.{read_body, end_fault_later}
use Rattle.plan_text.proofs.sheet_reading.body.Goals as goal

pub returns-in_err-d : goal.returns-in_err-d
returns-in_err-d c =
    fails c.from_residual.result _ _ c.in_err-d.field-0.0 c.from_residual.ensures.1 (λ before ordered none. c.in_err-d.ensures before)

pub returns-in_err-ending : goal.returns-in_err-ending
returns-in_err-ending c =
    fails c.from_residual-in_err-ending.result _ _ c.in_err-ending.field-0.0 c.from_residual-in_err-ending.ensures.1
    (end_fault_later c.args.edition c.args.g.now c.args.text.now c.in_ok-d.rest.now c.args.order.now c.in_ok-d.d c.in_err-ending.field-0.0 c.in_ok-d.ensures.0
    c.in_ok-d.ensures.1 c.in_err-ending.ensures)

pub returns : goal.returns
returns c = (
  c.in_ok-d.ensures.0,
  c.in_ok-ending.ensures.0,
  read_body c.args.edition c.args.g.now c.args.text.now c.in_ok-d.rest.now c.args.order.now c.in_ok-d.d c.in_ok-ending.ending c.in_ok-d.ensures.0
      c.in_ok-d.ensures.1 c.in_ok-ending.ensures.1,
)
