use Rattle.plan_core.proofs.OptionFacts.{none_at}
use Rattle.plan_text.proofs.FormLemmas.{no_number, number_at}
use Rattle.plan_text.proofs.sheet_fields.next_number.Goals as goal

pub returns-in_err-field : goal.returns-in_err-field
returns-in_err-field c = none_at c.from_residual.result _ _ c.from_residual.ensures (λ n rest h. c.in_err-field.ensures _ h.2)

pub returns-in_err-number : goal.returns-in_err-number
returns-in_err-number c =
    none_at c.from_residual-in_err-number.result _ _ c.from_residual-in_err-number.ensures
    (no_number c.args.text.now c.in_ok-field.field.now c.in_ok-field.rest.now c.in_ok-field.ensures c.in_err-number.ensures)

pub returns : goal.returns
returns c = number_at c.args.text.now c.in_ok-field.field.now c.in_ok-field.rest.now c.in_ok-number.number c.in_ok-field.ensures c.in_ok-number.ensures.0
    c.in_ok-number.ensures.1
