use Rattle.plan_core.proofs.OptionFacts.{none_at}
use Rattle.plan_text.proofs.FormLemmas.{no_name, name_at}
use Rattle.plan_text.proofs.sheet_fields.next_name.Goals as goal

pub returns-in_err-name : goal.returns-in_err-name
returns-in_err-name c = none_at c.from_residual.result _ _ c.from_residual.ensures (λ name rest h. c.in_err-name.ensures _ h.2)

pub returns-then-is_empty : goal.returns-then-is_empty
returns-then-is_empty c = no_name c.args.text.now c.in_ok-name.name.now c.in_ok-name.rest.now c.is_empty.result c.in_ok-name.ensures c.is_empty.ensures
    c.if-is_empty.true

pub returns : goal.returns
returns c = name_at c.args.text.now c.in_ok-name.name.now c.in_ok-name.rest.now c.is_empty.result c.in_ok-name.ensures c.is_empty.ensures c.if-is_empty.false
