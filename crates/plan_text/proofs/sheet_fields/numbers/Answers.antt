use Rattle.plan_core.proofs.OptionFacts.{none_at}
use Rattle.plan_text.proofs.FieldLemmas.{of_numbers, no_value, no_more, no_end, full_is}
use Rattle.plan_text.proofs.sheet_fields.numbers.Goals as goal

pub returns-in_err-number : goal.returns-in_err-number
returns-in_err-number c =
    let l = c.loop-after in
    none_at c.from_residual.result _ _ c.from_residual.ensures
    (λ ns rest small few. no_value of_numbers c.args.text.now l.numbers.items l.rest.now c.in-Some.after.now c.front_field.result.0.now
    c.front_field.result.1.now c.loop-after.invariant.small l.invariant.ends l.invariant.spelled c.in-Some.ensures c.front_field.ensures.one
    c.front_field.ensures.ends c.front_field.ensures.spelled c.in_err-number.ensures ns rest small)

pub returns-then-is_full : goal.returns-then-is_full
returns-then-is_full c =
    let l = c.loop-after in
    λ ns rest small few. no_more of_numbers c.args.text.now l.numbers.items l.rest.now c.in-Some.after.now 11 c.loop-after.invariant.small l.invariant.ends
    l.invariant.spelled c.in-Some.ensures (full_is _ 11 _ c.is_full.ensures.value c.if-is_full.true) ns rest small few

pub returns-in_err-left : goal.returns-in_err-left
returns-in_err-left c =
    let l = c.loop-after in
    none_at c.from_residual-in_err-left.result _ _ c.from_residual-in_err-left.ensures
    (λ ns rest small few. no_end of_numbers c.args.text.now l.numbers.items l.rest.now c.loop-after.invariant.small l.invariant.ends l.invariant.spelled
    c.in_default.ensures c.in_err-left.ensures ns rest small)
