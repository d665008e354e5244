use Rattle.plan_core.proofs.OptionFacts.{none_at}
use Rattle.plan_text.proofs.FieldLemmas.{of_criteria, any_criteria, no_value, no_more, no_end, full_is}
use Rattle.plan_text.proofs.sheet_fields.criteria.Goals as goal

pub returns-in_err-criterion : goal.returns-in_err-criterion
returns-in_err-criterion c =
    let l = c.loop-after in
    none_at c.from_residual.result _ _ c.from_residual.ensures
    (λ cs rest few. no_value of_criteria c.args.text.now l.criteria.items l.rest.now c.in-Some.after.now c.front_field.result.0.now c.front_field.result.1.now
    (any_criteria c.loop-after.criteria.items) l.invariant.ends l.invariant.spelled c.in-Some.ensures c.front_field.ensures.one c.front_field.ensures.ends
    c.front_field.ensures.spelled (λ d h. c.in_err-criterion.ensures d) cs rest (any_criteria cs))

pub returns-then-is_full : goal.returns-then-is_full
returns-then-is_full c =
    let l = c.loop-after in
    λ cs rest few. no_more of_criteria c.args.text.now l.criteria.items l.rest.now c.in-Some.after.now 4 (any_criteria c.loop-after.criteria.items)
    l.invariant.ends l.invariant.spelled c.in-Some.ensures (full_is _ 4 _ c.is_full.ensures.value c.if-is_full.true) cs rest (any_criteria cs) few

pub returns-in_err-left : goal.returns-in_err-left
returns-in_err-left c =
    let l = c.loop-after in
    none_at c.from_residual-in_err-left.result _ _ c.from_residual-in_err-left.ensures
    (λ cs rest few. no_end of_criteria c.args.text.now l.criteria.items l.rest.now (any_criteria c.loop-after.criteria.items) l.invariant.ends
    l.invariant.spelled c.in_default.ensures c.in_err-left.ensures cs rest (any_criteria cs))
