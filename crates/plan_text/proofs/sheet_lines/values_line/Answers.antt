use Rattle.std.proofs.Common.{[], ◌∷◌, sym, ◌∙◌, arith}
use Rattle.std.specs.Prelude.{codes}
use Rattle.plan_core.proofs.OptionFacts.{none_at}
use Rattle.plan_text.proofs.LineOnce.{tells_values, numbers_once}
use Rattle.plan_text.proofs.sheet_lines.values_line.Goals as goal

pub returns-in_err-numbers : goal.returns-in_err-numbers
returns-in_err-numbers c =
    none_at c.from_residual.result _ _ c.from_residual.ensures
    (λ line begins. let t = tells_values c.args.text.now line begins in
    let v = t.values in
    c.in_err-numbers.ensures (v.height ∷ v.bends ∷ v.diagonal ∷ v.width ∷ []) t.behind t.form (omega arith) t.spelled)

pub returns-in_err-height : goal.returns-in_err-height
returns-in_err-height c =
    none_at c.from_residual-in_err-height.result _ _ c.from_residual-in_err-height.ensures
    (λ line begins. let t = tells_values c.args.text.now line begins in
    let v = t.values in
    c.in_err-height.ensures v.height v.bends v.diagonal v.width (c.as_slice.ensures.value
    ∙ (numbers_once (codes "values") c.in_ok-numbers.numbers.items (v.height ∷ v.bends ∷ v.diagonal ∷ v.width ∷ []) c.in_ok-numbers.rest.now t.behind
    c.in_ok-numbers.ensures.0 t.form (sym c.in_ok-numbers.ensures.1 ∙ t.spelled)).values))
