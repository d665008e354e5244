use Rattle.std.proofs.Common.{[], ◌∷◌, sym, ◌∙◌, arith}
use Rattle.plan_core.proofs.OptionFacts.{none_at}
use Rattle.plan_text.proofs.LineOnce.{numbers_once}
use Rattle.plan_text.proofs.sheet_lines.one_number.Goals as goal

pub returns-in_err-numbers : goal.returns-in_err-numbers
returns-in_err-numbers c =
    none_at c.from_residual.result _ _ c.from_residual.ensures
    (λ n rest small e. c.in_err-numbers.ensures (n ∷ []) rest (small, tt) (omega arith) e)

pub returns-in_err-n : goal.returns-in_err-n
returns-in_err-n c =
    none_at c.from_residual-in_err-n.result _ _ c.from_residual-in_err-n.ensures
    (λ n rest small e. c.in_err-n.ensures n (c.as_slice.ensures.value ∙ (numbers_once c.args.front.now c.in_ok-numbers.numbers.items (n ∷ [])
    c.in_ok-numbers.rest.now rest c.in_ok-numbers.ensures.0 (small, tt) (sym c.in_ok-numbers.ensures.1 ∙ e)).values))
