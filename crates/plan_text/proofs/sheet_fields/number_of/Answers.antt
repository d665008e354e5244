use Rattle.std.proofs.Common.{arith}
use Rattle.plan_core.proofs.OptionFacts.{none_at}
use Rattle.plan_text.proofs.sheet_fields.number_of.Goals as goal

pub returns-in_err-number : goal.returns-in_err-number
returns-in_err-number c =
    none_at c.from_residual.result _ _ c.from_residual.ensures
    (λ n small e. c.in_err-number.ensures n (record { written = e; from = omega arith; to = small }))

pub overflow_cast-result : goal.overflow_cast-result
overflow_cast-result c = let to = c.in_ok-number.ensures.to in omega (arith, to)
