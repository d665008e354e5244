use Rattle.plan_core.proofs.OptionFacts.{none_at}
use Rattle.plan_text.proofs.FormLemmas.{mileage_false, no_mileage, no_feed_behind, mileage_at}
use Rattle.plan_text.proofs.sheet_lines.mileage_end.Goals as goal

pub returns-in_err-mileage : goal.returns-in_err-mileage
returns-in_err-mileage c = none_at c.from_residual.result _ _ c.from_residual.ensures (λ mileage rest is e. c.in_err-mileage.ensures _ e)

pub returns-then-not-is_mileage : goal.returns-then-not-is_mileage
returns-then-not-is_mileage c =
    no_mileage c.args.text.now c.in_ok-mileage.mileage.now c.in_ok-mileage.rest.now c.in_ok-mileage.ensures
    (mileage_false c.in_ok-mileage.mileage.now c.is_mileage.result c.is_mileage.ensures c.if-not-is_mileage.true)

pub returns-in_err-rest : goal.returns-in_err-rest
returns-in_err-rest c =
    none_at c.from_residual-in_err-rest.result _ _ c.from_residual-in_err-rest.ensures
    (no_feed_behind c.args.text.now c.in_ok-mileage.mileage.now c.in_ok-mileage.rest.now c.in_ok-mileage.ensures c.in_err-rest.ensures)

pub returns : goal.returns
returns c = (
  c.is_mileage.ensures.0 c.if-not-is_mileage.false,
  mileage_at c.args.text.now c.in_ok-mileage.mileage.now c.in_ok-mileage.rest.now
      c.in_ok-rest.rest.now c.in_ok-mileage.ensures c.in_ok-rest.ensures,
)
