use Rattle.plan_core.proofs.OptionFacts.{none_at}
use Rattle.plan_text.proofs.FormLemmas.{no_x, no_y, point_at}
use Rattle.plan_text.proofs.sheet_fields.next_point.Goals as goal

pub returns-in_err-x : goal.returns-in_err-x
returns-in_err-x c = none_at c.from_residual.result _ _ c.from_residual.ensures (no_x c.args.text.now c.in_err-x.ensures)

pub returns-in_err-y : goal.returns-in_err-y
returns-in_err-y c =
    none_at c.from_residual-in_err-y.result _ _ c.from_residual-in_err-y.ensures
    (no_y c.args.text.now c.in_ok-x.rest.now c.in_ok-x.x c.in_ok-x.ensures c.in_err-y.ensures)

pub returns : goal.returns
returns c = point_at c.args.text.now c.in_ok-x.rest.now c.in_ok-y.rest.now c.in_ok-x.x c.in_ok-y.y c.in_ok-x.ensures c.in_ok-y.ensures
