use Rattle.plan_core.proofs.OptionFacts.{none_at}
use Rattle.plan_text.proofs.FormLemmas.{no_plain_end, no_told_end, told_end}
use Rattle.plan_text.proofs.sheet_lines.node_end.Goals as goal

pub returns-in_err-rest-in-First : goal.returns-in_err-rest-in-First
returns-in_err-rest-in-First c = none_at c.from_residual.result _ _ c.from_residual.ensures
    (no_plain_end c.args.edition c.in-First.is c.args.text.now c.in_err-rest-in-First.ensures)

pub returns-in_err-mileage-in-Second : goal.returns-in_err-mileage-in-Second
returns-in_err-mileage-in-Second c =
    none_at c.from_residual-in_err-mileage-in-Second.result _ _ c.from_residual-in_err-mileage-in-Second.ensures
    (no_told_end c.args.edition c.in-Second.is c.args.text.now c.in_err-mileage-in-Second.ensures)

pub returns-in_ok-mileage-in-Second : goal.returns-in_ok-mileage-in-Second
returns-in_ok-mileage-in-Second c =
    told_end c.args.edition c.in-Second.is c.args.text.now c.in_ok-mileage-in-Second.mileage.now c.in_ok-mileage-in-Second.rest.now
    c.in_ok-mileage-in-Second.ensures.0 c.in_ok-mileage-in-Second.ensures.1
