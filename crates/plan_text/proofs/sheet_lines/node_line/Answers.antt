use Rattle.plan_core.proofs.OptionFacts.{none_at}
use Rattle.plan_text.proofs.FormLemmas.{no_named, no_place, no_end_of_node, node_read}
use Rattle.plan_text.proofs.sheet_lines.node_line.Goals as goal

pub returns-in_err-number : goal.returns-in_err-number
returns-in_err-number c = none_at c.from_residual.result _ _ c.from_residual.ensures (no_named c.args.edition c.args.text.now c.in_err-number.ensures)

pub returns-in_err-place : goal.returns-in_err-place
returns-in_err-place c =
    none_at c.from_residual-in_err-place.result _ _ c.from_residual-in_err-place.ensures
    (no_place c.args.edition c.args.text.now c.in_ok-number.number c.in_ok-number.name.now c.in_ok-number.rest.now c.in_ok-number.ensures
    c.in_err-place.ensures)

pub returns-in_err-mileage : goal.returns-in_err-mileage
returns-in_err-mileage c =
    none_at c.from_residual-in_err-mileage.result _ _ c.from_residual-in_err-mileage.ensures
    (no_end_of_node c.args.edition c.args.text.now c.in_ok-number.number c.in_ok-number.name.now c.in_ok-number.rest.now c.in_ok-place.rest.now
    c.in_ok-place.place c.in_ok-number.ensures c.in_ok-place.ensures c.in_err-mileage.ensures)

pub returns : goal.returns
returns c =
    node_read c.args.edition c.args.text.now c.in_ok-number.number c.in_ok-number.name.now c.in_ok-number.rest.now c.in_ok-place.rest.now c.in_ok-place.place _
    c.in_ok-mileage.rest.now c.in_ok-number.ensures c.in_ok-place.ensures c.in_ok-mileage.ensures
