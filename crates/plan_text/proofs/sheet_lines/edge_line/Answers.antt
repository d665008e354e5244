use Rattle.plan_core.proofs.OptionFacts.{none_at}
use Rattle.plan_text.proofs.FormLemmas.{no_numbered, no_numbers, no_two, no_points, edge_read}
use Rattle.plan_text.proofs.sheet_lines.edge_line.Goals as goal

pub returns-in_err-number : goal.returns-in_err-number
returns-in_err-number c = none_at c.from_residual.result _ _ c.from_residual.ensures (no_numbered c.args.edition c.args.text.now c.in_err-number.ensures)

pub returns-in_err-numbers : goal.returns-in_err-numbers
returns-in_err-numbers c =
    none_at c.from_residual-in_err-numbers.result _ _ c.from_residual-in_err-numbers.ensures
    (no_numbers c.args.edition c.args.text.now c.in_ok-number.number _ c.in_ok-number.rest.now c.in_ok-number.ensures c.in_err-numbers.ensures)

pub returns-in_err-west : goal.returns-in_err-west
returns-in_err-west c =
    none_at c.from_residual-in_err-west.result _ _ c.from_residual-in_err-west.ensures
    (no_two c.args.edition c.args.text.now c.in_ok-number.number _ c.in_ok-number.rest.now c.in_ok-numbers.numbers.items c.as_slice.result.now
    c.in_ok-numbers.rest.now c.in_ok-number.ensures c.in_ok-numbers.ensures.0 c.in_ok-numbers.ensures.1 c.as_slice.ensures.value c.in_err-west.ensures)

pub returns-in_err-points : goal.returns-in_err-points
returns-in_err-points c =
    none_at c.from_residual-in_err-points.result _ _ c.from_residual-in_err-points.ensures
    (no_points c.args.edition c.args.text.now c.in_ok-number.number _ c.in_ok-number.rest.now c.in_ok-numbers.numbers.items c.as_slice.result.now
    c.in_ok-numbers.rest.now c.in_ok-west.coordinates.now c.in_ok-west.west c.in_ok-west.east c.in_ok-number.ensures c.in_ok-numbers.ensures.0
    c.in_ok-numbers.ensures.1 c.as_slice.ensures.value c.in_ok-west.ensures c.in_err-points.ensures)

pub returns : goal.returns
returns c =
    edge_read c.args.edition c.args.text.now c.in_ok-number.number _ c.in_ok-number.rest.now c.in_ok-numbers.numbers.items c.as_slice.result.now
    c.in_ok-numbers.rest.now c.in_ok-west.coordinates.now c.in_ok-west.west c.in_ok-west.east c.in_ok-points.points.items c.in_ok-number.ensures
    c.in_ok-numbers.ensures.0 c.in_ok-numbers.ensures.1 c.as_slice.ensures.value c.in_ok-west.ensures c.in_ok-points.ensures.0 c.in_ok-points.ensures.1
