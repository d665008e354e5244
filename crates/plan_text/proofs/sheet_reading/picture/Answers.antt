use Rattle.plan_text.proofs.ReadingLemmas.{fails}
use Rattle.plan_text.proofs.SheetAgain.{read_picture, edges_fault}
use Rattle.plan_text.proofs.sheet_reading.picture.Goals as goal

pub returns-in_err-lines : goal.returns-in_err-lines
returns-in_err-lines c =
    fails c.from_residual-in_err-lines.result _ _ c.in_err-lines.field-0.0 c.from_residual-in_err-lines.ensures.1
    (edges_fault c.args.edition c.args.g.now c.args.text.now c.in_ok-places.rest.now c.in_ok-places.places.items c.in_err-lines.field-0.0
    c.in_ok-places.ensures.0 c.in_ok-places.ensures.2 c.in_err-lines.ensures)

pub returns : goal.returns
returns c =
    read_picture c.args.edition c.args.g.now c.args.text.now c.in_ok-places.rest.now c.in_ok-lines.rest.now c.in_ok-places.places.items c.deref.result.now
    c.in_ok-lines.lines.items c.deref-2.result.now c.in_ok-new.field-0
    c.in_ok-new.ensures c.deref.ensures.value c.deref-2.ensures.value c.in_ok-places.ensures.0 c.in_ok-lines.ensures.0 c.in_ok-places.ensures.2
    c.in_ok-lines.ensures.2
