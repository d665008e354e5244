use Rattle.std.proofs.Common.{true, Some, Ok, refl}
use Rattle.plan_text.specs.SheetReading.{head_lines}
use Rattle.plan_text.proofs.ReadingLemmas.{fails}
use Rattle.plan_text.proofs.SheetAgain.{head_order, fault_of, body_fault, text_drawn}
use Rattle.plan_text.proofs.SheetLaws.{drawing_exactly}
use Rattle.plan_text.proofs.sheet_reading.read_drawing.Goals as goal

pub returns-in_err-edition : goal.returns-in_err-edition
returns-in_err-edition c =
    drawing_exactly c.args.g.now c.args.bytes.now c.from_residual.result
    (fails c.from_residual.result _ _ c.in_err-edition.field-0.0 c.from_residual.ensures.1
    (fault_of c.args.g.now true c.args.bytes.now c.in_err-edition.field-0.0 (c.in_err-edition.ensures c.args.g.now true)))

pub returns-in_err-d : goal.returns-in_err-d
returns-in_err-d c =
    let h = c.in_ok-edition in
    drawing_exactly c.args.g.now c.args.bytes.now c.from_residual-in_err-d.result
    (fails c.from_residual-in_err-d.result _ _ c.in_err-d.field-0.0 c.from_residual-in_err-d.ensures.1
    (body_fault h.edition c.args.g.now true c.args.bytes.now h.rest.now h.grid h.order c.in_err-d.field-0.0 (h.ensures.1 c.args.g.now true)
    (c.in_err-d.ensures (head_lines h.edition h.grid h.order) (head_order h.edition h.grid h.order) refl)))

pub returns : goal.returns
returns c =
    let h = c.in_ok-edition in
    let d = c.in_ok-d in
    drawing_exactly c.args.g.now c.args.bytes.now (Ok (h.grid, d.d)) (record {
      sheet = record { grid = h.grid; order = h.order; found = Some d.d; ending = d.field-0-1 };
      on_grid = refl;
      found = refl;
      told = text_drawn h.edition c.args.g.now true c.args.bytes.now h.rest.now h.grid h.order d.d d.field-0-1 (h.ensures.1 c.args.g.now true) d.ensures.0
          (d.ensures.2 (head_lines h.edition h.grid h.order) (head_order h.edition h.grid h.order) refl);
    })
