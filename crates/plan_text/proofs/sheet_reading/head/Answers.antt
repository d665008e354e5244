use Rattle.std.proofs.Common.{[], ◌∷◌, refl, rules}
use Rattle.plan_write.specs.SheetLine.{Title, GridLine}
use Rattle.plan_text.specs.SheetFaults.{TitleDue}
use Rattle.plan_text.proofs.ReadingLemmas.{fails, first_here, later_here, read_title, read_grid}
use Rattle.plan_text.proofs.sheet_reading.head.Goals as goal

pub returns-in_err-edition : goal.returns-in_err-edition
returns-in_err-edition c =
    fails c.from_residual.result _ _ c.in_err-edition.field-0.0 c.from_residual.ensures.1
    (λ g needs_drawing. first_here g [] (TitleDue needs_drawing) c.args.text.now 1 1 c.in_err-edition.field-0.0 refl
    (c.in_err-edition.ensures g [] needs_drawing))

pub returns-in-Err-order : goal.returns-in-Err-order
returns-in-Err-order c = λ g needs_drawing.
    let e = c.in_ok-edition.edition in
    let head = read_grid e g needs_drawing c.args.text.now c.in_ok-edition.rest.now c.in-Ok.rest.now c.in-Ok.grid c.in_ok-edition.ensures c.in-Ok.ensures.0
    c.in-Ok.ensures.1 in
    later_here g [] (TitleDue needs_drawing) c.args.text.now c.in-Ok.rest.now (Title e ∷ GridLine e c.in-Ok.grid ∷ []) 1 3 c.in-Err-order.fault head refl
    (let here = c.in-Err-order.ensures g (Title e ∷ GridLine e c.in-Ok.grid ∷ []) e needs_drawing in search (rules, here))

pub returns-in-Err : goal.returns-in-Err
returns-in-Err c = λ g needs_drawing.
    let e = c.in_ok-edition.edition in
    later_here g [] (TitleDue needs_drawing) c.args.text.now c.in_ok-edition.rest.now (Title e ∷ []) 1 2 c.in-Err.fault
    (read_title e g needs_drawing c.args.text.now c.in_ok-edition.rest.now c.in_ok-edition.ensures) refl (c.in-Err.ensures g (Title e ∷ []) needs_drawing)
