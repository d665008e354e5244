use Rattle.std.proofs.Common.{false, Ok, Some, None, length, subst, sym, refl}
use Rattle.std.proofs.Common.{List, ◌≤◌}
use Rattle.plan_core.specs.declared.criterion.Criterion.{Criterion}
use Rattle.plan_text.specs.SheetReading.{head_lines}
use Rattle.plan_text.proofs.ReadingLemmas.{fails, some_case, none_case}
use Rattle.plan_text.proofs.SheetAgain.{head_order, fault_of, body_fault, body_read, fault_too, text_drawn, text_undrawn}
use Rattle.plan_text.proofs.SheetLaws.{sheet_exactly}
use Rattle.plan_text.proofs.sheet_reading.read_sheet.Goals as goal

pub returns-in_err-edition : goal.returns-in_err-edition
returns-in_err-edition c =
    sheet_exactly c.args.g.now false c.args.bytes.now c.from_residual.result
    (fails c.from_residual.result _ _ c.in_err-edition.field-0.0 c.from_residual.ensures.1
    (fault_of c.args.g.now false c.args.bytes.now c.in_err-edition.field-0.0 (c.in_err-edition.ensures c.args.g.now false)))

pub returns-in_err-ending : goal.returns-in_err-ending
returns-in_err-ending c =
    let h = c.in_ok-edition in
    let some = subst (λ (order : List Criterion). 1 ≤ length order) (sym (head_order h.edition h.grid h.order)) h.ensures.0.some in
    sheet_exactly c.args.g.now false c.args.bytes.now c.from_residual-in_err-ending.result
    (fails c.from_residual-in_err-ending.result _ _ c.in_err-ending.field-0.0 c.from_residual-in_err-ending.ensures.1
    (body_fault h.edition c.args.g.now false c.args.bytes.now h.rest.now h.grid h.order c.in_err-ending.field-0.0 (h.ensures.1 c.args.g.now false)
    (c.in_err-ending.ensures c.args.g.now h.edition (head_lines h.edition h.grid h.order) some)))

pub returns-in-Some : goal.returns-in-Some
returns-in-Some c =
    let h = c.in_ok-edition in
    let some = subst (λ (order : List Criterion). 1 ≤ length order) (sym (head_order h.edition h.grid h.order)) h.ensures.0.some in
    let e = some_case c.in_ok-ending.field-0 _ _ c.in-Some.ending c.in_ok-ending.ensures c.in-Some.is in
    sheet_exactly c.args.g.now false c.args.bytes.now (Ok (record { grid = h.grid; order = h.order; found = None; ending = c.in-Some.ending }))
    (text_undrawn h.edition c.args.g.now c.args.bytes.now h.rest.now h.grid h.order c.in-Some.ending (h.ensures.1 c.args.g.now false)
    (e.1 c.args.g.now h.edition (head_lines h.edition h.grid h.order) some))

pub returns-in_err-d : goal.returns-in_err-d
returns-in_err-d c =
    let h = c.in_ok-edition in
    let none = none_case c.in_ok-ending.field-0 _ _ c.in_ok-ending.ensures c.in_default.is in
    sheet_exactly c.args.g.now false c.args.bytes.now c.from_residual-in_err-d.result
    (fails c.from_residual-in_err-d.result _ _ c.in_err-d.field-0.0 c.from_residual-in_err-d.ensures.1
    (body_fault h.edition c.args.g.now false c.args.bytes.now h.rest.now h.grid h.order c.in_err-d.field-0.0 (h.ensures.1 c.args.g.now false)
    (fault_too h.edition c.args.g.now (head_lines h.edition h.grid h.order) h.rest.now 4 c.in_err-d.field-0.0 none
    (c.in_err-d.ensures (head_lines h.edition h.grid h.order) (head_order h.edition h.grid h.order) refl))))

pub returns : goal.returns
returns c =
    let h = c.in_ok-edition in
    let d = c.in_ok-d in
    sheet_exactly c.args.g.now false c.args.bytes.now (Ok (record { grid = h.grid; order = h.order; found = Some d.d; ending = d.ending }))
    (text_drawn h.edition c.args.g.now false c.args.bytes.now h.rest.now h.grid h.order d.d d.ending (h.ensures.1 c.args.g.now false) d.ensures.0
    (body_read h.edition c.args.g.now (head_lines h.edition h.grid h.order) _ h.rest.now _ _
    (d.ensures.2 (head_lines h.edition h.grid h.order) (head_order h.edition h.grid h.order) refl)))
