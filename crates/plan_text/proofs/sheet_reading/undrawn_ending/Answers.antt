use Rattle.std.proofs.Common.{false, [], ◌∷◌, ◌++◌, refl}
use Rattle.plan_text.specs.declared.sheet_fault.SheetFault.TheVariants.{Sheet as SheetHas}
use Rattle.plan_write.specs.SheetLine.{EndLine}
use Rattle.plan_text.specs.SheetFaults.{BodyDue, order_told}
use Rattle.plan_text.proofs.ReadingLemmas.{fails, first_here, later_here}
use Rattle.plan_text.proofs.SheetAgain.{read_undrawn, settled_fault}
use Rattle.plan_text.proofs.sheet_reading.undrawn_ending.Goals as goal

pub returns-in_err-nothing-in-Ok : goal.returns-in_err-nothing-in-Ok
returns-in_err-nothing-in-Ok c =
    let told = c.in-Some.ensures in
    fails c.from_residual.result _ _ c.in_err-nothing-in-Ok.field-0.0 c.from_residual.ensures.1
    (λ g edition before some. later_here g before (BodyDue edition false) c.args.text.now c.in-Some.rest.now (EndLine c.in-Ok.ending ∷ []) 4 5
    c.in_err-nothing-in-Ok.field-0.0
    (read_undrawn edition g before c.args.text.now c.in-Some.rest.now c.in-Ok.ending _ c.in-Ok.ensures.0 told.0 told.1 told.2
    (c.in-Ok.ensures.1 (order_told before) some)) refl
    (c.in_err-nothing-in-Ok.ensures g (before ++ EndLine c.in-Ok.ending ∷ [])))

pub returns-in-Err : goal.returns-in-Err
returns-in-Err c =
    let told = c.in-Some.ensures in
    λ g edition before some. first_here g before (BodyDue edition false) c.args.text.now 4 4 (SheetHas c.in-Err.what 4) refl
    (refl, settled_fault edition g before c.args.text.now c.in-Some.rest.now _ c.in-Err.what told.0 told.1 told.2 c.in-Err.ensures.0 c.in-Err.ensures.1)
