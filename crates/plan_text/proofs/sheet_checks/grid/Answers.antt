use Rattle.std.proofs.Common.{refl}
use Rattle.plan_core.specs.Grid.{grid_with}
use Rattle.plan_write.specs.SheetLine.{GridLine}
use Rattle.plan_text.specs.SheetFaults.{GridDue}
use Rattle.plan_text.proofs.CheckLemmas.{out_of_range}
use Rattle.plan_text.proofs.sheet_checks.grid.Goals as goal

pub returns-in-None : goal.returns-in-None
returns-in-None c = λ g before needs_drawing. (
  refl,
  out_of_range g before (GridDue c.args.edition needs_drawing) c.args.text.now c.in-Some.rest.now
      (GridLine c.args.edition (grid_with c.in-Some.width c.in-Some.height c.in-Some.least)) refl c.in-Some.ensures.form c.in-Some.ensures.spelled
      c.in-None.ensures,
)
