use Rattle.std.proofs.Common.{sym, ◌∙◌}
use Rattle.std.specs.Prelude.{codes}
use Rattle.plan_core.proofs.OptionFacts.{none_at}
use Rattle.plan_text.proofs.LineOnce.{tells_grid, numbers_once}
use Rattle.plan_text.proofs.FormLemmas.{few_grid_numbers, grid_read}
use Rattle.plan_write.specs.SheetLine.{grid_numbers}
use Rattle.plan_text.proofs.sheet_lines.grid_line.Goals as goal

pub returns-in_err-numbers : goal.returns-in_err-numbers
returns-in_err-numbers c =
    none_at c.from_residual.result _ _ c.from_residual.ensures
    (λ needs_drawing line begins. let t = tells_grid c.args.edition needs_drawing c.args.text.now line begins in
    c.in_err-numbers.ensures (grid_numbers c.args.edition t.grid) t.behind t.form.0 (few_grid_numbers c.args.edition t.grid) t.spelled)

pub returns-in_err-width : goal.returns-in_err-width
returns-in_err-width c =
    none_at c.from_residual-in_err-width.result _ _ c.from_residual-in_err-width.ensures
    (λ needs_drawing line begins. let t = tells_grid c.args.edition needs_drawing c.args.text.now line begins in
    c.in_err-width.ensures t.grid (c.as_slice.ensures.value ∙ (numbers_once (codes "grid") c.in_ok-numbers.numbers.items (grid_numbers c.args.edition t.grid)
    c.in_ok-numbers.rest.now t.behind c.in_ok-numbers.ensures.0 t.form.0 (sym c.in_ok-numbers.ensures.1 ∙ t.spelled)).values))

pub returns : goal.returns
returns c = grid_read c.args.edition c.args.text.now c.in_ok-numbers.rest.now c.in_ok-numbers.numbers.items c.as_slice.result.now _ c.in_ok-numbers.ensures.0
    c.in_ok-numbers.ensures.1 c.as_slice.ensures.value c.in_ok-width.ensures.0 c.in_ok-width.ensures.1
