use Rattle.plan_core.proofs.OptionFacts.{none_at}
use Rattle.plan_text.proofs.FormLemmas.{no_ending}
use Rattle.plan_text.proofs.sheet_lines.end_line.Goals as goal

pub returns-in_err-settled : goal.returns-in_err-settled
returns-in_err-settled c =
    none_at c.from_residual.result _ _ c.from_residual.ensures
    (no_ending c.args.text.now c.in_default.ensures c.in_default-behind.ensures c.in_default-one_number.ensures c.in_err-settled.ensures)
