use Rattle.plan_core.proofs.OptionFacts.{none_at}
use Rattle.plan_text.proofs.FormLemmas.{option_both, no_two_numbers, two_numbers, no_three_numbers, three_numbers}
use Rattle.plan_text.proofs.sheet_lines.grid_of.Goals as goal

pub returns-in_err-width-in-First : goal.returns-in_err-width-in-First
returns-in_err-width-in-First c = none_at c.from_residual.result _ _ c.from_residual.ensures
    (no_two_numbers c.args.edition c.in-First.is c.args.numbers.now c.in_err-width-in-First.ensures)

pub returns-in_ok-width-in-First : goal.returns-in_ok-width-in-First
returns-in_ok-width-in-First c = two_numbers c.args.edition c.in-First.is c.args.numbers.now c.in_ok-width-in-First.width c.in_ok-width-in-First.height
    c.in_ok-width-in-First.ensures

pub returns-in-Second : goal.returns-in-Second
returns-in-Second c =
    option_both c.only_three.result _ _ _ _
    (no_three_numbers c.args.edition c.in-Second.is c.args.numbers.now)
    (λ p e. three_numbers c.args.edition c.in-Second.is c.args.numbers.now p.0 p.1 p.2 e)
    c.only_three.ensures
