use Rattle.plan_core.proofs.OptionFacts.{none_at}
use Rattle.plan_text.proofs.FormLemmas.{no_word, no_number_named, no_name_named, is_named}
use Rattle.plan_text.proofs.sheet_lines.named.Goals as goal

pub returns-in_err-rest : goal.returns-in_err-rest
returns-in_err-rest c = none_at c.from_residual.result _ _ c.from_residual.ensures (no_word c.args.text.now c.args.word.now c.in_err-rest.ensures)

pub returns-in_err-number : goal.returns-in_err-number
returns-in_err-number c =
    none_at c.from_residual-in_err-number.result _ _ c.from_residual-in_err-number.ensures
    (no_number_named c.args.text.now c.args.word.now c.in_ok-rest.rest.now c.in_ok-rest.ensures c.in_err-number.ensures)

pub returns-in_err-name : goal.returns-in_err-name
returns-in_err-name c =
    none_at c.from_residual-in_err-name.result _ _ c.from_residual-in_err-name.ensures
    (no_name_named c.args.text.now c.args.word.now c.in_ok-rest.rest.now c.in_ok-number.rest.now c.in_ok-number.number c.in_ok-rest.ensures
    c.in_ok-number.ensures c.in_err-name.ensures)

pub returns : goal.returns
returns c = is_named c.args.text.now c.args.word.now c.in_ok-rest.rest.now c.in_ok-number.rest.now c.in_ok-number.number c.in_ok-name.name.now
    c.in_ok-name.rest.now c.in_ok-rest.ensures c.in_ok-number.ensures c.in_ok-name.ensures
