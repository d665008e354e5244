use Rattle.std.proofs.Common.{sym, ◌∙◌}
use Rattle.std.proofs.lemmas.Bool.{false≢true}
use Rattle.plan_core.proofs.OptionFacts.{none_at}
use Rattle.hint_log.proofs.CapsLemmas.{no_height, no_bends, no_diagonal, no_numbers}
use Rattle.hint_log.proofs.capping.split_caps.Goals as goal

pub returns-in_err-height : goal.returns-in_err-height
returns-in_err-height c = none_at c.from_residual-in_err-height.result _ _ c.from_residual-in_err-height.ensures
    (no_height c.args.text.now c.in_ok-rest.rest.now c.in_ok-rest.ensures c.in_err-height.ensures)

pub returns-in_err-bends : goal.returns-in_err-bends
returns-in_err-bends c =
    none_at c.from_residual-in_err-bends.result _ _ c.from_residual-in_err-bends.ensures
    (no_bends c.args.text.now c.in_ok-rest.rest.now c.in_ok-height.height.now c.in_ok-height.more.now c.in_ok-rest.ensures c.in_ok-height.ensures
    c.in_err-bends.ensures)

pub returns-in_err-diagonal : goal.returns-in_err-diagonal
returns-in_err-diagonal c =
    none_at c.from_residual-in_err-diagonal.result _ _ c.from_residual-in_err-diagonal.ensures
    (no_diagonal c.args.text.now c.in_ok-rest.rest.now c.in_ok-height.height.now c.in_ok-height.more.now c.in_ok-bends.bends.now c.in_ok-bends.later.now
    c.in_ok-rest.ensures c.in_ok-height.ensures c.in_ok-bends.ensures c.in_err-diagonal.ensures)

pub returns-else-are_numbers : goal.returns-else-are_numbers
returns-else-are_numbers c =
    no_numbers c.args.text.now c.in_ok-rest.rest.now c.in_ok-height.height.now c.in_ok-height.more.now c.in_ok-bends.bends.now c.in_ok-bends.later.now
    c.in_ok-diagonal.diagonal.now c.in_ok-diagonal.width.now c.in_ok-rest.ensures c.in_ok-height.ensures
    c.in_ok-bends.ensures c.in_ok-diagonal.ensures (λ n. false≢true (sym c.if-are_numbers.false ∙ c.are_numbers.ensures.1 n))
