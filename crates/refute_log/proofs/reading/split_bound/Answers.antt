use Rattle.std.proofs.Common.{inl, inr}
use Rattle.std.proofs.lemmas.Bool.{false≢true}
use Rattle.plan_core.proofs.OptionFacts.{none_at}
use Rattle.refute_log.proofs.LetterLemmas.{no_criterion, no_second_field, no_numbers}
use Rattle.refute_log.proofs.reading.split_bound.Goals as goal
use Rattle.refute_log.proofs.reading.split_bound.Goals.{then-not-is_number-via-then-not-is_number}
use Rattle.refute_log.proofs.reading.split_bound.Goals.{then-not-is_number-via-else-not-is_number+then-not-is_number-2}

pub returns-in_err-criterion : goal.returns-in_err-criterion
returns-in_err-criterion c =
    none_at c.from_residual-in_err-criterion.result _ _ c.from_residual-in_err-criterion.ensures
    (no_criterion c.args.text.now c.in_ok-word.word.now c.in_ok-word.rest.now c.in_ok-word.ensures c.in_err-criterion.ensures)

pub returns-in_err-k : goal.returns-in_err-k
returns-in_err-k c =
    none_at c.from_residual-in_err-k.result _ _ c.from_residual-in_err-k.ensures (no_second_field c.args.text.now c.in_ok-word.word.now c.in_ok-word.rest.now
    c.in_ok-word.ensures c.in_err-k.ensures)

pub returns-then-not-is_number : goal.returns-then-not-is_number
returns-then-not-is_number c =
    no_numbers c.args.text.now c.in_ok-word.word.now c.in_ok-word.rest.now c.in_ok-k.k.now c.in_ok-k.variable.now c.in_ok-word.ensures c.in_ok-k.ensures (
    elim c.then-not-is_number.branch [
      | then-not-is_number-via-then-not-is_number w ↦ inl (λ n. false≢true (w.if-not-is_number.ensures.1 n))
      | then-not-is_number-via-else-not-is_number+then-not-is_number-2 w ↦ inr (λ n. false≢true (w.if-not-is_number-2.ensures.1 n))
    ])
