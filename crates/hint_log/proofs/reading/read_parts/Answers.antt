use Rattle.std.proofs.Common.{refl, subst, sym}
use Rattle.std.proofs.lemmas.Bool.{false≢true}
use Rattle.std.proofs.lemmas.Result.{IfOk-weaker, IfErr-weaker}
use Rattle.hint_log.specs.HintFaults.{HasHintTextFault}
use Rattle.hint_log.proofs.FormLemmas.{unhinted_form, numbers_fault, log_fault, part_fault, joined, unjoined_fault}
use Rattle.hint_log.proofs.reading.read_parts.Goals as goal

pub returns-then-not-begins_hinted-clause-fault : goal.returns-then-not-begins_hinted-clause-fault
returns-then-not-begins_hinted-clause-fault c = (
  refl,
  λ text cut. unhinted_form text c.args.front.now c.args.rest.now cut
      (λ b. false≢true (c.if-not-begins_hinted.ensures.1 b)),
)

pub returns-in-Err-clause-fault : goal.returns-in-Err-clause-fault
returns-in-Err-clause-fault c = numbers_fault c.args.front.now c.args.rest.now c.args.line c.in-Err.fault c.in-Err.ensures.fault

pub returns-in-Ok-read_line-clause-line : goal.returns-in-Ok-read_line-clause-line
returns-in-Ok-read_line-clause-line c =
    IfOk-weaker c.with_hints.result _ _ (λ h both text cut. joined text c.args.front.now c.args.rest.now h c.in-Ok-read_line.read c.in-Ok.hints both.0 both.1
    cut c.in-Ok-read_line.ensures.value c.in-Ok.ensures.numbers) c.with_hints.ensures.line

pub returns-in-Ok-read_line-clause-fault : goal.returns-in-Ok-read_line-clause-fault
returns-in-Ok-read_line-clause-fault c =
    IfErr-weaker c.with_hints.result _ _ (λ e. unjoined_fault c.args.front.now c.args.rest.now c.in-Ok-read_line.read c.in-Ok.hints c.args.line e
    (c.if-not-begins_hinted.ensures.0 refl) c.in-Ok-read_line.ensures.value c.in-Ok.ensures.numbers) c.with_hints.ensures.fault

pub returns-in-Err-Log-clause-fault : goal.returns-in-Err-Log-clause-fault
returns-in-Err-Log-clause-fault c = (
  refl,
  λ text cut.
      subst (HasHintTextFault text) (sym c.whole_fault.ensures)
      (part_fault text c.args.front.now c.args.rest.now c.in-Ok.hints c.is_some.result c.in-Err-Log.what c.is_some.ensures cut
      (c.if-not-begins_hinted.ensures.0 refl) c.in-Ok.ensures.numbers
      (log_fault c.args.front.now c.args.line c.in-Err-Log.field-0 c.in-Err-Log.what c.in-Err-Log.field-0-1 c.in-Err-Log.field-0-is
      c.in-Err-Log.ensures.fault)),
)
