use Rattle.std.proofs.Common.{refl}
use Rattle.plan_core.specs.Values.{value_of}
use Rattle.log_check.specs.declared.accepting.Progress.{Progress}
use Rattle.log_check.proofs.JudgingLemmas.{accepted_none, new_keeps, text_judged}
use Rattle.log_check.proofs.judging.judge_text.Goals as goal

pub judge_lines-requires-clause-begun : goal.judge_lines-requires-clause-begun
judge_lines-requires-clause-begun c =
    let e = c.requires.awaited.0 in (
      e,
      accepted_none e c.args.awaited (record { awaited = c.args.awaited; checker = c.in_ok-new.field-0; bounds = c.new-2.result }) c.requires.awaited.1 refl
          (new_keeps c.in_ok-new.field-0 c.in_ok-new.ensures.room c.in_ok-new.ensures.facts c.in_ok-new.ensures.lost) c.new-2.ensures.items,
    )

pub returns : goal.returns
returns c =
    let old : Progress = record { awaited = c.args.awaited; checker = c.in_ok-new.field-0; bounds = c.new-2.result } in
    text_judged c.judge_claim.result (value_of c.args.greatest.now) c.args.order.now c.args.claim.now c.args.log.now c.args.awaited old
    c.judge_lines.new.progress c.in_ok-verdict.field-0 c.in-None.is
    (λ e h. accepted_none e c.args.awaited old h refl (new_keeps c.in_ok-new.field-0 c.in_ok-new.ensures.room c.in_ok-new.ensures.facts
    c.in_ok-new.ensures.lost) c.new-2.ensures.items) c.in_ok-verdict.ensures.judged c.judge_claim.ensures
