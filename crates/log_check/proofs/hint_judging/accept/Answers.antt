use Rattle.log_check.proofs.HintJudgingLemmas.{accepted_next, bad_refused}
use Rattle.log_check.proofs.hint_judging.accept.Goals as goal

pub returns-in-Ok : goal.returns-in-Ok
returns-in-Ok c = λ e before h. accepted_next e before c.args.line.now c.args.checker.now c.feed.new.self h c.in-Ok.ensures.ok

pub returns-in-Err-BadHint : goal.returns-in-Err-BadHint
returns-in-Err-BadHint c = λ e before h.
    bad_refused e before c.args.line.now c.args.checker.now c.in-Err-BadHint.field-0-0 h
    (c.in-Err-BadHint.ensures.bad c.in-Err-BadHint.field-0-0 c.in-Err-BadHint.field-0-is)
