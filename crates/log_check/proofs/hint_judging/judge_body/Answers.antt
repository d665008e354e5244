use Rattle.plan_core.specs.Values.{value_of}
use Rattle.log_check.proofs.HintJudgingLemmas.{body_judged, body_known, body_stopped}
use Rattle.log_check.proofs.hint_judging.judge_body.Goals as goal

pub returns-in-Some : goal.returns-in-Some
returns-in-Some c =
    body_stopped (value_of c.args.greatest.now) c.args.order.now c.args.claim.now c.args.body.now c.args.checker.now c.judge_lines.new.checker c.args.bounds.now
    c.in_ok-verdict.field-0 c.in-Some.verdict c.in-Some.is c.in_ok-verdict.ensures

pub judge_claim-requires-clause-known : goal.judge_claim-requires-clause-known
judge_claim-requires-clause-known c =
    body_known c.args.body.now c.args.checker.now c.judge_lines.new.checker c.args.bounds.now c.in_ok-verdict.field-0 c.requires.begun.0 c.in-None.is
    c.requires.begun.1 c.in_ok-verdict.ensures

pub returns-in-None : goal.returns-in-None
returns-in-None c =
    body_judged c.judge_claim.result (value_of c.args.greatest.now) c.args.order.now c.args.claim.now c.args.body.now c.args.checker.now
    c.judge_lines.new.checker c.args.bounds.now c.in_ok-verdict.field-0 c.in-None.is c.in_ok-verdict.ensures
    c.judge_claim.ensures
