use Rattle.std.proofs.Common.{List, ap, ◌∙◌}
use Rattle.std.specs.Prelude.{Some, None}
use Rattle.plan_core.specs.Values.{value_of, limit_of}
use Rattle.cnf_core.specs.Formula.{Cnf}
use Rattle.drawing_cnf.specs.Layout.{layout}
use Rattle.log_check.specs.declared.awaited.Part.{Part}
use Rattle.log_check.specs.Awaited.{lines_from}
use Rattle.log_check.specs.Expectation.{expectation}
use Rattle.log_check.proofs.JudgingLemmas.{caps_within, awaited_begun, log_judged}
use Rattle.log_check.proofs.judging.judge_log.Goals as goal

pub expected_of-requires-clause-within : goal.expected_of-requires-clause-within
expected_of-requires-clause-within c =
    let counted = c.in_ok-caps.ensures in
    caps_within (value_of c.greatest_values-greatest.result) (value_of c.in_ok-caps.caps) (limit_of c.args.g.now c.args.grid.now) counted.0 counted.2
    c.greatest_values-greatest.ensures

pub judge_text-requires-clause-awaited : goal.judge_text-requires-clause-awaited
judge_text-requires-clause-awaited c =
    let e = expectation (layout c.args.g.now c.args.t.now c.args.grid.now) c.args.order.now (value_of c.in_ok-caps.caps) in
    let all = c.all_awaited-awaited in
    let lines = all.ensures.lines ∙ ap (λ (f : Cnf). lines_from f.clauses c.deref.result.now 0 0) c.formula.ensures
    ∙ ap (λ (ps : List Part). lines_from c.in-Ok.expected.encoded.formula.clauses ps 0 0) c.deref.ensures.value ∙ c.in-Ok.ensures.so_far.lines in
    (e, awaited_begun e all.result c.in-Ok.ensures.fits all.ensures.awaited lines)

pub judge_text-requires-in-Err-Room-clause-awaited :
    goal.judge_text-requires-in-Err-Room-clause-awaited
judge_text-requires-in-Err-Room-clause-awaited c =
    (expectation (layout c.args.g.now c.args.t.now c.args.grid.now) c.args.order.now (value_of c.in_ok-caps.caps), c.in-Err-Room.ensures.full (cc))

pub returns-in-Ok : goal.returns-in-Ok
returns-in-Ok c =
    let e = expectation (layout c.args.g.now c.args.t.now c.args.grid.now) c.args.order.now (value_of c.in_ok-caps.caps) in
    let all = c.all_awaited-awaited in
    let lines = all.ensures.lines ∙ ap (λ (f : Cnf). lines_from f.clauses c.deref.result.now 0 0) c.formula.ensures
    ∙ ap (λ (ps : List Part). lines_from c.in-Ok.expected.encoded.formula.clauses ps 0 0) c.deref.ensures.value ∙ c.in-Ok.ensures.so_far.lines in
    let counted = c.in_ok-caps.ensures in
    log_judged c.judge_text.result (layout c.args.g.now c.args.t.now c.args.grid.now) c.args.order.now (value_of c.in_ok-caps.caps)
    (value_of c.greatest_values-greatest.result) c.args.claim.now c.args.log.now (Some all.result) c.nodes.ensures.station
    c.requires.order c.width.ensures.is_grid c.greatest_values-greatest.ensures counted.0 counted.1 counted.2
    (awaited_begun e all.result c.in-Ok.ensures.fits all.ensures.awaited lines) c.judge_text.ensures

pub returns-in-Err-Room : goal.returns-in-Err-Room
returns-in-Err-Room c =
    let counted = c.in_ok-caps.ensures in
    log_judged c.judge_text-in-Err-Room.result (layout c.args.g.now c.args.t.now c.args.grid.now) c.args.order.now (value_of c.in_ok-caps.caps)
    (value_of c.greatest_values-greatest.result) c.args.claim.now c.args.log.now None c.nodes.ensures.station
    c.requires.order c.width.ensures.is_grid c.greatest_values-greatest.ensures counted.0 counted.1 counted.2 (c.in-Err-Room.ensures.full (cc))
    c.judge_text-in-Err-Room.ensures
