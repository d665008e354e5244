use Rattle.plan_core.specs.Values.{value_of}
use Rattle.drawing_cnf.specs.Layout.{layout}
use Rattle.log_check.proofs.HintVerdictLemmas.{judged_behind, over_limits, caps_refused, header_refused}
use Rattle.log_check.proofs.hint_judging.judge_hints.Goals as goal

pub returns-in_default : goal.returns-in_default
returns-in_default c = header_refused (layout c.args.g.now c.args.t.now c.args.grid.now) c.args.order.now c.args.claim.now c.args.hints.now c.behind.result
    c.behind.ensures c.in_default.not-Some

pub returns-in-Err : goal.returns-in-Err
returns-in-Err c =
    caps_refused (layout c.args.g.now c.args.t.now c.args.grid.now) c.args.order.now (value_of c.greatest_values-greatest.result) c.args.claim.now
    c.args.hints.now c.in-Some.rest.now c.in-Err.what c.greatest_values-greatest.ensures c.in-Some.ensures
    c.in-Err.ensures.fault

pub judge_expected-requires-clause-expected : goal.judge_expected-requires-clause-expected
judge_expected-requires-clause-expected c = (
  layout c.args.g.now c.args.t.now c.args.grid.now,
  value_of c.in-Ok.next.0,
  record {
    expecting = c.in-Ok-expected_of.ensures.so_far;
    fits = c.in-Ok-expected_of.ensures.fits;
  },
)

pub returns-in-Ok-expected_of : goal.returns-in-Ok-expected_of
returns-in-Ok-expected_of c =
    judged_behind c.judge_expected.result (layout c.args.g.now c.args.t.now c.args.grid.now) c.args.order.now (value_of c.greatest_values-greatest.result)
    c.args.claim.now c.args.hints.now c.in-Some.rest.now c.in-Ok.next.0 c.in-Ok.next.1.now
    c.in-Ok-expected_of.expected.encoded c.in-Ok-expected_of.expected.parts.items c.nodes.ensures.station c.requires.order c.width.ensures.is_grid
    c.greatest_values-greatest.ensures c.in-Some.ensures c.in-Ok.ensures.caps
    (record { expecting = c.in-Ok-expected_of.ensures.so_far; fits = c.in-Ok-expected_of.ensures.fits }) c.judge_expected.ensures

pub returns-in-Err-Room : goal.returns-in-Err-Room
returns-in-Err-Room c =
    over_limits (layout c.args.g.now c.args.t.now c.args.grid.now) c.args.order.now (value_of c.greatest_values-greatest.result) c.args.claim.now
    c.args.hints.now c.in-Some.rest.now c.in-Ok.next.0 c.in-Ok.next.1.now c.greatest_values-greatest.ensures
    c.in-Some.ensures c.in-Ok.ensures.caps (c.in-Err-Room.ensures.full (cc))
