use Rattle.std.proofs.Common.{arith}
use Rattle.plan_core.specs.Values.{value_of}
use Rattle.log_check.specs.declared.claim.Claim.TheVariants.{Least}
use Rattle.log_check.proofs.JudgingLemmas.{lacking_low, place_is_small, none_lacks}
use Rattle.log_check.specs.Hinted.{log_of}
use Rattle.log_check.specs.declared.hint_verdict.HintsVerdict.TheVariants.{Certified}
use Rattle.log_check.proofs.HintJudgingLemmas.{judged_as}
use Rattle.log_check.proofs.hint_judging.judge_claim.Goals as goal

pub overflow_cast-result : goal.overflow_cast-result
overflow_cast-result c =
    let told = c.requires.known.0 in
    let lines = c.requires.known.1 in
    let low = lacking_low (value_of c.args.greatest.now) (log_of told lines) c.args.order.now c.in-Least.values c.in-Least.places c.in-Some.i
    c.in_ok-first_lacking-in-Least.field-0 c.in-Some.is (c.in_ok-first_lacking-in-Least.ensures told lines c.requires.known.2) in
    let small = place_is_small c.args.order.now c.args.claim.now c.in-Least.values c.in-Least.places c.in-Some.i c.len.ensures.is_order c.requires.claim
    c.in-Least.is low in
    omega arith

pub overflow_add-result : goal.overflow_add-result
overflow_add-result c =
    let told = c.requires.known.0 in
    let lines = c.requires.known.1 in
    let low = lacking_low (value_of c.args.greatest.now) (log_of told lines) c.args.order.now c.in-Least.values c.in-Least.places c.in-Some.i
    c.in_ok-first_lacking-in-Least.field-0 c.in-Some.is (c.in_ok-first_lacking-in-Least.ensures told lines c.requires.known.2) in
    let small = place_is_small c.args.order.now c.args.claim.now c.in-Least.values c.in-Least.places c.in-Some.i c.len.ensures.is_order c.requires.claim
    c.in-Least.is low in
    omega arith

pub returns-in-None : goal.returns-in-None
returns-in-None c = λ told lines known.
    judged_as (value_of c.args.greatest.now) (log_of told lines) c.args.order.now c.args.claim.now (Least c.in-Least.values c.in-Least.places) Certified
    c.in-Least.is
    (none_lacks (value_of c.args.greatest.now) (log_of told lines) c.args.order.now c.in-Least.values c.in-Least.places c.in_ok-first_lacking-in-Least.field-0
    c.in-None.is (c.in_ok-first_lacking-in-Least.ensures told lines known))
