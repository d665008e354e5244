use Rattle.std.proofs.Common.{List, sym, subst, arith}
use Rattle.plan_core.specs.Values.{value_of}
use Rattle.refute_check.specs.declared.told_bound.ToldBound.{ToldBound}
use Rattle.refute_check.specs.Lacking.{KnowsLog}
use Rattle.log_check.specs.declared.claim.Claim.TheVariants.{Least}
use Rattle.log_check.specs.declared.verdict.Verdict.TheVariants.{Certified}
use Rattle.log_check.proofs.JudgingLemmas.{lacking_low, place_is_small, judged_as, none_lacks}
use Rattle.log_check.proofs.judging.judge_claim.Goals as goal

pub overflow_cast-result : goal.overflow_cast-result
overflow_cast-result c =
    let lines = c.requires.known.0 in
    let low = lacking_low (value_of c.args.greatest.now) lines c.args.order.now c.in-Least.values c.in-Least.places c.in-Some.i
    c.in_ok-first_lacking-in-Least.field-0 c.in-Some.is (c.in_ok-first_lacking-in-Least.ensures lines
    (subst (λ (bs : List ToldBound). KnowsLog lines c.args.progress.now.checker bs) (sym c.deref.ensures.value) c.requires.known.1)) in
    let small = place_is_small c.args.order.now c.args.claim.now c.in-Least.values c.in-Least.places c.in-Some.i c.len.ensures.is_order c.requires.claim
    c.in-Least.is low in
    omega arith

pub overflow_add-result : goal.overflow_add-result
overflow_add-result c =
    let lines = c.requires.known.0 in
    let low = lacking_low (value_of c.args.greatest.now) lines c.args.order.now c.in-Least.values c.in-Least.places c.in-Some.i
    c.in_ok-first_lacking-in-Least.field-0 c.in-Some.is (c.in_ok-first_lacking-in-Least.ensures lines
    (subst (λ (bs : List ToldBound). KnowsLog lines c.args.progress.now.checker bs) (sym c.deref.ensures.value) c.requires.known.1)) in
    let small = place_is_small c.args.order.now c.args.claim.now c.in-Least.values c.in-Least.places c.in-Some.i c.len.ensures.is_order c.requires.claim
    c.in-Least.is low in
    omega arith

pub returns-in-None : goal.returns-in-None
returns-in-None c = λ lines known.
    judged_as (value_of c.args.greatest.now) lines c.args.order.now c.args.claim.now (Least c.in-Least.values c.in-Least.places) Certified c.in-Least.is
    (none_lacks (value_of c.args.greatest.now) lines c.args.order.now c.in-Least.values c.in-Least.places c.in_ok-first_lacking-in-Least.field-0 c.in-None.is
    (c.in_ok-first_lacking-in-Least.ensures lines (subst (λ (bs : List ToldBound). KnowsLog lines c.args.progress.now.checker bs)
    (sym c.deref.ensures.value) known)))
