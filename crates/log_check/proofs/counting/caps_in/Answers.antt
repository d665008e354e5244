use Rattle.plan_core.specs.Values.{value_of}
use Rattle.log_check.proofs.CountingLemmas.{values, all_zero, counted_none, counted_next, counted_all, counted_within, cut_leaves_less}
use Rattle.log_check.proofs.counting.caps_in.Goals as goal

pub loop-text-init : goal.loop-text-init
loop-text-init c = counted_none c.args.log.now (value_of c.args.greatest.now) (value_of (values 0 0 0 0)) all_zero

pub counted-numbers-requires : goal.counted-numbers-requires
counted-numbers-requires c = counted_within c.args.log.now c.loop-text.rest.now (value_of c.args.greatest.now) (value_of c.loop-text.numbers)
    c.loop-text.invariant

pub loop-text-smaller : goal.loop-text-smaller
loop-text-smaller c = cut_leaves_less c.loop-text.rest.now c.in-Some.text.now c.in-Some.more.now c.in-Some.ensures

pub loop-text-preserved : goal.loop-text-preserved
loop-text-preserved c =
    counted_next c.args.log.now c.loop-text.rest.now c.in-Some.text.now c.in-Some.more.now (value_of c.args.greatest.now) (value_of c.loop-text.numbers)
    (value_of c.counted-numbers.result) c.in-Some.ensures
    c.in_ok-found.found c.in_ok-found.ensures.0 c.in_ok-found.ensures.1 c.in_ok-found.ensures.2 c.counted-numbers.ensures c.loop-text.invariant

pub returns : goal.returns
returns c = counted_all c.args.log.now c.loop-text.rest.now (value_of c.args.greatest.now) (value_of c.loop-text.numbers) c.in_default.ensures
    c.loop-text.invariant
