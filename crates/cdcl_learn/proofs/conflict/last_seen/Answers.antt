use Rattle.std.proofs.Common.{◌∙◌, sym, ap, arith}
use Rattle.cdcl_learn.specs.Sight.{sight}
use Rattle.cdcl_learn.specs.Cut.{is_seen}
use Rattle.cdcl_learn.proofs.WalkLemmas.{more_left}
use Rattle.cdcl_learn.proofs.RupLemmas.{stage_from}
use Rattle.cdcl_learn.proofs.conflict.last_seen.Goals as goal

pub overflow_sub-i-in-loop-i : goal.overflow_sub-i-in-loop-i
overflow_sub-i-in-loop-i c =
    more_left (sight c.args.arena.now c.args.trail.now) c.args.work.now c.args.end c.loop-i.i c.requires.ready c.loop-i.invariant.below c.loop-i.invariant.none
    (sym (ap (is_seen c.args.work.now.seen) c.var_at.ensures.value) ∙ sym c.is_seen.ensures ∙ c.loop-i-test.true)

pub loop-i-smaller : goal.loop-i-smaller
loop-i-smaller c = let some = overflow_sub-i-in-loop-i c in omega arith

pub returns-clause-stage : goal.returns-clause-stage
returns-clause-stage c = stage_from (sight c.args.arena.now c.args.trail.now) c.args.work.now c.args.end c.loop-i.i c.requires.sound c.requires.ready (record {
  below = c.loop-i.invariant.below;
  seen = sym (ap (is_seen c.args.work.now.seen) c.var_at.ensures.value) ∙ sym c.is_seen.ensures ∙ c.loop-i-test.false;
  none = c.loop-i.invariant.none;
})
