use Rattle.std.proofs.Common.{◌∙◌, sym, ap, arith, subst, slice_index}
use Rattle.cdcl_learn.specs.Sight.{sight}
use Rattle.cdcl_learn.specs.Cut.{Cut, is_seen}
use Rattle.cdcl_learn.specs.Trace.{IsTracing}
use Rattle.cdcl_learn.proofs.WalkLemmas.{reason_at}
use Rattle.cdcl_learn.proofs.RupLemmas.{clause_there}
use Rattle.cdcl_learn.proofs.TraceLemmas.{step_unseen, step_decided, step_resolved}
use Rattle.cdcl_learn.proofs.tracing.step.Goals as goal

pub touch_all-requires-clause-clause : goal.touch_all-requires-clause-clause
touch_all-requires-clause-clause c =
    let within = c.requires.within in
    let h = reason_at (sight c.args.arena.now c.args.trail.now) c.args.i c.var_at-v.result.0 c.in-Some.c.0 c.requires.sound (omega arith)
    c.var_at-v.ensures.value c.in-Some.ensures.value.0 c.in-Some.ensures.value.1 in
    h.place

pub touch_all-requires-clause-there : goal.touch_all-requires-clause-there
touch_all-requires-clause-there c = clause_there (sight c.args.arena.now c.args.trail.now) c.in-Some.c.0 c.requires.sound (touch_all-requires-clause-clause c)

pub returns-in-Some-clause-tracing : goal.returns-in-Some-clause-tracing
returns-in-Some-clause-tracing c = λ front tracing.
    let within = c.requires.within in
    let h = reason_at (sight c.args.arena.now c.args.trail.now) c.args.i c.var_at-v.result.0 c.in-Some.c.0 c.requires.sound (omega arith)
    c.var_at-v.ensures.value c.in-Some.ensures.value.0 c.in-Some.ensures.value.1 in
    subst (λ (w : Cut). IsTracing (sight c.args.arena.now c.args.trail.now) w front c.args.i) (sym c.touch_all.ensures.value)
    (step_resolved (sight c.args.arena.now c.args.trail.now) c.args.work.now front c.args.i c.in-Some.c.0 c.requires.sound tracing
    (sym (ap (is_seen c.args.work.now.seen) c.var_at-v.ensures.value) ∙ sym c.is_seen.ensures ∙ c.if-is_seen.true) h)

pub returns-in_default-clause-tracing : goal.returns-in_default-clause-tracing
returns-in_default-clause-tracing c = λ front tracing. step_decided (sight c.args.arena.now c.args.trail.now) c.args.work.now front c.args.i tracing
    (ap (λ v. slice_index c.args.trail.now.reasons v) (sym c.var_at-v.ensures.value) ∙ c.in_default.ensures.value)

pub returns-else-is_seen-clause-tracing : goal.returns-else-is_seen-clause-tracing
returns-else-is_seen-clause-tracing c = λ front tracing. step_unseen (sight c.args.arena.now c.args.trail.now) c.args.work.now front c.args.i tracing
    (sym (ap (is_seen c.args.work.now.seen) c.var_at-v.ensures.value) ∙ sym c.is_seen.ensures ∙ c.if-is_seen.false)
