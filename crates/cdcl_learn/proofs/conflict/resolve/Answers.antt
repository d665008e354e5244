use Rattle.std.proofs.Common.{◌≡◌, ◌<◌, ◌≤◌, ◌∙◌, sym, ap, arith, ◌+◌, subst}
use Rattle.std.specs.Prelude.{◌∷◌, All}
use Rattle.cnf_core.specs.Lit.{Literal, negate}
use Rattle.cdcl_learn.specs.Sight.{sight, nth, clause_in}
use Rattle.cdcl_learn.specs.Cut.{Cut, cut_with_all, IsSeen, IsResolving, IsLearnt}
use Rattle.cdcl_learn.proofs.LiteralLemmas.{at_place}
use Rattle.cdcl_learn.proofs.RupLemmas.{clause_there, ready_start, stage_resolve, stage_learnt, stage_seen}
use Rattle.cdcl_learn.proofs.WalkLemmas.{reason_at, reason_none}
use Rattle.cdcl_learn.proofs.conflict.resolve.Goals as goal
use Rattle.cdcl_learn.proofs.conflict.resolve.Goals.{in-Some, in_default}

pub add_all-requires-clause-there : goal.add_all-requires-clause-there
add_all-requires-clause-there c = clause_there (sight c.args.arena.now c.args.trail.now) c.args.clash.0 c.requires.sound c.requires.clash.place

pub last_seen-i-requires-clause-ready : goal.last_seen-i-requires-clause-ready
last_seen-i-requires-clause-ready c =
    rw (c.add_all.ensures.value, c.len.ensures.value) (ready_start (sight c.args.arena.now c.args.trail.now) c.clear.new.self c.args.clash.0 c.requires.sound
    c.requires.clash (c.clear.ensures.size ∙ ap (λ n. n + 1) c.requires.vars) c.clear.ensures.blank c.clear.ensures.rest c.clear.ensures.pending)

pub add_all-requires-in-Some-clause-clause : goal.add_all-requires-in-Some-clause-clause
add_all-requires-in-Some-clause-clause c =
    let h = reason_at (sight c.args.arena.now c.args.trail.now) c.loop-work.i c.var_at.result.0 c.in-Some.c.0 c.requires.sound c.loop-work.invariant.stage.below
    c.var_at.ensures.value c.in-Some.ensures.value.0 c.in-Some.ensures.value.1 in
    h.place

pub add_all-requires-in-Some-clause-there : goal.add_all-requires-in-Some-clause-there
add_all-requires-in-Some-clause-there c = clause_there (sight c.args.arena.now c.args.trail.now) c.in-Some.c.0 c.requires.sound
    (add_all-requires-in-Some-clause-clause c)

pub last_seen-i-requires-in-loop-work-clause-ready :
    goal.last_seen-i-requires-in-loop-work-clause-ready
last_seen-i-requires-in-loop-work-clause-ready c =
    let above = c.requires.clash.above in
    elim c.match-reason.branch [
      | in-Some w ↦
          let h = reason_at (sight c.args.arena.now c.args.trail.now) c.loop-work.i c.var_at.result.0 w.in-Some.c.0 c.requires.sound
          c.loop-work.invariant.stage.below c.var_at.ensures.value w.in-Some.ensures.value.0 w.in-Some.ensures.value.1 in
          let more : 1 < c.loop-work.work.pending = omega arith in
          let ready = stage_resolve (sight c.args.arena.now c.args.trail.now) c.loop-work.work c.loop-work.i w.in-Some.c.0 c.requires.sound
          c.loop-work.invariant.stage more h in
          subst (λ (x : Cut). IsResolving (sight c.args.arena.now c.args.trail.now) x c.loop-work.i)
          (sym (w.work-is ∙ w.add_all-in-Some.ensures.value ∙ ap (λ (x : Cut). cut_with_all (sight c.args.arena.now c.args.trail.now) x
          (clause_in (sight c.args.arena.now c.args.trail.now) w.in-Some.c.0)) c.close.ensures)) ready
      | in_default w ↦
          let more : 1 < c.loop-work.work.pending = omega arith in
          absurd (reason_none (sight c.args.arena.now c.args.trail.now) c.loop-work.work c.loop-work.i c.var_at.result.0 c.requires.sound above
          c.loop-work.invariant.stage more c.var_at.ensures.value w.in_default.ensures.value)
    ]

pub returns-clause-learnt : goal.returns-clause-learnt
returns-clause-learnt c =
    let one : c.loop-work.work.pending ≤ 1 = omega arith in
    let is : c.negated.result ≡ negate (nth (sight c.args.arena.now c.args.trail.now) c.loop-work.i) = c.negated.ensures
    ∙ ap negate (sym (at_place (sight c.args.arena.now c.args.trail.now) c.loop-work.i c.lit.result c.loop-work.invariant.stage.below c.lit.ensures.value)) in
    subst (λ (l : Literal). IsLearnt (sight c.args.arena.now c.args.trail.now) l c.loop-work.work.rest) (sym is)
    (stage_learnt (sight c.args.arena.now c.args.trail.now) c.loop-work.work c.loop-work.i c.requires.sound c.requires.clash.above c.loop-work.invariant.stage
    one)

pub returns-clause-marks : goal.returns-clause-marks
returns-clause-marks c = c.loop-work.invariant.stage.cut.all

pub returns-clause-seen : goal.returns-clause-seen
returns-clause-seen c =
    let is : c.negated.result ≡ negate (nth (sight c.args.arena.now c.args.trail.now) c.loop-work.i) = c.negated.ensures
    ∙ ap negate (sym (at_place (sight c.args.arena.now c.args.trail.now) c.loop-work.i c.lit.result c.loop-work.invariant.stage.below c.lit.ensures.value)) in
    subst (λ (l : Literal). All (λ k. IsSeen c.loop-work.work k.var) (l ∷ c.loop-work.work.rest)) (sym is)
    (stage_seen (sight c.args.arena.now c.args.trail.now) c.loop-work.work c.loop-work.i c.loop-work.invariant.stage)

pub returns-clause-named : goal.returns-clause-named
returns-clause-named c = c.loop-work.invariant.stage.cut.named

pub returns-clause-above : goal.returns-clause-above
returns-clause-above c = c.loop-work.invariant.stage.cut.above
