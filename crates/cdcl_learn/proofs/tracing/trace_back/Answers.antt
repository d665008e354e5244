use Rattle.std.proofs.Common.{◌≡◌, ◌≤◌, ◌∙◌, sym, ap, arith, subst, slice_index, inl, inr}
use Rattle.cdcl_learn.specs.Sight.{sight, level_of, reason_of}
use Rattle.cdcl_learn.proofs.TraceLemmas.{traced_root}
use Rattle.cdcl_learn.proofs.SoundLemmas.{sound_sight, reason_place}
use Rattle.cdcl_learn.proofs.tracing.trace_back.Goals as goal

pub returns-then-level_of-eq0-clause-traced : goal.returns-then-level_of-eq0-clause-traced
returns-then-level_of-eq0-clause-traced c = traced_root (sight c.args.arena.now c.args.trail.now) c.args.l c.clear.new.self.rest c.requires.implied.falsified
    (ap (λ v. slice_index c.args.trail.now.levels v) (sym c.var-v.ensures.value) ∙ sym c.level_of.ensures.value ∙ c.if-level_of-eq0.true) c.clear.ensures.rest

pub returns-in-None-clause-traced : goal.returns-in-None-clause-traced
returns-in-None-clause-traced c =
    let level : level_of (sight c.args.arena.now c.args.trail.now) c.args.l ≡ c.level_of.result = ap (λ v. slice_index c.args.trail.now.levels v)
    (sym c.var-v.ensures.value) ∙ sym c.level_of.ensures.value in
    let high = c.if-level_of-eq0.false in
    let none : reason_of (sight c.args.arena.now c.args.trail.now) c.args.l ≡ 0 = ap (λ v. slice_index c.args.trail.now.reasons v) (sym c.var-v.ensures.value)
    ∙ c.in-None.ensures.value in
    elim c.requires.implied.undecided [ inl z ↦ absurd (high (sym level ∙ z)) | inr some ↦ absurd (omega arith) ]

pub len_of-clauses-requires : goal.len_of-clauses-requires
len_of-clauses-requires c =
    let e = c.in-Some.ensures.value.0 in
    reason_place c.args.arena.now c.args.trail.now c.args.l c.in-Some.c.0 c.requires.reasoned c.requires.implied.falsified
    (ap (λ v. slice_index c.args.trail.now.reasons v) (sym c.var-v.ensures.value) ∙ e) (subst (λ n. 1 ≤ n) e c.in-Some.ensures.value.1)

pub trace-requires-clause-sound : goal.trace-requires-clause-sound
trace-requires-clause-sound c = sound_sight c.args.arena.now c.args.trail.now c.requires.arena c.len_of-clauses.ensures.attached c.level_of.ensures.marks
    c.requires.reasoned

pub trace-requires-clause-from : goal.trace-requires-clause-from
trace-requires-clause-from c = subst (λ n. 1 ≤ n) c.in-Some.ensures.value.0 c.in-Some.ensures.value.1

pub trace-requires-clause-reason : goal.trace-requires-clause-reason
trace-requires-clause-reason c = ap (λ v. slice_index c.args.trail.now.reasons v) (sym c.var-v.ensures.value) ∙ c.in-Some.ensures.value.0
