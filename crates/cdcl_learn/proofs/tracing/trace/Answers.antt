use Rattle.std.proofs.Common.{◌≡◌, ◌≤◌, ◌+◌, ◌∙◌, ◌∷◌, [], sym, ap, arith, length, subst, refl}
use Rattle.cnf_core.specs.Lit.{negate}
use Rattle.cdcl_learn.specs.Sight.{sight, reason_of}
use Rattle.cdcl_learn.specs.Cut.{Cut}
use Rattle.cdcl_learn.specs.Trace.{IsTracing, IsTrace}
use Rattle.cdcl_learn.proofs.RupLemmas.{clause_there}
use Rattle.cdcl_learn.proofs.TraceLemmas.{place_from_reason, trace_begin, tracing_begin}
use Rattle.cdcl_learn.proofs.tracing.trace.Goals as goal

pub touch_all-requires-clause-clause : goal.touch_all-requires-clause-clause
touch_all-requires-clause-clause c = place_from_reason (sight c.args.arena.now c.args.trail.now) c.args.l c.args.l.var c.args.reason.0 c.requires.sound
    c.requires.falsified refl c.requires.reason (subst (λ n. 1 ≤ n) (sym c.requires.reason) c.requires.from)

pub touch_all-requires-clause-there : goal.touch_all-requires-clause-there
touch_all-requires-clause-there c = clause_there (sight c.args.arena.now c.args.trail.now) c.args.reason.0 c.requires.sound (touch_all-requires-clause-clause c)

pub returns-clause-traced : goal.returns-clause-traced
returns-clause-traced c =
    let e = c.requires.reason in
    let some = c.requires.from in
    let has_one : reason_of (sight c.args.arena.now c.args.trail.now) c.args.l ≡ 0 → ⊥ = λ z. absurd (omega arith) in
    let le = c.requires.there.1 in
    let begun : IsTrace (sight c.args.arena.now c.args.trail.now) c.add_open.new.self (negate c.args.l ∷ []) = subst
    (λ (w : Cut). IsTrace (sight c.args.arena.now c.args.trail.now) w (negate c.args.l ∷ [])) (sym c.add_open.ensures)
    (trace_begin (sight c.args.arena.now c.args.trail.now) c.clear.new.self c.args.l (c.clear.ensures.size ∙ ap (λ n. n + 1) c.requires.vars) le
    c.clear.ensures.blank c.clear.ensures.rest has_one) in
    c.walk_down.ensures.traced (negate c.args.l ∷ []) (subst (λ (x : Cut). IsTracing (sight c.args.arena.now c.args.trail.now) x (negate c.args.l ∷ [])
    (length c.args.trail.now.lits)) (sym c.touch_all.ensures.value)
    (tracing_begin (sight c.args.arena.now c.args.trail.now) c.add_open.new.self c.args.l c.args.reason.0 c.requires.sound begun c.requires.falsified e some))
