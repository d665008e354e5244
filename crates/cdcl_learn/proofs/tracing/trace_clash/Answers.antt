use Rattle.std.proofs.Common.{◌+◌, ◌∙◌, [], sym, ap, length, subst}
use Rattle.cdcl_learn.specs.Sight.{sight}
use Rattle.cdcl_learn.specs.Cut.{Cut}
use Rattle.cdcl_learn.specs.Trace.{IsTracing}
use Rattle.cdcl_learn.proofs.RupLemmas.{clause_there}
use Rattle.cdcl_learn.proofs.TraceLemmas.{clash_begin, tracing_clash}
use Rattle.cdcl_learn.proofs.tracing.trace_clash.Goals as goal

pub touch_all-requires-clause-there : goal.touch_all-requires-clause-there
touch_all-requires-clause-there c = clause_there (sight c.args.arena.now c.args.trail.now) c.args.clash.0 c.requires.sound c.requires.clash.place

pub returns-clause-traced : goal.returns-clause-traced
returns-clause-traced c = c.walk_down.ensures.traced [] (subst (λ (x : Cut). IsTracing (sight c.args.arena.now c.args.trail.now) x []
    (length c.args.trail.now.lits)) (sym c.touch_all.ensures.value)
    (tracing_clash (sight c.args.arena.now c.args.trail.now) c.clear.new.self c.args.clash.0 c.requires.sound
    (clash_begin (sight c.args.arena.now c.args.trail.now) c.clear.new.self (c.clear.ensures.size ∙ ap (λ n. n + 1) c.requires.vars) c.clear.ensures.blank
    c.clear.ensures.rest) c.requires.clash.place c.requires.clash.all_false))
