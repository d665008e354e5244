use Rattle.std.proofs.Common.{◌+◌, ◌∷◌, [], ◌∙◌, subst, arith}
use Rattle.plan_core.specs.declared.criterion.Criterion.{Criterion}
use Rattle.refute_log.specs.declared.line.LogLine.TheVariants.{Bound as BoundLine}
use Rattle.refute_log.specs.Told.{AddsAll}
use Rattle.refute_log.specs.Expected.{bound_lines}
use Rattle.drawing_cnf.specs.Lists.{variables_behind}
use Rattle.lex_minimise.proofs.TellLemmas.{bounds_next, adds_then}
use Rattle.lex_minimise.proofs.LeftLemmas.{bounds_left}
use Rattle.lex_minimise.proofs.telling.tell_bounds.Goals as goal

pub loop-i-preserved : goal.loop-i-preserved
loop-i-preserved g c =
    let k = g.L.LogSink in
    let b = c.args.bounds.now in
    let i = c.loop-i.i in
    let x = c.var.result in
    let line = subst (λ (d : Criterion). AddsAll (k.tells c.loop-i.log) (k.tells c.tell.new.self) (BoundLine d (i + 1) x ∷ [])) c.criterion.ensures
    c.in-Ok.ensures.ok in
    record {
      lines = adds_then (k.tells c.args.log.now) (k.tells c.loop-i.log) (k.tells c.tell.new.self) (bound_lines b.criterion 1 (variables_behind b.last i))
          (BoundLine b.criterion (i + 1) x ∷ []) (bound_lines b.criterion 1 (variables_behind b.last (i + 1)))
          c.loop-i.invariant.lines line (bounds_next b.criterion b.last i x c.var.ensures.value);
      learnt = c.in-Ok.ensures.learnt ∙ c.loop-i.invariant.learnt;
      later = g.met.L.LogSink.later_more c.args.log.now c.loop-i.log c.tell.new.self c.loop-i.invariant.later c.tell.ensures.later;
      faults = (let a = c.loop-i.invariant.faults in let e = c.tell.ensures.faults in omega arith);
    }

pub returns-in-Err-clause-leaves : goal.returns-in-Err-clause-leaves
returns-in-Err-clause-leaves g c =
    let k = g.L.LogSink in
    bounds_left (k.tells c.args.log.now) (k.tells c.loop-i.log) (k.tells c.tell.new.self) c.args.bounds.now.criterion c.args.bounds.now.last c.loop-i.i
    c.args.bounds.now.cap (omega arith) c.loop-i.invariant.lines c.in-Err.ensures.err (g.met.L.LogSink.one_reading c.loop-i.log)
