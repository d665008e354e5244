use Rattle.std.proofs.Common.{◌-◌, length, ap, subst, arith}
use Rattle.cdcl_core.specs.Belongs.{HasSpent, HasSolved, Belongs}
use Rattle.drawing_cnf.specs.Layout.{layout_of}
use Rattle.lex_minimise.proofs.AskLemmas.{are_distinct}
use Rattle.lex_minimise.proofs.QueryLemmas.{all_named, ready_after, search_goes}
use Rattle.lex_minimise.proofs.LeftLemmas.{search_left}
use Rattle.lex_minimise.specs.Known.{KnowsLines}
use Rattle.lex_minimise.proofs.asking.query.Goals as goal

pub solve-requires-clause-distinct : goal.solve-requires-clause-distinct
solve-requires-clause-distinct g c = let k = c.args.known.now in
    are_distinct (layout_of k.encoded) k.told.items c.args.bounds.now c.args.assume.now c.requires.ready.facts c.requires.once c.requires.assumed

pub solve-requires-clause-named : goal.solve-requires-clause-named
solve-requires-clause-named g c = let k = c.args.known.now in
    all_named k.encoded k.told.items k.budget k.room c.args.solver.now c.args.bounds.now c.args.assume.now c.requires.ready c.requires.assumed

pub returns-in-Ok-clause-answer : goal.returns-in-Ok-clause-answer
returns-in-Ok-clause-answer g c = c.in-Ok.ensures.answer c.args.known.now.encoded.formula.clauses c.requires.ready.given

pub returns-in-Ok-clause-ready : goal.returns-in-Ok-clause-ready
returns-in-Ok-clause-ready g c =
    let k = c.args.known.now in
    let s = c.in-Ok.ensures.searched in
    ready_after k.encoded k.told.items k.budget k.room c.args.solver.now c.solve.new.self c.in-Ok.answer s.learnt (omega arith) c.requires.ready s.kept
    (subst (λ n. HasSpent c.in-Ok.answer (k.budget - n) (length s.learnt)) c.learnt.ensures s.spent)
    (c.in-Ok.ensures.given k.encoded.formula.clauses c.requires.ready.given)

pub returns-in-Ok-clause-lines : goal.returns-in-Ok-clause-lines
returns-in-Ok-clause-lines g c =
    let k = c.args.known.now in
    let l = g.L.LogSink in
    let old = c.args.solver.now in
    let new = c.solve.new.self in
    let s = subst (λ n. HasSolved (l.tells c.args.log.now) (l.tells c.solve.new.log) c.args.assume.now old new c.in-Ok.answer (k.budget - n)
    (l.learnt c.args.log.now) (l.learnt c.solve.new.log))
    c.learnt.ensures c.in-Ok.ensures.searched in
    let limit = c.words.ensures.limit s.kept.failed in
    let same = s.kept.room in
    let is = c.requires.ready.room_is in
    let vars = c.vars.ensures.limit in
    let value = c.vars.ensures.value in
    search_goes k.encoded k.told.items k.budget k.room old new c.args.bounds.now c.args.assume.now c.in-Ok.answer (l.tells c.args.log.now)
    (l.tells c.solve.new.log) (l.learnt c.args.log.now) (l.learnt c.solve.new.log)
    (omega arith) c.requires.ready c.requires.assumed s (c.in-Ok.ensures.answer k.encoded.formula.clauses c.requires.ready.given)
    (omega (arith, limit, same, is)) (omega (arith, vars, value))

pub returns-in-Err-Log-clause-leaves : goal.returns-in-Err-Log-clause-leaves
returns-in-Err-Log-clause-leaves g c =
    let k = g.L.LogSink in
    let x = c.args.known.now in
    search_left x.budget c.args.solver.now.learnt (x.budget - c.learnt.result) (k.learnt c.args.log.now) (k.learnt c.solve.new.log)
    (KnowsLines (layout_of x.encoded) x.told.items x.budget x.room c.args.solver.now) (λ ls. Belongs ls c.args.solver.now)
    (k.tells c.args.log.now) (k.tells c.solve.new.log) (ap (λ n. x.budget - n) c.learnt.ensures) (λ lines b. (b.belongs, b.learnt_are, b.spent))
    c.in-Err-Log.ensures.derives c.in-Err-Log.ensures.gives c.in-Err-Log.ensures.few (g.met.L.LogSink.counted c.args.log.now)
    (g.met.L.LogSink.counted c.solve.new.log)

pub returns-in-Err-Memory-clause-leaves : goal.returns-in-Err-Memory-clause-leaves
returns-in-Err-Memory-clause-leaves g c =
    let k = g.L.LogSink in
    let x = c.args.known.now in
    search_left x.budget c.args.solver.now.learnt (x.budget - c.learnt.result) (k.learnt c.args.log.now) (k.learnt c.solve.new.log)
    (KnowsLines (layout_of x.encoded) x.told.items x.budget x.room c.args.solver.now) (λ ls. Belongs ls c.args.solver.now)
    (k.tells c.args.log.now) (k.tells c.solve.new.log) (ap (λ n. x.budget - n) c.learnt.ensures) (λ lines b. (b.belongs, b.learnt_are, b.spent))
    c.in-Err-Memory.ensures.derives c.in-Err-Memory.ensures.gives c.in-Err-Memory.ensures.few (g.met.L.LogSink.counted c.args.log.now)
    (g.met.L.LogSink.counted c.solve.new.log)
