use Rattle.std.proofs.Common.{◌-◌, List, ℕ, length, sym, ◌∙◌, ap, subst, arith}
use Rattle.std.specs.Prelude.{All}
use Rattle.cnf_core.specs.Lit.{Literal}
use Rattle.cnf_core.specs.Clause.{AreDistinct, IsNamed}
use Rattle.cdcl_core.specs.Belongs.{HasSpent, HasSolved, Belongs}
use Rattle.lex_minimise.proofs.LeftLemmas.{search_left}
use Rattle.law_core.specs.Known.{formula_of, task_of, KnowsWhy}
use Rattle.law_core.specs.Query.{query_of}
use Rattle.law_core.specs.Search.{layout_with}
use Rattle.law_core.proofs.AskLemmas.{distinct, named}
use Rattle.law_core.proofs.QueryLemmas.{ready_after, search_goes}
use Rattle.law_core.proofs.asking.query.Goals as goal

pub solve-requires-clause-distinct : goal.solve-requires-clause-distinct
solve-requires-clause-distinct g c = let k = c.args.known.now in
    subst AreDistinct (sym c.requires.assumed) (distinct (layout_with k) k.selecting.items c.args.wanted.now k.budget k.room c.requires.ready.selecting_are
    c.requires.places)

pub solve-requires-clause-named : goal.solve-requires-clause-named
solve-requires-clause-named g c = let k = c.args.known.now in
    subst (λ (ls : List Literal). All (λ l. IsNamed c.args.solver.now.clauses l.var) ls) (sym c.requires.assumed)
    (named (layout_with k) k.selecting.items c.args.wanted.now k.budget k.room c.args.solver.now.clauses c.requires.ready.selecting_are
    c.requires.ready.given.kept c.requires.places)

pub returns-in-Ok-clause-answer : goal.returns-in-Ok-clause-answer
returns-in-Ok-clause-answer g c = c.in-Ok.ensures.answer (formula_of (layout_with c.args.known.now)) c.requires.ready.given

pub returns-in-Ok-clause-refuted : goal.returns-in-Ok-clause-refuted
returns-in-Ok-clause-refuted g c = c.in-Ok.ensures.refuted (formula_of (layout_with c.args.known.now)) c.requires.ready.given

pub returns-in-Ok-clause-ready : goal.returns-in-Ok-clause-ready
returns-in-Ok-clause-ready g c =
    let k = c.args.known.now in
    let y = layout_with k in
    let s = c.in-Ok.ensures.searched in
    ready_after y k.selecting.items k.budget k.room c.args.solver.now c.solve.new.self c.in-Ok.answer s.learnt (omega arith) c.requires.ready s.kept
    (subst (λ n. HasSpent c.in-Ok.answer (k.budget - n) (length s.learnt)) c.learnt.ensures s.spent)
    (c.in-Ok.ensures.given (formula_of y) c.requires.ready.given)

pub returns-in-Ok-clause-lines : goal.returns-in-Ok-clause-lines
returns-in-Ok-clause-lines g c =
    let k = c.args.known.now in
    let y = layout_with k in
    let l = g.L.LogSink in
    let old = c.args.solver.now in
    let new = c.solve.new.self in
    let s = subst (λ n. HasSolved (l.tells c.args.log.now) (l.tells c.solve.new.log) c.args.assume.now old new c.in-Ok.answer (k.budget - n)
    (l.learnt c.args.log.now) (l.learnt c.solve.new.log))
    c.learnt.ensures c.in-Ok.ensures.searched in
    let limit = c.words.ensures.limit s.kept.failed in
    let same = s.kept.room in
    let is = c.requires.ready.room_is in
    search_goes y k.selecting.items k.budget k.room old new c.in-Ok.answer c.args.assume.now (l.tells c.args.log.now) (l.tells c.solve.new.log)
    (l.learnt c.args.log.now) (l.learnt c.solve.new.log)
    (omega arith) c.requires.ready (
      c.args.wanted.now,
      c.requires.places,
      c.requires.assumed
          ∙ ap (λ (xs : List ℕ). query_of xs c.args.wanted.now) c.requires.ready.selecting_are,
    ) s (c.in-Ok.ensures.answer (formula_of y) c.requires.ready.given)
    (omega (arith, limit, same, is))

pub returns-in-Err-Log-clause-leaves : goal.returns-in-Err-Log-clause-leaves
returns-in-Err-Log-clause-leaves g c =
    let k = g.L.LogSink in
    let x = c.args.known.now in
    search_left x.budget c.args.solver.now.learnt (x.budget - c.learnt.result) (k.learnt c.args.log.now) (k.learnt c.solve.new.log)
    (KnowsWhy (task_of (layout_with x) x.budget x.room) c.args.solver.now) (λ ls. Belongs ls c.args.solver.now) (k.tells c.args.log.now)
    (k.tells c.solve.new.log) (ap (λ n. x.budget - n) c.learnt.ensures) (λ lines b. (b.belongs, b.learnt_are, b.spent))
    c.in-Err-Log.ensures.derives c.in-Err-Log.ensures.gives c.in-Err-Log.ensures.few (g.met.L.LogSink.counted c.args.log.now)
    (g.met.L.LogSink.counted c.solve.new.log)

pub returns-in-Err-Memory-clause-leaves : goal.returns-in-Err-Memory-clause-leaves
returns-in-Err-Memory-clause-leaves g c =
    let k = g.L.LogSink in
    let x = c.args.known.now in
    search_left x.budget c.args.solver.now.learnt (x.budget - c.learnt.result) (k.learnt c.args.log.now) (k.learnt c.solve.new.log)
    (KnowsWhy (task_of (layout_with x) x.budget x.room) c.args.solver.now) (λ ls. Belongs ls c.args.solver.now) (k.tells c.args.log.now)
    (k.tells c.solve.new.log) (ap (λ n. x.budget - n) c.learnt.ensures) (λ lines b. (b.belongs, b.learnt_are, b.spent))
    c.in-Err-Memory.ensures.derives c.in-Err-Memory.ensures.gives c.in-Err-Memory.ensures.few (g.met.L.LogSink.counted c.args.log.now)
    (g.met.L.LogSink.counted c.solve.new.log)
