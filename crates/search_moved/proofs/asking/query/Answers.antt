use Rattle.std.proofs.Common.{◌-◌, List, length, ap, sym, subst, arith}
use Rattle.std.specs.Prelude.{All}
use Rattle.cnf_core.specs.Lit.{Literal}
use Rattle.cnf_core.specs.Clause.{AreDistinct, IsNamed}
use Rattle.cdcl_core.specs.Kept.{IsTrueAnswer}
use Rattle.cdcl_core.specs.Belongs.{HasSpent, HasSolved, Belongs}
use Rattle.lex_minimise.proofs.LeftLemmas.{search_left}
use Rattle.drawing_cnf.specs.Layout.{layout_of}
use Rattle.search_moved.specs.Known.{formula_of, moved_task, KnowsMoved}
use Rattle.search_least.specs.CountAsked.{query_of}
use Rattle.search_moved.proofs.MovedLemmas.{distinct, named, ready_after, search_goes}
use Rattle.search_moved.proofs.asking.query.Goals as goal

pub solve-requires-clause-distinct : goal.solve-requires-clause-distinct
solve-requires-clause-distinct g c = let k = c.args.known.now in
    subst AreDistinct (sym c.requires.assumed) (distinct (moved_task (layout_of k.encoded) k.former.now k.budget k.room) c.args.limit)

pub solve-requires-clause-named : goal.solve-requires-clause-named
solve-requires-clause-named g c = let k = c.args.known.now in
    subst (λ (ls : List Literal). All (λ l. IsNamed c.args.solver.now.clauses l.var) ls) (sym c.requires.assumed)
    (named (layout_of k.encoded) k.former.now k.budget k.room c.args.solver.now.clauses c.args.limit c.requires.ready.facts c.requires.ready.given.kept
    c.requires.limit)

pub returns-in-Ok-clause-answer : goal.returns-in-Ok-clause-answer
returns-in-Ok-clause-answer g c = let k = c.args.known.now in
    c.in-Ok.ensures.answer (formula_of (layout_of k.encoded) k.former.now) c.requires.ready.given

pub returns-in-Ok-clause-ready : goal.returns-in-Ok-clause-ready
returns-in-Ok-clause-ready g c =
    let k = c.args.known.now in
    let s = c.in-Ok.ensures.searched in
    ready_after k.encoded k.former.now k.budget k.room c.args.solver.now c.solve.new.self c.in-Ok.answer s.learnt (omega arith) c.requires.ready s.kept
    (subst (λ n. HasSpent c.in-Ok.answer (k.budget - n) (length s.learnt)) c.learnt.ensures s.spent)
    (c.in-Ok.ensures.given (formula_of (layout_of k.encoded) k.former.now) c.requires.ready.given)

pub returns-in-Ok-clause-lines : goal.returns-in-Ok-clause-lines
returns-in-Ok-clause-lines g c =
    let k = c.args.known.now in
    let l = g.L.LogSink in
    let old = c.args.solver.now in
    let new = c.solve.new.self in
    let q = query_of (moved_task (layout_of k.encoded) k.former.now k.budget k.room) c.args.limit in
    let f = formula_of (layout_of k.encoded) k.former.now in
    let s = subst (λ n. HasSolved (l.tells c.args.log.now) (l.tells c.solve.new.log) c.args.assume.now old new c.in-Ok.answer (k.budget - n)
    (l.learnt c.args.log.now) (l.learnt c.solve.new.log))
    c.learnt.ensures c.in-Ok.ensures.searched in
    let solved = subst (λ (ls : List Literal). HasSolved (l.tells c.args.log.now) (l.tells c.solve.new.log) ls old new c.in-Ok.answer (k.budget - old.learnt)
    (l.learnt c.args.log.now) (l.learnt c.solve.new.log)) c.requires.assumed s in
    let true_answer = subst (λ (ls : List Literal). IsTrueAnswer c.in-Ok.answer f ls new) c.requires.assumed
    (c.in-Ok.ensures.answer f c.requires.ready.given) in
    let limit = c.words.ensures.limit s.kept.failed in
    let same = s.kept.room in
    let is = c.requires.ready.room_is in
    search_goes k.encoded k.former.now k.budget k.room old new c.args.limit c.in-Ok.answer (l.tells c.args.log.now) (l.tells c.solve.new.log)
    (l.learnt c.args.log.now) (l.learnt c.solve.new.log)
    (omega arith) c.requires.ready solved true_answer (omega (arith, limit, same, is))

pub returns-in-Err-Log-clause-leaves : goal.returns-in-Err-Log-clause-leaves
returns-in-Err-Log-clause-leaves g c =
    let l = g.L.LogSink in
    let k = c.args.known.now in
    let old = c.args.solver.now in
    search_left k.budget old.learnt (k.budget - c.learnt.result) (l.learnt c.args.log.now) (l.learnt c.solve.new.log)
    (KnowsMoved (layout_of k.encoded) k.former.now k.budget k.room old) (λ ls. Belongs ls old) (l.tells c.args.log.now) (l.tells c.solve.new.log)
    (ap (λ n. k.budget - n) c.learnt.ensures) (λ lines b. (b.belongs, b.learnt_are, b.spent)) c.in-Err-Log.ensures.derives c.in-Err-Log.ensures.gives
    c.in-Err-Log.ensures.few (g.met.L.LogSink.counted c.args.log.now) (g.met.L.LogSink.counted c.solve.new.log)

pub returns-in-Err-Memory-clause-leaves : goal.returns-in-Err-Memory-clause-leaves
returns-in-Err-Memory-clause-leaves g c =
    let l = g.L.LogSink in
    let k = c.args.known.now in
    let old = c.args.solver.now in
    search_left k.budget old.learnt (k.budget - c.learnt.result) (l.learnt c.args.log.now) (l.learnt c.solve.new.log)
    (KnowsMoved (layout_of k.encoded) k.former.now k.budget k.room old) (λ ls. Belongs ls old) (l.tells c.args.log.now) (l.tells c.solve.new.log)
    (ap (λ n. k.budget - n) c.learnt.ensures) (λ lines b. (b.belongs, b.learnt_are, b.spent)) c.in-Err-Memory.ensures.derives c.in-Err-Memory.ensures.gives
    c.in-Err-Memory.ensures.few (g.met.L.LogSink.counted c.args.log.now) (g.met.L.LogSink.counted c.solve.new.log)
