use Rattle.std.proofs.Common.{◌≡◌, ◌+◌, ◌-◌, ◌++◌, ◌∷◌, [], List, length, refl, sym, ◌∙◌, ap, subst, arith}
use Rattle.cnf_core.specs.Clause.{words_of}
use Rattle.cnf_core.specs.Formula.{Cnf}
use Rattle.drawing_cnf.specs.Bounded.{Bound, bound}
use Rattle.drawing_cnf.specs.Encoding.{Encoding, encoded_vars}
use Rattle.drawing_cnf.specs.Lists.{lines_of_bound}
use Rattle.search_least.specs.declared.oracle.Built.TheVariants.{NoRoom, Whole}
use Rattle.search_least.specs.Built.{IsBuild}
use Rattle.drawing_cnf.specs.Layout.{layout_of, problem_of}
use Rattle.lex_minimise.specs.Known.{KnowsLines, IsReady}
use Rattle.lex_minimise.specs.Task.{task_of}
use Rattle.refute_log.specs.Steps.{GoesOn}
use Rattle.drawing_cnf.specs.Behind.{clauses_behind, PassesWith}
use Rattle.lex_minimise.proofs.GrownLemmas.{some_grown, none_grown, grown_words, grown_rest, is_grown, no_room, grown_as, goes_as, goes_to, built_whole}
use Rattle.lex_minimise.proofs.GrownLemmas.{build_goes}
use Rattle.lex_minimise.proofs.RoomLemmas.{formula_passes, solver_passes, none_goes}
use Rattle.refute_log.proofs.StepLemmas.{leaves_same, leaves_more}
use Rattle.lex_minimise.proofs.LeftLemmas.{build_left}
use Rattle.refute_log.specs.Expected.{sum_lines}
use Rattle.lex_minimise.proofs.building.build.Goals as goal
use Rattle.outside_io.proofs.Results.{on_err_anyway}

pub overflow_sub-more : goal.overflow_sub-more
overflow_sub-more g c =
    let k = c.args.known.now in
    let m = c.bounds_for.new.known in
    let b = bound c.args.c k.encoded.formula.vars c.args.cap in
    let grown = some_grown c.in_ok-bounds_for.field-0 c.in-Some.bounds b (PassesWith k.encoded b) k.encoded m.encoded c.in-Some.is
    c.in_ok-bounds_for.ensures.bounds in
    let now = c.words.ensures.value ∙ ap (λ (f : Cnf). words_of f.clauses) c.formula-in-Some.ensures in
    let before = c.words-words.ensures.value ∙ ap (λ (f : Cnf). words_of f.clauses) c.formula-2.ensures in
    let all = grown_words k.encoded m.encoded b grown.1 in
    omega (arith, now, before, all)

pub returns-then-not-has_room-clause-lines : goal.returns-then-not-has_room-clause-lines
returns-then-not-has_room-clause-lines g c =
    let k = c.args.known.now in
    let l = g.L.LogSink in
    let m = c.bounds_for.new.known in
    let s = c.args.solver.now in
    let y = layout_of k.encoded in
    let b = bound c.args.c k.encoded.formula.vars c.args.cap in
    let grown = some_grown c.in_ok-bounds_for.field-0 c.in-Some.bounds b (PassesWith k.encoded b) k.encoded m.encoded c.in-Some.is
    c.in_ok-bounds_for.ensures.bounds in
    let now = c.words.ensures.value ∙ ap (λ (f : Cnf). words_of f.clauses) c.formula-in-Some.ensures in
    let before = c.words-words.ensures.value ∙ ap (λ (f : Cnf). words_of f.clauses) c.formula-2.ensures in
    let all = grown_words k.encoded m.encoded b grown.1 in
    let same = ap (λ n. words_of (clauses_behind k.encoded (bound c.args.c n c.args.cap))) c.requires.ready.vars in
    let full = no_room c.has_room.result (s.words + (c.words.result - c.words-words.result)) m.room c.has_room.ensures c.if-not-has_room.true in
    let o = c.in_ok-bounds_for.ensures in
    let room = o.room in
    goes_to y (layout_of m.encoded) m.told.items k.budget m.budget k.room m.room s (KnowsLines y k.told.items k.budget k.room s) (l.tells c.args.log.now)
    (l.tells c.args.log.now) (l.learnt c.args.log.now) (l.learnt c.args.log.now)
    (λ lines more. IsBuild (task_of y k.budget k.room) s.vars c.args.c c.args.cap NoRoom lines more) o.layout o.budget o.room
    (subst (λ (ts : List Bound). GoesOn (KnowsLines y k.told.items k.budget k.room s) (KnowsLines y ts k.budget k.room s) (l.tells c.args.log.now)
    (l.tells c.args.log.now) (l.learnt c.args.log.now) (l.learnt c.args.log.now)
    (λ lines more. IsBuild (task_of y k.budget k.room) s.vars c.args.c c.args.cap NoRoom lines more)) (sym c.in_ok-bounds_for.ensures.told)
    (none_goes k.encoded k.told.items k.budget k.room s (l.tells c.args.log.now) (l.learnt c.args.log.now) c.args.c c.args.cap
    (λ lines known. solver_passes k.encoded k.told.items k.budget k.room s c.args.c c.args.cap
    (words_of (clauses_behind k.encoded (bound c.args.c s.vars c.args.cap))) lines c.requires.positive c.requires.ready known refl
    (omega (arith, now, before, all, same, full, room)))))

pub tell_criterion-requires-clause-grown : goal.tell_criterion-requires-clause-grown
tell_criterion-requires-clause-grown g c =
    let k = c.args.known.now in
    let m = c.bounds_for.new.known in
    let o = c.in_ok-bounds_for.ensures in
    let b = bound c.args.c k.encoded.formula.vars c.args.cap in
    let grown = some_grown c.in_ok-bounds_for.field-0 c.in-Some.bounds b (PassesWith k.encoded b) k.encoded m.encoded c.in-Some.is o.bounds in
    grown_as m.encoded k.told.items m.told.items k.budget m.budget k.room m.room b c.in-Some.bounds c.clauses-from.result c.args.solver.now o.told o.budget
    o.room grown.0
    (is_grown k.encoded m.encoded k.told.items k.budget k.room c.args.solver.now c.args.c c.args.cap c.clauses-from.result c.requires.ready grown.1
    c.requires.positive c.requires.limit c.requires.none
    (c.clauses-from.ensures.value ∙ ap (λ (f : Cnf). length f.clauses) c.formula.ensures))

pub tell_criterion-requires-clause-fits : goal.tell_criterion-requires-clause-fits
tell_criterion-requires-clause-fits g c =
    let k = c.args.known.now in
    let m = c.bounds_for.new.known in
    let b = bound c.args.c k.encoded.formula.vars c.args.cap in
    let grown = some_grown c.in_ok-bounds_for.field-0 c.in-Some.bounds b (PassesWith k.encoded b) k.encoded m.encoded c.in-Some.is
    c.in_ok-bounds_for.ensures.bounds in
    let now = c.words.ensures.value ∙ ap (λ (f : Cnf). words_of f.clauses) c.formula-in-Some.ensures in
    let before = c.words-words.ensures.value ∙ ap (λ (f : Cnf). words_of f.clauses) c.formula-2.ensures in
    let all = grown_words k.encoded m.encoded b grown.1 in
    let rest = ap words_of (grown_rest k.encoded m.encoded b c.clauses-from.result grown.1
    (c.clauses-from.ensures.value ∙ ap (λ (f : Cnf). length f.clauses) c.formula.ensures)) in
    let fits = (c.has_room.ensures).0 c.if-not-has_room.false in
    omega (arith, now, before, all, rest, fits)

pub returns-in-None-clause-lines : goal.returns-in-None-clause-lines
returns-in-None-clause-lines g c =
    let k = c.args.known.now in
    let l = g.L.LogSink in
    let s = c.args.solver.now in
    let y = layout_of k.encoded in
    let b = bound c.args.c k.encoded.formula.vars c.args.cap in
    let full = none_grown c.in_ok-bounds_for.field-0 b (PassesWith k.encoded b) k.encoded c.bounds_for.new.known.encoded c.in-None.is
    c.in_ok-bounds_for.ensures.bounds in
    let m = c.bounds_for.new.known in
    let o = c.in_ok-bounds_for.ensures in
    goes_to y (layout_of m.encoded) m.told.items k.budget m.budget k.room m.room s (KnowsLines y k.told.items k.budget k.room s) (l.tells c.args.log.now)
    (l.tells c.args.log.now) (l.learnt c.args.log.now) (l.learnt c.args.log.now)
    (λ lines more. IsBuild (task_of y k.budget k.room) s.vars c.args.c c.args.cap NoRoom lines more) o.layout o.budget o.room
    (subst (λ (ts : List Bound). GoesOn (KnowsLines y k.told.items k.budget k.room s) (KnowsLines y ts k.budget k.room s) (l.tells c.args.log.now)
    (l.tells c.args.log.now) (l.learnt c.args.log.now) (l.learnt c.args.log.now)
    (λ lines more. IsBuild (task_of y k.budget k.room) s.vars c.args.c c.args.cap NoRoom lines more)) (sym c.in_ok-bounds_for.ensures.told)
    (none_goes k.encoded k.told.items k.budget k.room s (l.tells c.args.log.now) (l.learnt c.args.log.now) c.args.c c.args.cap
    (λ lines known. formula_passes k.encoded k.told.items k.budget k.room s c.args.c c.args.cap lines c.requires.positive c.requires.ready known full)))

pub returns-in_ok-tell_criterion-in-Some-clause-built : goal.returns-in_ok-tell_criterion-in-Some-clause-built
returns-in_ok-tell_criterion-in-Some-clause-built g c =
    let k = c.args.known.now in
    let m = c.bounds_for.new.known in
    let n = c.tell_criterion.new.known in
    let t = c.in_ok-tell_criterion-in-Some.ensures in
    let o = c.in_ok-bounds_for.ensures in
    let b = bound c.args.c k.encoded.formula.vars c.args.cap in
    let grown = some_grown c.in_ok-bounds_for.field-0 c.in-Some.bounds b (PassesWith k.encoded b) k.encoded m.encoded c.in-Some.is o.bounds in
    built_whole k.encoded m.encoded k.told.items n.told.items k.budget k.room n.budget n.room c.args.solver.now c.tell_criterion.new.solver c.args.c c.args.cap
    c.requires.positive c.requires.ready grown.1
    (t.told ∙ ap (λ (ts : List Bound). ts ++ c.in-Some.bounds ∷ []) o.told ∙ ap (λ (x : Bound). k.told.items ++ x ∷ []) grown.0)
    (subst (λ (e : Encoding). IsReady e n.told.items n.budget n.room c.tell_criterion.new.solver) t.encoded t.ready)

pub returns-in_ok-tell_criterion-in-Some-clause-lines : goal.returns-in_ok-tell_criterion-in-Some-clause-lines
returns-in_ok-tell_criterion-in-Some-clause-lines g c =
    let k = c.args.known.now in
    let l = g.L.LogSink in
    let m = c.bounds_for.new.known in
    let n = c.tell_criterion.new.known in
    let s = c.args.solver.now in
    let new = c.tell_criterion.new.solver in
    let o = c.in_ok-bounds_for.ensures in
    let b = bound c.args.c k.encoded.formula.vars c.args.cap in
    let grown = some_grown c.in_ok-bounds_for.field-0 c.in-Some.bounds b (PassesWith k.encoded b) k.encoded m.encoded c.in-Some.is o.bounds in
    let t = c.in_ok-tell_criterion-in-Some.ensures in
    let y = layout_of k.encoded in
    goes_to y (layout_of n.encoded) n.told.items k.budget n.budget k.room n.room new (KnowsLines y k.told.items k.budget k.room s) (l.tells c.args.log.now)
    (l.tells c.tell_criterion.new.log) (l.learnt c.args.log.now) (l.learnt c.tell_criterion.new.log)
    (λ lines more. IsBuild (task_of y k.budget k.room) s.vars c.args.c c.args.cap Whole lines more)
    (ap layout_of t.encoded ∙ o.layout) (t.budget ∙ o.budget) (t.room ∙ o.room)
    (build_goes k.encoded m.encoded k.told.items n.told.items k.budget k.room s new c.args.c c.args.cap (l.tells c.args.log.now)
    (l.tells c.tell_criterion.new.log) (l.learnt c.args.log.now) (l.learnt c.tell_criterion.new.log)
    c.requires.positive c.requires.ready grown.1
    (goes_as m.encoded k.told.items m.told.items n.told.items k.budget m.budget k.room m.room b c.in-Some.bounds s new (l.tells c.args.log.now)
    (l.tells c.tell_criterion.new.log) (l.learnt c.args.log.now) (l.learnt c.tell_criterion.new.log)
    o.told o.budget o.room grown.0
    (goes_to (layout_of n.encoded) (layout_of m.encoded) n.told.items n.budget m.budget n.room m.room new
    (KnowsLines (layout_of m.encoded) m.told.items m.budget m.room s) (l.tells c.args.log.now) (l.tells c.tell_criterion.new.log) (l.learnt c.args.log.now)
    (l.learnt c.tell_criterion.new.log)
    (λ lines more. more ≡ lines_of_bound m.encoded.graph (encoded_vars m.encoded) m.encoded.grid c.in-Some.bounds) (ap layout_of (sym t.encoded)) (sym t.budget)
    (sym t.room) t.lines)))

pub returns-in_err-bounds_for-clause-leaves : goal.returns-in_err-bounds_for-clause-leaves
returns-in_err-bounds_for-clause-leaves g c =
    let k = g.L.LogSink in
    let x = c.args.known.now in
    let known = KnowsLines (layout_of x.encoded) x.told.items x.budget x.room c.args.solver.now in
    on_err_anyway _ _ (leaves_more [] (sum_lines (problem_of (layout_of x.encoded)) c.args.solver.now.vars c.args.c c.args.cap) known (k.tells c.args.log.now)
    (k.tells c.args.log.now)
    (leaves_same known (k.tells c.args.log.now) (λ lines b. b.belongs.derives) (g.met.L.LogSink.one_reading c.args.log.now)))

pub returns-in_err-tell_criterion-in-Some-clause-leaves : goal.returns-in_err-tell_criterion-in-Some-clause-leaves
returns-in_err-tell_criterion-in-Some-clause-leaves g c =
    let k = g.L.LogSink in
    let x = c.args.known.now in
    let m = c.bounds_for.new.known in
    let o = c.in_ok-bounds_for.ensures in
    let b = bound c.args.c x.encoded.formula.vars c.args.cap in
    let grown = some_grown c.in_ok-bounds_for.field-0 c.in-Some.bounds b (PassesWith x.encoded b) x.encoded m.encoded c.in-Some.is o.bounds in
    on_err_anyway _ _ (build_left x.encoded m.encoded x.told.items m.told.items x.budget m.budget x.room m.room c.args.solver.now c.args.c c.args.cap
    c.in-Some.bounds (k.tells c.args.log.now) (k.tells c.tell_criterion.new.log)
    c.requires.positive c.requires.ready grown.1 grown.0 o.told o.budget o.room c.in_err-tell_criterion-in-Some.ensures.leaves)
