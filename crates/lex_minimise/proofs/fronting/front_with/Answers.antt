use Rattle.std.proofs.Common.{Err, refl, ap, List, IfOk, sym, subst}
use Rattle.drawing_cnf.specs.Bounded.{Bound}
use Rattle.drawing_cnf.specs.Layout.{Layout, layout, layout_of}
use Rattle.search_least.specs.Task.{IsLawful}
use Rattle.search_least.specs.Outcome.{first_lines}
use Rattle.trade_off.specs.Front.{IsFrontUpTo}
use Rattle.trade_off.specs.declared.outcome.FrontEnd.TheVariants.{Room}
use Rattle.trade_off.specs.Outcome.{IsRightFront, IsFrontLog, IsFrontLeft}
use Rattle.trade_off.proofs.FrontLemmas.{up_to_none}
use Rattle.lex_minimise.specs.Known.{KnowsLines, IsReady}
use Rattle.lex_minimise.specs.Task.{task_of}
use Rattle.lex_minimise.proofs.StartLemmas.{nothing_told, layout_is, IsFirst, first_ready, first_knows, whole_told, if_ok_from}
use Rattle.lex_minimise.proofs.FrontLemmas.{no_room_front}
use Rattle.lex_minimise.proofs.LeftLemmas.{front_unbegun, front_begun, behind_formula_left}
use Rattle.refute_log.proofs.StepLemmas.{on_err_weaker}
use Rattle.lex_minimise.proofs.fronting.front_with.Goals as goal
use Rattle.outside_io.proofs.Results.{on_err_anyway}

pub returns-in-Err-Room-clause-right : goal.returns-in-Err-Room-clause-right
returns-in-Err-Room-clause-right g c =
    let L = IsLawful (task_of (layout c.args.g.now c.args.t.now c.args.grid.now) c.args.limits.now.budget c.args.limits.now.room) in
    subst (IsFrontUpTo L c.args.a c.args.b) (sym c.new.ensures) (up_to_none L c.args.a c.args.b)

pub returns-in-Err-Room-clause-lines : goal.returns-in-Err-Room-clause-lines
returns-in-Err-Room-clause-lines g c =
    let k = g.L.LogSink in
    let y = layout c.args.g.now c.args.t.now c.args.grid.now in
    let budget = c.args.limits.now.budget in
    let room = c.args.limits.now.room in
    nothing_told c.args.solver.now room (k.learnt c.args.log.now) (IsFrontLog (task_of y budget room) c.args.a c.args.b c.new.result Room)
    (k.tells c.args.log.now) c.requires.new (no_room_front y budget room c.args.a c.args.b c.new.result
    (c.in-Err-Room.ensures.full (ap Err c.in-Err-Room.field-0-is)) c.new.ensures)

pub front_from-requires-clause-ready : goal.front_from-requires-clause-ready
front_from-requires-clause-ready g c =
    let e = c.in-Ok.ensures in
    let y = layout c.args.g.now c.args.t.now c.args.grid.now in
    let budget = c.args.limits.now.budget in
    let room = c.args.limits.now.room in
    let first : IsFirst y room c.in-Ok.encoded = record {
      layout = layout_is c.in-Ok.encoded c.args.g.now c.args.t.now c.args.grid.now e.graph e.order e.grid;
      whole = e.whole;
      bounds = e.bounds;
      kept = e.kept;
      clauses = e.clauses;
      vars = e.vars;
      words_fit = e.words_fit refl;
      vars_fit = e.vars_fit refl;
      covers = e.covers;
    } in
    subst (λ (bs : List Bound). IsReady c.in-Ok.encoded bs budget room c.add_clauses.new.solver) (sym c.new-2.ensures.items)
    (first_ready y budget room c.in-Ok.encoded c.formula.result.now c.args.solver.now c.add_clauses.new.solver first c.formula.ensures c.requires.new
    c.in_ok-add_clauses.ensures.taken)

pub front_from-requires-clause-start : goal.front_from-requires-clause-start
front_from-requires-clause-start g c =
    let k = g.L.LogSink in
    let e = c.in-Ok.ensures in
    let y = layout c.args.g.now c.args.t.now c.args.grid.now in
    let budget = c.args.limits.now.budget in
    let room = c.args.limits.now.room in
    let first : IsFirst y room c.in-Ok.encoded = record {
      layout = layout_is c.in-Ok.encoded c.args.g.now c.args.t.now c.args.grid.now e.graph e.order e.grid;
      whole = e.whole;
      bounds = e.bounds;
      kept = e.kept;
      clauses = e.clauses;
      vars = e.vars;
      words_fit = e.words_fit refl;
      vars_fit = e.vars_fit refl;
      covers = e.covers;
    } in
    subst (λ (bs : List Bound). KnowsLines (layout_of c.in-Ok.encoded) bs budget room c.add_clauses.new.solver
    (first_lines (task_of (layout_of c.in-Ok.encoded) budget room))) (sym c.new-2.ensures.items)
    (first_knows y budget room c.in-Ok.encoded c.formula.result.now c.args.solver.now c.add_clauses.new.solver (k.tells c.args.log.now)
    (k.tells c.add_clauses.new.log) (k.learnt c.args.log.now) (k.learnt c.add_clauses.new.log)
    first c.formula.ensures c.requires.new c.in_ok-add_clauses.ensures.taken c.in_ok-add_clauses.ensures.lines)

pub returns-clause-right : goal.returns-clause-right
returns-clause-right g c =
    let e = c.in-Ok.ensures in
    subst (λ (z : Layout). IfOk c.front_from.result (λ r. IsRightFront (IsLawful (task_of z c.args.limits.now.budget c.args.limits.now.room)) c.args.a c.args.b
    r.pairs r.ending))
    (layout_is c.in-Ok.encoded c.args.g.now c.args.t.now c.args.grid.now e.graph e.order e.grid) c.front_from.ensures.right

pub returns-clause-lines : goal.returns-clause-lines
returns-clause-lines g c =
    let k = g.L.LogSink in
    let e = c.in-Ok.ensures in
    let y = layout c.args.g.now c.args.t.now c.args.grid.now in
    let budget = c.args.limits.now.budget in
    let room = c.args.limits.now.room in
    let first : IsFirst y room c.in-Ok.encoded = record {
      layout = layout_is c.in-Ok.encoded c.args.g.now c.args.t.now c.args.grid.now e.graph e.order e.grid;
      whole = e.whole;
      bounds = e.bounds;
      kept = e.kept;
      clauses = e.clauses;
      vars = e.vars;
      words_fit = e.words_fit refl;
      vars_fit = e.vars_fit refl;
      covers = e.covers;
    } in
    if_ok_from c.front_from.result _ _ c.front_from.ensures.lines
    (λ r second. whole_told y budget room c.in-Ok.encoded c.formula.result.now (λ z lines. IsFrontLog (task_of z budget room) c.args.a c.args.b r.pairs r.ending
    lines) c.args.solver.now c.add_clauses.new.solver c.front_from.new.solver
    (k.tells c.args.log.now) (k.tells c.add_clauses.new.log) (k.tells c.front_from.new.log) (k.learnt c.args.log.now) (k.learnt c.add_clauses.new.log)
    (k.learnt c.front_from.new.log)
    first c.formula.ensures c.requires.new c.in_ok-add_clauses.ensures.lines second)

pub returns-in-Err-Memory-clause-left : goal.returns-in-Err-Memory-clause-left
returns-in-Err-Memory-clause-left g c =
    let k = g.L.LogSink in
    λ none lines is. front_unbegun (layout c.args.g.now c.args.t.now c.args.grid.now) c.args.limits.now.budget c.args.limits.now.room c.args.a c.args.b
    (k.tells c.args.log.now) (g.met.L.LogSink.one_reading c.args.log.now) none lines is

pub returns-in_err-add_clauses-clause-left : goal.returns-in_err-add_clauses-clause-left
returns-in_err-add_clauses-clause-left g c =
    let k = g.L.LogSink in
    let e = c.in-Ok.ensures in
    let y = layout c.args.g.now c.args.t.now c.args.grid.now in
    let budget = c.args.limits.now.budget in
    let room = c.args.limits.now.room in
    let first : IsFirst y room c.in-Ok.encoded = record {
      layout = layout_is c.in-Ok.encoded c.args.g.now c.args.t.now c.args.grid.now e.graph e.order e.grid;
      whole = e.whole;
      bounds = e.bounds;
      kept = e.kept;
      clauses = e.clauses;
      vars = e.vars;
      words_fit = e.words_fit refl;
      vars_fit = e.vars_fit refl;
      covers = e.covers;
    } in
    on_err_anyway _ _ (front_begun y budget room c.args.a c.args.b c.in-Ok.encoded c.formula.result.now c.args.solver.now (k.tells c.args.log.now)
    (k.tells c.add_clauses.new.log) first c.formula.ensures c.requires.new c.in_err-add_clauses.ensures.leaves)

pub returns-clause-left : goal.returns-clause-left
returns-clause-left g c =
    let k = g.L.LogSink in
    let e = c.in-Ok.ensures in
    let y = layout c.args.g.now c.args.t.now c.args.grid.now in
    let budget = c.args.limits.now.budget in
    let room = c.args.limits.now.room in
    let first : IsFirst y room c.in-Ok.encoded = record {
      layout = layout_is c.in-Ok.encoded c.args.g.now c.args.t.now c.args.grid.now e.graph e.order e.grid;
      whole = e.whole;
      bounds = e.bounds;
      kept = e.kept;
      clauses = e.clauses;
      vars = e.vars;
      words_fit = e.words_fit refl;
      vars_fit = e.vars_fit refl;
      covers = e.covers;
    } in
    on_err_weaker c.front_from.result _ _ (behind_formula_left (λ p lines. IsFrontLeft p c.args.a c.args.b lines) y budget room c.in-Ok.encoded
    c.formula.result.now c.args.solver.now c.add_clauses.new.solver (k.tells c.args.log.now) (k.tells c.add_clauses.new.log) (k.tells c.front_from.new.log)
    (k.learnt c.args.log.now) (k.learnt c.add_clauses.new.log)
    first c.formula.ensures c.requires.new c.in_ok-add_clauses.ensures.lines) c.front_from.ensures.left
