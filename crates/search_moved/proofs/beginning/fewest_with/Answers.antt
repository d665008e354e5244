use Rattle.std.proofs.Common.{◌≡◌, [], Err, length, sym, ◌∙◌, ap, subst, IfOk}
use Rattle.std.specs.Prelude.{Option, MatchOption}
use Rattle.plan_core.specs.Graph.{Graph}
use Rattle.refute_log.specs.Told.{Lines}
use Rattle.cnf_core.specs.Formula.{Cnf}
use Rattle.plan_core.specs.Grid.{IsGrid}
use Rattle.port_graph.specs.StationGraph.{IsStationGraph}
use Rattle.drawing_cnf.specs.Layout.{Layout, layout, layout_of}
use Rattle.search_least.specs.Fewest.{IsRightFewest}
use Rattle.search_moved.specs.Known.{moved_task}
use Rattle.search_moved.specs.Told.{FormulaPasses, IsCounting, IsMovedLeft}
use Rattle.outside_io.proofs.Results.{on_err_anyway}
use Rattle.refute_log.proofs.StepLemmas.{on_err_weaker}
use Rattle.search_moved.proofs.LeftLemmas.{left_none, left_begun, left_later}
use Rattle.lex_minimise.proofs.StartLemmas.{layout_is, if_ok_from}
use Rattle.search_moved.proofs.StartLemmas.{passes_first, nothing_told, nothing_told_of, both_fit, both_rise, begun_ready, begun_knows, whole_told}
use Rattle.search_moved.proofs.beginning.fewest_with.Goals as goal

pub returns-in-Err-Room-clause-lines : goal.returns-in-Err-Room-clause-lines
returns-in-Err-Room-clause-lines g c =
    let k = g.L.LogSink in
    let y = layout c.args.g.now c.args.t.now c.args.grid.now in
    nothing_told y c.args.former.now c.args.limits.now.budget c.args.limits.now.room (k.learnt c.args.log.now) (k.tells c.args.log.now)
    (passes_first y c.args.former.now c.args.limits.now.room (c.in-Err-Room.ensures.full (ap Err c.in-Err-Room.field-0-is)))

pub returns-in-None-clause-lines : goal.returns-in-None-clause-lines
returns-in-None-clause-lines g c =
    let k = g.L.LogSink in
    let e = c.in-Ok.ensures in
    let y_is = layout_is c.in-Ok.encoded c.args.g.now c.args.t.now c.args.grid.now e.graph e.order e.grid in
    nothing_told_of (layout_of c.in-Ok.encoded) (layout c.args.g.now c.args.t.now c.args.grid.now) c.args.former.now c.args.limits.now.budget
    c.args.limits.now.room (k.learnt c.args.log.now) (k.tells c.args.log.now) y_is
    (subst (λ (o : Option Cnf). MatchOption o (FormulaPasses (layout_of c.in-Ok.encoded) c.args.former.now c.args.limits.now.room)
    (IsCounting (layout_of c.in-Ok.encoded) c.args.former.now c.args.limits.now.room)) c.in-None.is c.in_ok-counted.ensures.formula)

pub counting-requires-clause-same : goal.counting-requires-clause-same
counting-requires-clause-same g c = c.requires.same ∙ ap (λ (x : Graph). length x.nodes) (sym c.in-Ok.ensures.graph)

pub tell_both-requires-clause-further : goal.tell_both-requires-clause-further
tell_both-requires-clause-further g c =
    let e = c.in-Ok.ensures in
    let some : IsCounting (layout_of c.in-Ok.encoded) c.args.former.now c.args.limits.now.room c.in-Some.counted = subst
    (λ (o : Option Cnf). MatchOption o (FormulaPasses (layout_of c.in-Ok.encoded) c.args.former.now c.args.limits.now.room)
    (IsCounting (layout_of c.in-Ok.encoded) c.args.former.now c.args.limits.now.room)) c.in-Some.is c.in_ok-counted.ensures.formula in
    both_rise c.in-Ok.encoded c.args.former.now c.args.limits.now.room c.formula.result.now c.in-Some.counted e.whole e.bounds c.formula.ensures some

pub tell_both-requires-clause-fits : goal.tell_both-requires-clause-fits
tell_both-requires-clause-fits g c =
    let e = c.in-Ok.ensures in
    let some : IsCounting (layout_of c.in-Ok.encoded) c.args.former.now c.args.limits.now.room c.in-Some.counted = subst
    (λ (o : Option Cnf). MatchOption o (FormulaPasses (layout_of c.in-Ok.encoded) c.args.former.now c.args.limits.now.room)
    (IsCounting (layout_of c.in-Ok.encoded) c.args.former.now c.args.limits.now.room)) c.in-Some.is c.in_ok-counted.ensures.formula in
    both_fit c.in-Ok.encoded c.args.former.now c.args.limits.now.room c.formula.result.now c.in-Some.counted c.args.solver.now e.whole e.bounds
    c.formula.ensures some c.requires.new

pub search_from-requires-clause-ready : goal.search_from-requires-clause-ready
search_from-requires-clause-ready g c =
    let e = c.in-Ok.ensures in
    let y_is = layout_is c.in-Ok.encoded c.args.g.now c.args.t.now c.args.grid.now e.graph e.order e.grid in
    let n = c.in-Ok.encoded in
    let former = c.args.former.now in
    let budget = c.args.limits.now.budget in
    let room = c.args.limits.now.room in
    let station = subst IsStationGraph (sym e.graph) c.nodes.ensures.station in
    let size = subst IsGrid (sym e.grid) c.width.ensures.is_grid in
    let same : length former ≡ length n.graph.nodes = c.requires.same ∙ ap (λ (x : Graph). length x.nodes) (sym e.graph) in
    let some : IsCounting (layout_of c.in-Ok.encoded) c.args.former.now c.args.limits.now.room c.in-Some.counted = subst
    (λ (o : Option Cnf). MatchOption o (FormulaPasses (layout_of c.in-Ok.encoded) c.args.former.now c.args.limits.now.room)
    (IsCounting (layout_of c.in-Ok.encoded) c.args.former.now c.args.limits.now.room)) c.in-Some.is c.in_ok-counted.ensures.formula in
    begun_ready n former budget room c.formula.result.now c.in-Some.counted c.args.solver.now c.tell_both.new.solver station size e.whole e.bounds same
    c.formula.ensures some c.requires.new c.in_ok-tell_both.ensures.taken

pub search_from-requires-clause-start : goal.search_from-requires-clause-start
search_from-requires-clause-start g c =
    let k = g.L.LogSink in
    let e = c.in-Ok.ensures in
    let y_is = layout_is c.in-Ok.encoded c.args.g.now c.args.t.now c.args.grid.now e.graph e.order e.grid in
    let n = c.in-Ok.encoded in
    let former = c.args.former.now in
    let budget = c.args.limits.now.budget in
    let room = c.args.limits.now.room in
    let station = subst IsStationGraph (sym e.graph) c.nodes.ensures.station in
    let size = subst IsGrid (sym e.grid) c.width.ensures.is_grid in
    let same : length former ≡ length n.graph.nodes = c.requires.same ∙ ap (λ (x : Graph). length x.nodes) (sym e.graph) in
    let some : IsCounting (layout_of c.in-Ok.encoded) c.args.former.now c.args.limits.now.room c.in-Some.counted = subst
    (λ (o : Option Cnf). MatchOption o (FormulaPasses (layout_of c.in-Ok.encoded) c.args.former.now c.args.limits.now.room)
    (IsCounting (layout_of c.in-Ok.encoded) c.args.former.now c.args.limits.now.room)) c.in-Some.is c.in_ok-counted.ensures.formula in
    begun_knows n former budget room c.formula.result.now c.in-Some.counted c.args.solver.now c.tell_both.new.solver (k.tells c.args.log.now)
    (k.tells c.tell_both.new.log) (k.learnt c.args.log.now) (k.learnt c.tell_both.new.log)
    station size e.whole e.bounds same c.formula.ensures some c.requires.new c.in_ok-tell_both.ensures.taken c.in_ok-tell_both.ensures.lines

pub returns-clause-right : goal.returns-clause-right
returns-clause-right g c =
    let e = c.in-Ok.ensures in
    let y_is = layout_is c.in-Ok.encoded c.args.g.now c.args.t.now c.args.grid.now e.graph e.order e.grid in
    subst (λ (z : Layout). IfOk c.search_from.result (IsRightFewest (moved_task z c.args.former.now c.args.limits.now.budget c.args.limits.now.room))) y_is
    c.search_from.ensures.right

pub returns-clause-lines : goal.returns-clause-lines
returns-clause-lines g c =
    let k = g.L.LogSink in
    let e = c.in-Ok.ensures in
    let y_is = layout_is c.in-Ok.encoded c.args.g.now c.args.t.now c.args.grid.now e.graph e.order e.grid in
    let n = c.in-Ok.encoded in
    let former = c.args.former.now in
    let budget = c.args.limits.now.budget in
    let room = c.args.limits.now.room in
    let station = subst IsStationGraph (sym e.graph) c.nodes.ensures.station in
    let size = subst IsGrid (sym e.grid) c.width.ensures.is_grid in
    let same : length former ≡ length n.graph.nodes = c.requires.same ∙ ap (λ (x : Graph). length x.nodes) (sym e.graph) in
    let some : IsCounting (layout_of c.in-Ok.encoded) c.args.former.now c.args.limits.now.room c.in-Some.counted = subst
    (λ (o : Option Cnf). MatchOption o (FormulaPasses (layout_of c.in-Ok.encoded) c.args.former.now c.args.limits.now.room)
    (IsCounting (layout_of c.in-Ok.encoded) c.args.former.now c.args.limits.now.room)) c.in-Some.is c.in_ok-counted.ensures.formula in
    if_ok_from c.search_from.result _ _ c.search_from.ensures.lines
    (λ o second. whole_told n (layout c.args.g.now c.args.t.now c.args.grid.now) former budget room c.formula.result.now c.in-Some.counted o c.args.solver.now
    c.tell_both.new.solver c.search_from.new.solver
    (k.tells c.args.log.now) (k.tells c.tell_both.new.log) (k.tells c.search_from.new.log) (k.learnt c.args.log.now) (k.learnt c.tell_both.new.log)
    (k.learnt c.search_from.new.log)
    e.whole e.bounds y_is c.formula.ensures some c.requires.new c.in_ok-tell_both.ensures.lines second)

pub returns-in-Err-Memory-clause-left : goal.returns-in-Err-Memory-clause-left
returns-in-Err-Memory-clause-left g c =
    let k = g.L.LogSink in
    left_none (layout c.args.g.now c.args.t.now c.args.grid.now) c.args.former.now c.args.limits.now.budget (k.tells c.args.log.now)
    (g.met.L.LogSink.one_reading c.args.log.now)

pub returns-in_err-counted-clause-left : goal.returns-in_err-counted-clause-left
returns-in_err-counted-clause-left g c =
    let k = g.L.LogSink in
    on_err_anyway _ _ (left_none (layout c.args.g.now c.args.t.now c.args.grid.now) c.args.former.now c.args.limits.now.budget (k.tells c.args.log.now)
    (g.met.L.LogSink.one_reading c.args.log.now))

pub returns-in_err-tell_both-clause-left : goal.returns-in_err-tell_both-clause-left
returns-in_err-tell_both-clause-left g c =
    let k = g.L.LogSink in
    let e = c.in-Ok.ensures in
    let y_is = layout_is c.in-Ok.encoded c.args.g.now c.args.t.now c.args.grid.now e.graph e.order e.grid in
    let n = c.in-Ok.encoded in
    let former = c.args.former.now in
    let budget = c.args.limits.now.budget in
    let room = c.args.limits.now.room in
    let some : IsCounting (layout_of n) former room c.in-Some.counted = subst (λ (o : Option Cnf). MatchOption o (FormulaPasses (layout_of n) former room)
    (IsCounting (layout_of n) former room)) c.in-Some.is c.in_ok-counted.ensures.formula in
    let left : k.tells c.args.log.now [] → (lines : Lines) → k.tells c.tell_both.new.log lines →
    IsMovedLeft (layout c.args.g.now c.args.t.now c.args.grid.now) former budget lines =
    λ nil lines told. subst (λ (z : Layout). IsMovedLeft z former budget lines) y_is
    (left_begun n former budget room c.formula.result.now c.in-Some.counted c.args.solver.now (k.tells c.args.log.now) (k.tells c.tell_both.new.log)
    e.whole e.bounds
    c.formula.ensures some c.requires.new c.in_err-tell_both.ensures.leaves nil lines told) in
    on_err_anyway _ _ left

pub returns-clause-left : goal.returns-clause-left
returns-clause-left g c =
    let k = g.L.LogSink in
    let e = c.in-Ok.ensures in
    let y_is = layout_is c.in-Ok.encoded c.args.g.now c.args.t.now c.args.grid.now e.graph e.order e.grid in
    let n = c.in-Ok.encoded in
    let former = c.args.former.now in
    let budget = c.args.limits.now.budget in
    let room = c.args.limits.now.room in
    let some : IsCounting (layout_of n) former room c.in-Some.counted = subst (λ (o : Option Cnf). MatchOption o (FormulaPasses (layout_of n) former room)
    (IsCounting (layout_of n) former room)) c.in-Some.is c.in_ok-counted.ensures.formula in
    let station = subst IsStationGraph (sym e.graph) c.nodes.ensures.station in
    let size = subst IsGrid (sym e.grid) c.width.ensures.is_grid in
    let same : length former ≡ length n.graph.nodes = c.requires.same ∙ ap (λ (x : Graph). length x.nodes) (sym e.graph) in
    let knows = begun_knows n former budget room c.formula.result.now c.in-Some.counted c.args.solver.now c.tell_both.new.solver (k.tells c.args.log.now)
    (k.tells c.tell_both.new.log) (k.learnt c.args.log.now) (k.learnt c.tell_both.new.log)
    station size e.whole e.bounds same c.formula.ensures some c.requires.new c.in_ok-tell_both.ensures.taken c.in_ok-tell_both.ensures.lines in
    on_err_weaker c.search_from.result _ _
    (λ h nil lines told. subst (λ (z : Layout). IsMovedLeft z former budget lines) y_is
    (left_later n former budget room c.formula.result.now c.in-Some.counted c.args.solver.now c.tell_both.new.solver (k.tells c.args.log.now)
    (k.tells c.tell_both.new.log) (k.tells c.search_from.new.log) (k.learnt c.args.log.now) (k.learnt c.tell_both.new.log)
    e.whole e.bounds c.formula.ensures some c.requires.new c.in_ok-tell_both.ensures.lines knows h nil lines told))
    c.search_from.ensures.leaves
