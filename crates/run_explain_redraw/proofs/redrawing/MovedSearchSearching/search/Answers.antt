use Rattle.std.proofs.Common.{None, subst}
use Rattle.cnf_core.specs.declared.limits.TheConstants.{ROOM}
use Rattle.refute_log.specs.ToldTo.{told_to}
use Rattle.drawing_cnf.specs.Layout.{layout}
use Rattle.drawing_cnf.specs.Moved.{Former}
use Rattle.search_moved.specs.Told.{IsMovedLeft}
use Rattle.run_input.specs.SearchLog.{HasToldEnd, TellsIfNew}
use Rattle.run_input.proofs.DerivesLemmas.{tells_told}
use Rattle.run_explain_redraw.specs.Redrawn.{redraw_job, HasEndedMoved}
use Rattle.run_explain_redraw.proofs.RedrawnLemmas.{moved_left}
use Rattle.run_explain_redraw.proofs.redrawing.MovedSearchSearching.search.Goals as goal

pub returns-in-Ok-clause-searched : goal.returns-in-Ok-clause-searched
returns-in-Ok-clause-searched g c =
    let told = told_to {Self = g.row.L.Denot} g.L.LogSink.tells g.L.LogSink.learnt c.args.log.now c.fewest_moved.new.log in
    let s = c.args.self.now in
    let station = s.known.now.station in
    let asked = redraw_job s.grid.now s.budget None in
    let outcome = c.in-Ok.outcome in
    let lines = c.in-Ok.ensures.lines in
    subst (λ (former : Former). HasToldEnd (HasEndedMoved station.graph station.order asked former outcome) told) c.deref.ensures.value
    (record { lines = lines.0; told = lines.1; ended = (c.in-Ok.ensures.right, lines.2) })

pub returns-in-Ok-clause-left : goal.returns-in-Ok-clause-left
returns-in-Ok-clause-left g c =
    let k = g.L.LogSink in
    let s = c.args.self.now in
    let y = layout s.known.now.station.graph s.known.now.station.order s.grid.now in
    let lines = c.in-Ok.ensures.lines in
    subst (λ (former : Former). TellsIfNew (IsMovedLeft y former s.budget) (k.tells c.args.log.now) (k.tells c.fewest_moved.new.log)) c.deref.ensures.value
    (tells_told (IsMovedLeft y c.deref.result.now s.budget) (k.tells c.args.log.now) (k.tells c.fewest_moved.new.log) lines.0
    (g.met.L.LogSink.one_reading c.fewest_moved.new.log) lines.1.behind (moved_left y c.deref.result.now s.budget ROOM c.in-Ok.outcome lines.0 lines.2))

pub returns-in-Err-Log-clause-left : goal.returns-in-Err-Log-clause-left
returns-in-Err-Log-clause-left g c =
    let k = g.L.LogSink in
    let s = c.args.self.now in
    let y = layout s.known.now.station.graph s.known.now.station.order s.grid.now in
    subst (λ (former : Former). TellsIfNew (IsMovedLeft y former s.budget) (k.tells c.args.log.now) (k.tells c.fewest_moved.new.log)) c.deref.ensures.value
    c.in-Err-Log.ensures.left

pub returns-in-Err-Memory-clause-left : goal.returns-in-Err-Memory-clause-left
returns-in-Err-Memory-clause-left g c =
    let k = g.L.LogSink in
    let s = c.args.self.now in
    let y = layout s.known.now.station.graph s.known.now.station.order s.grid.now in
    subst (λ (former : Former). TellsIfNew (IsMovedLeft y former s.budget) (k.tells c.args.log.now) (k.tells c.fewest_moved.new.log)) c.deref.ensures.value
    c.in-Err-Memory.ensures.left
