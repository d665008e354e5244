use Rattle.std.proofs.Common.{◌≡◌, ◌≢◌, None, Some, subst}
use Rattle.std.specs.Prelude.{IfOk, IsErrOf}
use Rattle.outside_io.specs.Counts.{Rose}
use Rattle.refute_log.specs.ToldTo.{told_to}
use Rattle.refute_log.specs.FileLog.{BeginsLog}
use Rattle.run_input.specs.declared.reply.Cut.TheVariants as cuts
use Rattle.run_input.specs.Met.{between, IsUnwritten, HasLeft}
use Rattle.run_input.specs.SearchLog.{TellsIfNew, IsRunLog}
use Rattle.run_input.specs.Written.{file_named, FailsToWrite}
use Rattle.run_draw_front.specs.Drawn.{Job, HasSearched, IsLeftOfDraw}
use Rattle.run_draw_front.proofs.drawing.search_told.Goals as goal

pub returns-clause-searched : goal.returns-clause-searched
returns-clause-searched g c =
    let met = between (g.F.Files.at c.args.files.now) (g.F.Files.at c.search_logged.new.files) in
    let traced = told_to {Self = g.row.T.Denot} g.T.LogSink.tells g.T.LogSink.learnt c.args.trace.now c.search_logged.new.trace in
    let station = c.args.station.now in
    subst (λ (asked : Job). IfOk c.search_logged.result (HasSearched station.graph station.order asked (IsRunLog asked.log met traced))) c.asked.view_is
    c.search_logged.ensures.searched

pub returns-clause-left : goal.returns-clause-left
returns-clause-left g c =
    let station = c.args.station.now in
    let tells = g.T.LogSink.tells in
    subst (λ (asked : Job). TellsIfNew (IsLeftOfDraw asked station.graph station.order) (tells c.args.trace.now) (tells c.search_logged.new.trace))
    c.asked.view_is c.search_logged.ensures.left

pub returns-clause-leaves : goal.returns-clause-leaves
returns-clause-leaves g c =
    let met = between (g.F.Files.at c.args.files.now) (g.F.Files.at c.search_logged.new.files) in
    subst (λ (asked : Job). HasLeft met (λ name bytes. (asked.log ≡ Some name) × BeginsLog bytes)) c.asked.view_is
    c.search_logged.ensures.leaves

pub returns-clause-unwritten : goal.returns-clause-unwritten
returns-clause-unwritten g c =
    let met = between (g.F.Files.at c.args.files.now) (g.F.Files.at c.search_logged.new.files) in
    subst (λ (asked : Job). asked.log ≡ None → IsUnwritten met) c.asked.view_is
    c.search_logged.ensures.unwritten

pub returns-clause-cause : goal.returns-clause-cause
returns-clause-cause g c =
    let met = between (g.F.Files.at c.args.files.now) (g.F.Files.at c.search_logged.new.files) in
    let rose = Rose (g.T.LogSink.faults c.args.trace.now) (g.T.LogSink.faults c.search_logged.new.trace) in
    subst (λ (asked : Job). IsErrOf c.search_logged.result cuts.Unwritten → FailsToWrite (file_named asked.log) (asked.log ≡ None) met rose) c.asked.view_is
    c.search_logged.ensures.cause

pub returns-clause-untold : goal.returns-clause-untold
returns-clause-untold g c =
    subst (λ (asked : Job). asked.log ≢ None → c.search_logged.new.trace ≡ c.args.trace.now) c.asked.view_is
    c.search_logged.ensures.untold
