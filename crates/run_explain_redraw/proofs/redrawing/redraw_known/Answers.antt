use Rattle.refute_log.specs.ToldTo.{told_to}
use Rattle.run_input.specs.Met.{between}
use Rattle.run_input.specs.SearchLog.{IsRunLog}
use Rattle.run_explain_redraw.specs.Redrawn.{redraw_job}
use Rattle.run_explain_redraw.proofs.RedrawnLemmas.{fewest_size, redrawn}
use Rattle.run_explain_redraw.proofs.redrawing.redraw_known.Goals as goal

pub text_of-requires-clause-sized : goal.text_of-requires-clause-sized
text_of-requires-clause-sized g c =
    let known = c.args.known.now in
    fewest_size known.station.graph known.station.order c.args.asked.now known.former.items c.in_ok-outcome.outcome c.in_ok-outcome.ensures.searched.right

pub returns-clause-answer : goal.returns-clause-answer
returns-clause-answer g c =
    let met = between (g.F.Files.at c.args.files.now) (g.F.Files.at c.search_told.new.files) in
    let told = told_to {Self = g.row.T.Denot} g.T.LogSink.tells g.T.LogSink.learnt c.args.trace.now c.search_told.new.trace in
    let known = c.args.known.now in
    let inside = redraw_job c.asked.inside.grid.now c.asked.inside.budget c.asked.inside.log.now in
    redrawn c.args.asked.now inside (IsRunLog c.args.asked.now.log met told) known.station.graph known.station.order known.former.items c.deref.result.now
    c.in_ok-outcome.outcome c.status_of.result _ c.asked.view_is c.deref.ensures.value
    c.in_ok-outcome.ensures.searched c.status_of.ensures c.in_ok-text_of.ensures
