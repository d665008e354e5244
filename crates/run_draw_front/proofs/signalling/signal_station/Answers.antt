use Rattle.std.proofs.Common.{refl}
use Rattle.refute_log.specs.ToldTo.{told_to}
use Rattle.run_input.specs.Met.{between}
use Rattle.run_draw_front.proofs.SignalledLemmas.{least_is_need, found_has_room, signalled}
use Rattle.run_draw_front.proofs.signalling.signal_station.Goals as goal

pub signal_reply-requires-clause-room : goal.signal_reply-requires-clause-room
signal_reply-requires-clause-room g c =
    let searched = c.in_ok-outcome.ensures.searched in
    let found = c.args.found.now in
    found_has_room found.station.graph found.station.order c.args.asked.now found.placed c.in_ok-outcome.outcome searched.lines searched.ended
    (least_is_need found.placed c.args.asked.now c.requires.least) c.requires.drawn

pub returns-clause-answer : goal.returns-clause-answer
returns-clause-answer g c =
    let at = g.F.Files.at in
    let traced = told_to {Self = g.row.T.Denot} g.T.LogSink.tells g.T.LogSink.learnt c.args.trace.now c.search_told.new.trace in
    let met = between (at c.args.files.now) (at c.search_told.new.files) in
    let found = c.args.found.now in
    let reply = c.in_ok-signal_reply.ensures in
    signalled c.args.asked.now met traced found.station.graph found.station.order found.signals found.placed c.in_ok-outcome.outcome _ _ _ c.requires.least
    c.requires.unpictured c.in_ok-outcome.ensures.searched reply.read reply.short
    reply.status_is refl reply.spelled
