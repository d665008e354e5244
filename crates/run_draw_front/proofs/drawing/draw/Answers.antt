use Rattle.std.proofs.Common.{refl, ◌∙◌, inl, inr}
use Rattle.std.specs.Prelude.{IsOkAnd}
use Rattle.std.proofs.lemmas.Result.{IfOk-weaker}
use Rattle.refute_log.specs.ToldTo.{told_to}
use Rattle.refute_log.specs.Log.{Derives}
use Rattle.run_input.specs.Status.{IsRefused}
use Rattle.run_draw_front.specs.Drawn.{IsDrawAnswer, IsLeftOfDraw, DrawMayTell}
use Rattle.run_input.specs.Met.{between}
use Rattle.run_input.proofs.AnswerLemmas.{refused_on}
use Rattle.run_draw_front.proofs.AfterReadLemmas.{drawn_on, leaves_on, unwritten_on, untold_on}
use Rattle.run_input.proofs.MetLemmas.{reads_one}
use Rattle.run_input.proofs.DerivesLemmas.{new_unchanged, tells_unchanged, tells_weaker}
use Rattle.run_draw_front.proofs.drawing.draw.Goals as goal

pub returns-in-Ok-clause-answer : goal.returns-in-Ok-clause-answer
returns-in-Ok-clause-answer g c =
    let at = g.F.Files.at in
    let traced = told_to {Self = g.row.T.Denot} g.T.LogSink.tells g.T.LogSink.learnt c.args.trace.now c.draw_station.new.trace in
    IfOk-weaker c.draw_station.result _ _ (λ r answer.
    drawn_on c.args.asked.now c.args.input.now (at c.args.files.now) (at c.station_of.new.files) (at c.draw_station.new.files) traced c.in-Ok.station.graph
    c.in-Ok.station.order r.status r.text.items
    c.in-Ok.ensures.station c.in-Ok.ensures.same (c.draw_station.ensures.reads ∙ c.in-Ok.ensures.reads) answer)
    c.draw_station.ensures.answer

pub returns-in-Ok-clause-reads : goal.returns-in-Ok-clause-reads
returns-in-Ok-clause-reads g c = reads_one _ _ (c.draw_station.ensures.reads ∙ c.in-Ok.ensures.reads)

pub returns-in-Ok-clause-leaves : goal.returns-in-Ok-clause-leaves
returns-in-Ok-clause-leaves g c =
    let at = g.F.Files.at in
    let traced = told_to {Self = g.row.T.Denot} g.T.LogSink.tells g.T.LogSink.learnt c.args.trace.now c.draw_station.new.trace in
    let Refused : Type 0 = IsOkAnd c.draw_station.result (λ r. IsRefused r.status) in
    leaves_on c.args.asked.now c.args.input.now (at c.args.files.now) (at c.station_of.new.files) (at c.draw_station.new.files) traced c.in-Ok.station.graph
    c.in-Ok.station.order Refused c.in-Ok.ensures.station
    (c.draw_station.ensures.reads ∙ c.in-Ok.ensures.reads) c.in-Ok.ensures.same c.draw_station.ensures.unrefused c.draw_station.ensures.leaves

pub returns-in-Ok-clause-unwritten : goal.returns-in-Ok-clause-unwritten
returns-in-Ok-clause-unwritten g c =
    let at = g.F.Files.at in
    let Refused : Type 0 = IsOkAnd c.draw_station.result (λ r. IsRefused r.status) in
    unwritten_on c.args.asked.now c.args.input.now (at c.args.files.now) (at c.station_of.new.files) (at c.draw_station.new.files) c.in-Ok.station.graph
    c.in-Ok.station.order Refused c.in-Ok.ensures.station
    (c.draw_station.ensures.reads ∙ c.in-Ok.ensures.reads) c.draw_station.ensures.unrefused c.in-Ok.ensures.unwritten c.draw_station.ensures.unwritten

pub returns-in-Ok-clause-untold : goal.returns-in-Ok-clause-untold
returns-in-Ok-clause-untold g c =
    let at = g.F.Files.at in
    let Refused : Type 0 = IsOkAnd c.draw_station.result (λ r. IsRefused r.status) in
    untold_on c.args.asked.now c.args.input.now (at c.args.files.now) (at c.draw_station.new.files) c.in-Ok.station.graph c.in-Ok.station.order Refused
    c.args.trace.now c.draw_station.new.trace c.in-Ok.ensures.station
    (c.draw_station.ensures.reads ∙ c.in-Ok.ensures.reads) c.draw_station.ensures.unrefused c.draw_station.ensures.untold

pub returns-in_ok-fault_reply-in-Err-Fault-clause-answer : goal.returns-in_ok-fault_reply-in-Err-Fault-clause-answer
returns-in_ok-fault_reply-in-Err-Fault-clause-answer g c =
    let at = g.F.Files.at in
    let met = between (at c.args.files.now) (at c.station_of.new.files) in
    let traced = told_to {Self = g.row.T.Denot} g.T.LogSink.tells g.T.LogSink.learnt c.args.trace.now c.args.trace.now in
    let reply = c.in_ok-fault_reply-in-Err-Fault.field-0 in
    refused_on (IsDrawAnswer c.args.asked.now met traced) c.args.input.now met c.in-Err-Fault.field-0 c.in-Err-Fault.fault reply.status reply.text.items
    c.in-Err-Fault.ensures.refusal
    c.in-Err-Fault.field-0-is c.in_ok-fault_reply-in-Err-Fault.ensures.told

pub returns-in_err-fault_reply-in-Err-Fault-clause-derives : goal.returns-in_err-fault_reply-in-Err-Fault-clause-derives
returns-in_err-fault_reply-in-Err-Fault-clause-derives g c = new_unchanged (g.T.LogSink.tells c.args.trace.now) (g.met.T.LogSink.one_reading c.args.trace.now)

pub returns-in_ok-fault_reply-in-Err-Fault-clause-derives : goal.returns-in_ok-fault_reply-in-Err-Fault-clause-derives
returns-in_ok-fault_reply-in-Err-Fault-clause-derives g c = new_unchanged (g.T.LogSink.tells c.args.trace.now) (g.met.T.LogSink.one_reading c.args.trace.now)

pub returns-in-Err-Memory-clause-derives : goal.returns-in-Err-Memory-clause-derives
returns-in-Err-Memory-clause-derives g c = new_unchanged (g.T.LogSink.tells c.args.trace.now) (g.met.T.LogSink.one_reading c.args.trace.now)

pub returns-in-Ok-clause-derives : goal.returns-in-Ok-clause-derives
returns-in-Ok-clause-derives g c =
    let station = c.in-Ok.station in
    tells_weaker (IsLeftOfDraw c.args.asked.now station.graph station.order) Derives (g.T.LogSink.tells c.args.trace.now)
    (g.T.LogSink.tells c.draw_station.new.trace) (λ lines left. left.derives) c.draw_station.ensures.left

pub returns-in-Ok-clause-left : goal.returns-in-Ok-clause-left
returns-in-Ok-clause-left g c =
    let at = g.F.Files.at in
    let asked = c.args.asked.now in
    let station = c.in-Ok.station in
    let met = between (at c.args.files.now) (at c.draw_station.new.files) in
    tells_weaker (IsLeftOfDraw asked station.graph station.order) (DrawMayTell asked c.args.input.now met) (g.T.LogSink.tells c.args.trace.now)
    (g.T.LogSink.tells c.draw_station.new.trace)
    (λ lines left. inr (station.graph, station.order, (c.draw_station.ensures.reads ∙ c.in-Ok.ensures.reads, c.in-Ok.ensures.station), left))
    c.draw_station.ensures.left

pub returns-in_err-fault_reply-in-Err-Fault-clause-left : goal.returns-in_err-fault_reply-in-Err-Fault-clause-left
returns-in_err-fault_reply-in-Err-Fault-clause-left g c =
    let met = between (g.F.Files.at c.args.files.now) (g.F.Files.at c.station_of.new.files) in
    tells_unchanged (DrawMayTell c.args.asked.now c.args.input.now met) (g.T.LogSink.tells c.args.trace.now)
    (g.met.T.LogSink.one_reading c.args.trace.now) (inl refl)

pub returns-in_ok-fault_reply-in-Err-Fault-clause-left : goal.returns-in_ok-fault_reply-in-Err-Fault-clause-left
returns-in_ok-fault_reply-in-Err-Fault-clause-left g c =
    let met = between (g.F.Files.at c.args.files.now) (g.F.Files.at c.station_of.new.files) in
    tells_unchanged (DrawMayTell c.args.asked.now c.args.input.now met) (g.T.LogSink.tells c.args.trace.now)
    (g.met.T.LogSink.one_reading c.args.trace.now) (inl refl)

pub returns-in-Err-Memory-clause-left : goal.returns-in-Err-Memory-clause-left
returns-in-Err-Memory-clause-left g c =
    let met = between (g.F.Files.at c.args.files.now) (g.F.Files.at c.station_of.new.files) in
    tells_unchanged (DrawMayTell c.args.asked.now c.args.input.now met) (g.T.LogSink.tells c.args.trace.now)
    (g.met.T.LogSink.one_reading c.args.trace.now) (inl refl)
