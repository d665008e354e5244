use Rattle.std.proofs.Common.{List, ℕ, refl, sym, ◌∙◌, ap, subst, inl}
use Rattle.std.specs.Prelude.{IsOkAnd}
use Rattle.std.specs.declared.option.Option.{Option}
use Rattle.std.proofs.lemmas.Result.{IfOk-weaker}
use Rattle.outside_io.specs.Contents.{WhereTold}
use Rattle.refute_log.specs.FileLog.{BeginsLog}
use Rattle.refute_log.specs.ToldTo.{told_to}
use Rattle.refute_log.specs.Log.{Derives}
use Rattle.run_input.specs.Status.{IsRefused}
use Rattle.run_input.specs.Met.{between, LeftSo}
use Rattle.run_input.proofs.MetLemmas.{reads_one}
use Rattle.run_draw_front.specs.Drawn.{Job, job, IsLeftOfDraw}
use Rattle.run_draw_front.specs.Signalled.{HasReadSignals, SignalsMayTell}
use Rattle.run_input.proofs.LeavesLemmas.{NamedMay}
use Rattle.run_draw_front.proofs.SignalledLemmas.{as_many_places, longer_is, signalled_for, signalled_on, signals_refused_on, signals_leave, signals_unwritten}
use Rattle.run_draw_front.proofs.SignalledLemmas.{signals_untold, signals_tell}
use Rattle.run_input.proofs.DerivesLemmas.{new_unchanged, tells_unchanged, tells_weaker}
use Rattle.run_draw_front.proofs.signalling.signals.Goals as goal

pub signal_station-requires-clause-same : goal.signal_station-requires-clause-same
signal_station-requires-clause-same g c =
    let found = c.in-Ok.found in
    as_many_places c.args.input.now (g.F.Files.at c.args.files.now).contents found.station.graph found.station.order found.signals found.placed
    c.in-Ok.ensures.station

pub returns-in-Ok-clause-answer : goal.returns-in-Ok-clause-answer
returns-in-Ok-clause-answer g c =
    let at = g.F.Files.at in
    let old = at c.args.files.now in
    let mid = at c.signals_of.new.files in
    let new = at c.signal_station.new.files in
    let traced = told_to {Self = g.row.T.Denot} g.T.LogSink.tells g.T.LogSink.learnt c.args.trace.now c.signal_station.new.trace in
    let found = c.in-Ok.found in
    let asked = c.args.asked.now in
    let inside = job c.asked.inside.grid.now c.asked.inside.order.now c.asked.inside.budget c.asked.inside.svg.now c.asked.inside.log.now in
    let longer = job c.grid_for-grid.result inside.order inside.budget inside.svg inside.log in
    let same = longer_is found.placed inside asked c.grid_for-grid.result c.asked.view_is c.grid_for-grid.ensures in
    IfOk-weaker c.signal_station.result _ _ (λ r answer.
    signalled_on asked c.args.input.now old mid new traced found.station.graph found.station.order found.signals found.placed r.status r.text.items
    c.in-Ok.ensures.station c.in-Ok.ensures.same
    (c.signal_station.ensures.reads ∙ c.in-Ok.ensures.reads) c.requires.unpictured
    (signalled_for asked longer (between mid new) traced found.station.graph found.station.order found.signals found.placed r.status r.text.items same answer))
    c.signal_station.ensures.answer

pub returns-in-Ok-clause-reads : goal.returns-in-Ok-clause-reads
returns-in-Ok-clause-reads g c = reads_one _ _ (c.signal_station.ensures.reads ∙ c.in-Ok.ensures.reads)

pub returns-in-Ok-clause-leaves : goal.returns-in-Ok-clause-leaves
returns-in-Ok-clause-leaves g c =
    let at = g.F.Files.at in
    let old = at c.args.files.now in
    let mid = at c.signals_of.new.files in
    let new = at c.signal_station.new.files in
    let found = c.in-Ok.found in
    let Refused : Type 0 = IsOkAnd c.signal_station.result (λ r. IsRefused r.status) in
    let is_log = ap (λ (j : Job). j.log) c.asked.view_is in
    signals_leave c.args.asked.now c.args.input.now old mid new found.station.graph found.station.order found.signals found.placed Refused
    c.in-Ok.ensures.station (c.signal_station.ensures.reads ∙ c.in-Ok.ensures.reads) c.in-Ok.ensures.same
    c.signal_station.ensures.unrefused
    (subst (λ (log : Option (List ℕ)). WhereTold mid.contents new.contents (LeftSo (NamedMay log BeginsLog))) is_log c.signal_station.ensures.leaves)

pub returns-in-Ok-clause-unwritten : goal.returns-in-Ok-clause-unwritten
returns-in-Ok-clause-unwritten g c =
    let at = g.F.Files.at in
    let old = at c.args.files.now in
    let mid = at c.signals_of.new.files in
    let new = at c.signal_station.new.files in
    let found = c.in-Ok.found in
    let Refused : Type 0 = IsOkAnd c.signal_station.result (λ r. IsRefused r.status) in
    let is_log = ap (λ (j : Job). j.log) c.asked.view_is in
    let has : HasReadSignals c.args.input.now (between old new) = record {
      graph = found.station.graph;
      order = found.station.order;
      signals = found.signals;
      places = found.placed;
      read = c.signal_station.ensures.reads ∙ c.in-Ok.ensures.reads;
      has = c.in-Ok.ensures.station;
    } in
    signals_unwritten c.args.asked.now.log c.args.input.now old mid new Refused has c.signal_station.ensures.unrefused c.in-Ok.ensures.unwritten
    (λ none. c.signal_station.ensures.unwritten (is_log ∙ none))

pub returns-in-Ok-clause-untold : goal.returns-in-Ok-clause-untold
returns-in-Ok-clause-untold g c =
    let at = g.F.Files.at in
    let old = at c.args.files.now in
    let new = at c.signal_station.new.files in
    let found = c.in-Ok.found in
    let Refused : Type 0 = IsOkAnd c.signal_station.result (λ r. IsRefused r.status) in
    let is_log = ap (λ (j : Job). j.log) c.asked.view_is in
    let has : HasReadSignals c.args.input.now (between old new) = record {
      graph = found.station.graph;
      order = found.station.order;
      signals = found.signals;
      places = found.placed;
      read = c.signal_station.ensures.reads ∙ c.in-Ok.ensures.reads;
      has = c.in-Ok.ensures.station;
    } in
    signals_untold c.args.asked.now.log c.args.input.now old new Refused c.args.trace.now c.signal_station.new.trace has c.signal_station.ensures.unrefused
    (λ named. c.signal_station.ensures.untold (λ none. named (sym is_log ∙ none)))

pub returns-in_ok-fault_reply-in-Err-Fault-clause-answer : goal.returns-in_ok-fault_reply-in-Err-Fault-clause-answer
returns-in_ok-fault_reply-in-Err-Fault-clause-answer g c =
    let at = g.F.Files.at in
    let met = between (at c.args.files.now) (at c.signals_of.new.files) in
    let traced = told_to {Self = g.row.T.Denot} g.T.LogSink.tells g.T.LogSink.learnt c.args.trace.now c.args.trace.now in
    let reply = c.in_ok-fault_reply-in-Err-Fault.field-0 in
    signals_refused_on c.args.asked.now traced c.args.input.now met c.in-Err-Fault.field-0 c.in-Err-Fault.fault reply.status reply.text.items
    c.in-Err-Fault.ensures.refusal c.in-Err-Fault.field-0-is
    (rw c.in-Err-Fault.field-0-is at c.in_ok-fault_reply-in-Err-Fault.ensures.told)

pub returns-in_err-fault_reply-in-Err-Fault-clause-derives : goal.returns-in_err-fault_reply-in-Err-Fault-clause-derives
returns-in_err-fault_reply-in-Err-Fault-clause-derives g c = new_unchanged (g.T.LogSink.tells c.args.trace.now) (g.met.T.LogSink.one_reading c.args.trace.now)

pub returns-in_ok-fault_reply-in-Err-Fault-clause-derives : goal.returns-in_ok-fault_reply-in-Err-Fault-clause-derives
returns-in_ok-fault_reply-in-Err-Fault-clause-derives g c = new_unchanged (g.T.LogSink.tells c.args.trace.now) (g.met.T.LogSink.one_reading c.args.trace.now)

pub returns-in-Err-Memory-clause-derives : goal.returns-in-Err-Memory-clause-derives
returns-in-Err-Memory-clause-derives g c = new_unchanged (g.T.LogSink.tells c.args.trace.now) (g.met.T.LogSink.one_reading c.args.trace.now)

pub returns-in-Ok-clause-derives : goal.returns-in-Ok-clause-derives
returns-in-Ok-clause-derives g c =
    let inside = job c.asked.inside.grid.now c.asked.inside.order.now c.asked.inside.budget c.asked.inside.svg.now c.asked.inside.log.now in
    let longer = job c.grid_for-grid.result inside.order inside.budget inside.svg inside.log in
    let station = c.in-Ok.found.station in
    tells_weaker (IsLeftOfDraw longer station.graph station.order) Derives (g.T.LogSink.tells c.args.trace.now)
    (g.T.LogSink.tells c.signal_station.new.trace) (λ lines left. left.derives) c.signal_station.ensures.left

pub returns-in-Ok-clause-left : goal.returns-in-Ok-clause-left
returns-in-Ok-clause-left g c =
    let at = g.F.Files.at in
    let asked = c.args.asked.now in
    let inside = job c.asked.inside.grid.now c.asked.inside.order.now c.asked.inside.budget c.asked.inside.svg.now c.asked.inside.log.now in
    let longer = job c.grid_for-grid.result inside.order inside.budget inside.svg inside.log in
    let found = c.in-Ok.found in
    let has : HasReadSignals c.args.input.now (between (at c.args.files.now) (at c.signal_station.new.files)) = record {
      graph = found.station.graph;
      order = found.station.order;
      signals = found.signals;
      places = found.placed;
      read = c.signal_station.ensures.reads ∙ c.in-Ok.ensures.reads;
      has = c.in-Ok.ensures.station;
    } in
    signals_tell asked longer c.args.input.now (between (at c.args.files.now) (at c.signal_station.new.files)) has (g.T.LogSink.tells c.args.trace.now)
    (g.T.LogSink.tells c.signal_station.new.trace) (longer_is found.placed inside asked c.grid_for-grid.result c.asked.view_is c.grid_for-grid.ensures)
    c.signal_station.ensures.left

pub returns-in_err-fault_reply-in-Err-Fault-clause-left : goal.returns-in_err-fault_reply-in-Err-Fault-clause-left
returns-in_err-fault_reply-in-Err-Fault-clause-left g c =
    let met = between (g.F.Files.at c.args.files.now) (g.F.Files.at c.signals_of.new.files) in
    tells_unchanged (SignalsMayTell c.args.asked.now c.args.input.now met) (g.T.LogSink.tells c.args.trace.now)
    (g.met.T.LogSink.one_reading c.args.trace.now) (inl refl)

pub returns-in_ok-fault_reply-in-Err-Fault-clause-left : goal.returns-in_ok-fault_reply-in-Err-Fault-clause-left
returns-in_ok-fault_reply-in-Err-Fault-clause-left g c =
    let met = between (g.F.Files.at c.args.files.now) (g.F.Files.at c.signals_of.new.files) in
    tells_unchanged (SignalsMayTell c.args.asked.now c.args.input.now met) (g.T.LogSink.tells c.args.trace.now)
    (g.met.T.LogSink.one_reading c.args.trace.now) (inl refl)

pub returns-in-Err-Memory-clause-left : goal.returns-in-Err-Memory-clause-left
returns-in-Err-Memory-clause-left g c =
    let met = between (g.F.Files.at c.args.files.now) (g.F.Files.at c.signals_of.new.files) in
    tells_unchanged (SignalsMayTell c.args.asked.now c.args.input.now met) (g.T.LogSink.tells c.args.trace.now)
    (g.met.T.LogSink.one_reading c.args.trace.now) (inl refl)
