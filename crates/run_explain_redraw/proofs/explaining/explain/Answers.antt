use Rattle.std.specs.Prelude.{IsOkAnd}
use Rattle.std.proofs.lemmas.Result.{IfOk-weaker}
use Rattle.refute_log.specs.ToldTo.{told_to}
use Rattle.run_input.specs.Status.{IsRefused}
use Rattle.run_input.specs.Met.{between}
use Rattle.run_input.proofs.AnswerLemmas.{refused_on}
use Rattle.run_input.proofs.MetLemmas.{reads_one}
use Rattle.run_explain_redraw.specs.Explained.{IsExplainAnswer}
use Rattle.run_input.proofs.AnswerLemmas.{untold_here}
use Rattle.run_input.proofs.DerivesLemmas.{new_unchanged}
use Rattle.std.proofs.Common.{inr}
use Rattle.outside_io.proofs.Results.{on_err_anyway}
use Rattle.refute_log.proofs.StepLemmas.{on_err_weaker}
use Rattle.run_explain_redraw.proofs.ExplainedLemmas.{left_unbegun}
use Rattle.run_explain_redraw.proofs.explaining.explain.Goals as goal

pub returns-in-Ok-clause-reads : goal.returns-in-Ok-clause-reads
returns-in-Ok-clause-reads g c = reads_one _ _ c.in-Ok.ensures.reads

pub returns-in-Ok-clause-untold : goal.returns-in-Ok-clause-untold
returns-in-Ok-clause-untold g c =
    let at = g.F.Files.at in
    let Refused : Type 0 = IsOkAnd c.explain_station.result (λ r. IsRefused r.status) in
    untold_here c.args.input.now (at c.args.files.now) (at c.station_of.new.files) c.in-Ok.station.graph c.in-Ok.station.order Refused c.args.trace.now
    c.explain_station.new.log c.in-Ok.ensures.station c.in-Ok.ensures.reads c.explain_station.ensures.unrefused

pub returns-in_ok-fault_reply-in-Err-Fault-clause-answer : goal.returns-in_ok-fault_reply-in-Err-Fault-clause-answer
returns-in_ok-fault_reply-in-Err-Fault-clause-answer g c =
    let at = g.F.Files.at in
    let met = between (at c.args.files.now) (at c.station_of.new.files) in
    let traced = told_to {Self = g.row.T.Denot} g.T.LogSink.tells g.T.LogSink.learnt c.args.trace.now c.args.trace.now in
    let reply = c.in_ok-fault_reply-in-Err-Fault.field-0 in
    refused_on (IsExplainAnswer c.args.asked.now traced) c.args.input.now met c.in-Err-Fault.field-0 c.in-Err-Fault.fault reply.status reply.text.items
    c.in-Err-Fault.ensures.refusal
    c.in-Err-Fault.field-0-is c.in_ok-fault_reply-in-Err-Fault.ensures.told

pub returns-in_err-fault_reply-in-Err-Fault-clause-derives : goal.returns-in_err-fault_reply-in-Err-Fault-clause-derives
returns-in_err-fault_reply-in-Err-Fault-clause-derives g c = new_unchanged (g.T.LogSink.tells c.args.trace.now) (g.met.T.LogSink.one_reading c.args.trace.now)

pub returns-in_ok-fault_reply-in-Err-Fault-clause-derives : goal.returns-in_ok-fault_reply-in-Err-Fault-clause-derives
returns-in_ok-fault_reply-in-Err-Fault-clause-derives g c = new_unchanged (g.T.LogSink.tells c.args.trace.now) (g.met.T.LogSink.one_reading c.args.trace.now)

pub returns-in-Err-Memory-clause-derives : goal.returns-in-Err-Memory-clause-derives
returns-in-Err-Memory-clause-derives g c = new_unchanged (g.T.LogSink.tells c.args.trace.now) (g.met.T.LogSink.one_reading c.args.trace.now)

pub returns-in-Ok-clause-left : goal.returns-in-Ok-clause-left
returns-in-Ok-clause-left g c =
    on_err_weaker c.explain_station.result _ _ (λ h none lines is. inr (
      c.in-Ok.station.graph,
      c.in-Ok.station.order,
      (c.in-Ok.ensures.reads, c.in-Ok.ensures.station),
      h none lines is,
    )) c.explain_station.ensures.left

pub returns-in_err-fault_reply-in-Err-Fault-clause-left : goal.returns-in_err-fault_reply-in-Err-Fault-clause-left
returns-in_err-fault_reply-in-Err-Fault-clause-left g c =
    let at = g.F.Files.at in
    let met = between (at c.args.files.now) (at c.station_of.new.files) in
    on_err_anyway _ _ (left_unbegun c.args.asked.now c.args.input.now met (g.T.LogSink.tells c.args.trace.now) (g.met.T.LogSink.one_reading c.args.trace.now))

pub returns-in-Err-Memory-clause-left : goal.returns-in-Err-Memory-clause-left
returns-in-Err-Memory-clause-left g c =
    let at = g.F.Files.at in
    let met = between (at c.args.files.now) (at c.station_of.new.files) in
    left_unbegun c.args.asked.now c.args.input.now met (g.T.LogSink.tells c.args.trace.now) (g.met.T.LogSink.one_reading c.args.trace.now)
