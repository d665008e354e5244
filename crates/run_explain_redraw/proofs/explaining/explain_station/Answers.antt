use Rattle.std.proofs.Common.{subst}
use Rattle.refute_log.specs.ToldTo.{told_to}
use Rattle.law_core.specs.Why.{IsRightWhy}
use Rattle.run_explain_redraw.specs.Explained.{ExplainJob, explain_task}
use Rattle.outside_io.proofs.Results.{on_err_anyway}
use Rattle.run_explain_redraw.proofs.ExplainedLemmas.{explained, left_of_parts, told_why_left}
use Rattle.run_input.proofs.DerivesLemmas.{new_told}
use Rattle.run_explain_redraw.proofs.explaining.explain_station.Goals as goal

pub reply_of-requires : goal.reply_of-requires
reply_of-requires g c = record {
  right = subst (λ (j : ExplainJob). IsRightWhy (explain_task c.args.station.now.graph c.args.station.now.order j) c.in-Ok.why) c.asked.view_is
      c.in-Ok.ensures.right;
}

pub returns-in_ok-reply_of-in-Ok-clause-answer : goal.returns-in_ok-reply_of-in-Ok-clause-answer
returns-in_ok-reply_of-in-Ok-clause-answer g c =
    let traced = told_to {Self = g.row.L.Denot} g.L.LogSink.tells g.L.LogSink.learnt c.args.log.now c.explain.new.log in
    let reply = c.in_ok-reply_of-in-Ok.field-0 in
    explained c.asked.inside.grid.now c.asked.inside.budget c.args.asked.now traced c.args.station.now.graph c.args.station.now.order c.in-Ok.why reply.status
    reply.text.items
    c.asked.view_is c.in-Ok.ensures.right c.in-Ok.ensures.lines c.in_ok-reply_of-in-Ok.ensures.status c.in_ok-reply_of-in-Ok.ensures.text

pub returns-in_err-reply_of-in-Ok-clause-derives : goal.returns-in_err-reply_of-in-Ok-clause-derives
returns-in_err-reply_of-in-Ok-clause-derives g c =
    let k = g.L.LogSink in
    let lines = c.in-Ok.ensures.lines in
    new_told (k.tells c.args.log.now) (k.tells c.explain.new.log) lines.0 (g.met.L.LogSink.one_reading c.explain.new.log) lines.1.behind lines.2.derives

pub returns-in_ok-reply_of-in-Ok-clause-derives : goal.returns-in_ok-reply_of-in-Ok-clause-derives
returns-in_ok-reply_of-in-Ok-clause-derives g c =
    let k = g.L.LogSink in
    let lines = c.in-Ok.ensures.lines in
    new_told (k.tells c.args.log.now) (k.tells c.explain.new.log) lines.0 (g.met.L.LogSink.one_reading c.explain.new.log) lines.1.behind lines.2.derives

pub returns-in-Err-Log-clause-derives : goal.returns-in-Err-Log-clause-derives
returns-in-Err-Log-clause-derives g c = λ none lines is. (c.in-Err-Log.ensures.left none lines is).derives

pub returns-in-Err-Memory-clause-derives : goal.returns-in-Err-Memory-clause-derives
returns-in-Err-Memory-clause-derives g c = λ none lines is. (c.in-Err-Memory.ensures.left none lines is).derives

pub returns-in_err-reply_of-in-Ok-clause-left : goal.returns-in_err-reply_of-in-Ok-clause-left
returns-in_err-reply_of-in-Ok-clause-left g c =
    let k = g.L.LogSink in
    let lines = c.in-Ok.ensures.lines in
    on_err_anyway _ _ (told_why_left c.asked.inside.grid.now c.asked.inside.budget c.args.asked.now c.args.station.now.graph c.args.station.now.order
    c.in-Ok.why lines.0 (k.tells c.args.log.now) (k.tells c.explain.new.log) c.asked.view_is lines.2
    (g.met.L.LogSink.one_reading c.explain.new.log) lines.1.behind)

pub returns-in-Err-Log-clause-left : goal.returns-in-Err-Log-clause-left
returns-in-Err-Log-clause-left g c = λ none lines is. left_of_parts c.asked.inside.grid.now c.asked.inside.budget c.args.asked.now c.args.station.now.graph
    c.args.station.now.order lines c.asked.view_is (c.in-Err-Log.ensures.left none lines is)

pub returns-in-Err-Memory-clause-left : goal.returns-in-Err-Memory-clause-left
returns-in-Err-Memory-clause-left g c = λ none lines is. left_of_parts c.asked.inside.grid.now c.asked.inside.budget c.args.asked.now c.args.station.now.graph
    c.args.station.now.order lines c.asked.view_is (c.in-Err-Memory.ensures.left none lines is)
