use Rattle.std.proofs.Common.{subst, []}
use Rattle.cdcl_core.specs.Kept.{Kept}
use Rattle.search_least.specs.Asked.{IsReply}
use Rattle.drawing_cnf.specs.Layout.{layout_of}
use Rattle.lex_minimise.specs.Known.{KnowsLines}
use Rattle.lex_minimise.specs.Task.{task_of}
use Rattle.refute_log.specs.Told.{Lines}
use Rattle.refute_log.specs.Steps.{GoesOn, Leaves}
use Rattle.lex_minimise.specs.Asking.{TellsAnswer}
use Rattle.lex_minimise.proofs.TellLemmas.{goes_weaker}
use Rattle.lex_minimise.proofs.QueryLemmas.{reply_lines}
use Rattle.lex_minimise.proofs.LeftLemmas.{answer_left}
use Rattle.refute_log.proofs.StepLemmas.{leaves_same}
use Rattle.lex_minimise.proofs.asking.ask.Goals as goal
use Rattle.outside_io.proofs.Results.{on_err_anyway}

pub returns-clause-lines : goal.returns-clause-lines
returns-clause-lines g c =
    let k = c.args.known.now in
    let l = g.L.LogSink in
    let y = layout_of k.encoded in
    let p = task_of y k.budget k.room in
    let bounds = c.args.bounds.now in
    goes_weaker (KnowsLines y k.told.items k.budget k.room c.args.solver.now) (KnowsLines y k.told.items k.budget k.room c.query.new.solver)
    (l.tells c.args.log.now) (l.tells c.query.new.log) (l.learnt c.args.log.now) (l.learnt c.query.new.log)
    (λ lines more. TellsAnswer p lines bounds c.in_ok-answer.answer more) (λ lines more. IsReply p lines bounds c.in_ok-reply.reply more)
    (subst (λ (s : Kept). GoesOn (KnowsLines y k.told.items k.budget k.room s) (KnowsLines y k.told.items k.budget k.room c.query.new.solver)
    (l.tells c.args.log.now) (l.tells c.query.new.log) (l.learnt c.args.log.now) (l.learnt c.query.new.log)
    (λ lines more. TellsAnswer p lines bounds c.in_ok-answer.answer more)) c.in_ok-begin_near.ensures c.in_ok-answer.ensures.lines)
    (λ lines more. reply_lines p lines bounds c.in_ok-answer.answer c.in_ok-reply.reply more c.in_ok-reply.ensures.of)

pub returns-in_err-begin_near-clause-leaves : goal.returns-in_err-begin_near-clause-leaves
returns-in_err-begin_near-clause-leaves g c =
    let k = g.L.LogSink in
    let x = c.args.known.now in
    let known = KnowsLines (layout_of x.encoded) x.told.items x.budget x.room c.args.solver.now in
    on_err_anyway _ _ (leaves_same known (k.tells c.args.log.now) (λ lines b. b.belongs.derives) (g.met.L.LogSink.one_reading c.args.log.now))

pub returns-in_err-assume-clause-leaves : goal.returns-in_err-assume-clause-leaves
returns-in_err-assume-clause-leaves g c =
    let k = g.L.LogSink in
    let x = c.args.known.now in
    let known = KnowsLines (layout_of x.encoded) x.told.items x.budget x.room c.args.solver.now in
    on_err_anyway _ _ (leaves_same known (k.tells c.args.log.now) (λ lines b. b.belongs.derives) (g.met.L.LogSink.one_reading c.args.log.now))

pub returns-in_err-answer-clause-leaves : goal.returns-in_err-answer-clause-leaves
returns-in_err-answer-clause-leaves g c =
    let k = g.L.LogSink in
    let x = c.args.known.now in
    on_err_anyway _ _ (subst (λ (s : Kept). Leaves x.budget [] (KnowsLines (layout_of x.encoded) x.told.items x.budget x.room s) (k.tells c.args.log.now)
    (k.tells c.query.new.log)) c.in_ok-begin_near.ensures c.in_err-answer.ensures.leaves)

pub returns-in_err-reply-clause-leaves : goal.returns-in_err-reply-clause-leaves
returns-in_err-reply-clause-leaves g c =
    let k = g.L.LogSink in
    let x = c.args.known.now in
    let y = layout_of x.encoded in
    let tells = λ (lines more : Lines). TellsAnswer (task_of y x.budget x.room) lines c.args.bounds.now c.in_ok-answer.answer more in
    on_err_anyway _ _ (answer_left y x.told.items x.budget x.room c.args.solver.now c.query.new.solver (k.tells c.args.log.now) (k.tells c.query.new.log)
    (k.learnt c.args.log.now) (k.learnt c.query.new.log) tells
    (subst (λ (s : Kept). GoesOn (KnowsLines y x.told.items x.budget x.room s) (KnowsLines y x.told.items x.budget x.room c.query.new.solver)
    (k.tells c.args.log.now) (k.tells c.query.new.log) (k.learnt c.args.log.now) (k.learnt c.query.new.log) tells)
    c.in_ok-begin_near.ensures c.in_ok-answer.ensures.lines)
    (leaves_same (KnowsLines y x.told.items x.budget x.room c.query.new.solver) (k.tells c.query.new.log) (λ lines b. b.belongs.derives)
    (g.met.L.LogSink.one_reading c.query.new.log)))
