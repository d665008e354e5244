use Rattle.std.proofs.Common.{◌∙◌, ap, arith}
use Rattle.cnf_core.specs.Formula.{Cnf}
use Rattle.drawing_cnf.specs.Layout.{layout_of}
use Rattle.search_least.specs.CountAsked.{IsAnswer}
use Rattle.search_moved.specs.Known.{KnowsMoved, TellsAnswer, moved_task}
use Rattle.lex_minimise.proofs.TellLemmas.{goes_weaker}
use Rattle.search_moved.proofs.MovedLemmas.{query_is, last_is, few_variables, answer_lines}
use Rattle.outside_io.proofs.Results.{on_err_anyway}
use Rattle.search_moved.proofs.LeftLemmas.{known_left, later_left}
use Rattle.search_moved.proofs.asking.ask.Goals as goal

pub assumption-requires : goal.assumption-requires
assumption-requires g c = let k = c.args.known.now in
    let value = c.vars-vars.ensures.value in
    let most = c.vars-vars.ensures.limit in
    few_variables k.encoded k.former.now k.budget k.room c.vars.result c.args.solver.now c.args.limit c.requires.ready
    (c.vars.ensures.value ∙ ap (λ (f : Cnf). f.vars) c.formula.ensures) (omega (arith, value, most)) c.requires.limit

pub query-requires-clause-assumed : goal.query-requires-clause-assumed
query-requires-clause-assumed g c = let k = c.args.known.now in
    c.deref.ensures.value ∙ c.in_ok-assume.ensures ∙ query_is (layout_of k.encoded) k.former.now k.budget k.room c.vars.result c.args.limit
    (c.vars.ensures.value ∙ ap (λ (f : Cnf). f.vars) c.formula.ensures ∙ last_is k.encoded k.former.now k.budget k.room c.args.solver.now c.requires.ready)

pub reply-requires-clause-assumed : goal.reply-requires-clause-assumed
reply-requires-clause-assumed g c = let k = c.args.known.now in
    c.deref-2.ensures.value ∙ c.in_ok-assume.ensures ∙ query_is (layout_of k.encoded) k.former.now k.budget k.room c.vars.result c.args.limit
    (c.vars.ensures.value ∙ ap (λ (f : Cnf). f.vars) c.formula.ensures ∙ last_is k.encoded k.former.now k.budget k.room c.args.solver.now c.requires.ready)

pub returns-clause-lines : goal.returns-clause-lines
returns-clause-lines g c =
    let k = c.args.known.now in
    let l = g.L.LogSink in
    let y = layout_of k.encoded in
    let p = moved_task y k.former.now k.budget k.room in
    goes_weaker (KnowsMoved y k.former.now k.budget k.room c.args.solver.now) (KnowsMoved y k.former.now k.budget k.room c.query.new.solver)
    (l.tells c.args.log.now) (l.tells c.query.new.log) (l.learnt c.args.log.now) (l.learnt c.query.new.log)
    (λ lines more. TellsAnswer p lines c.args.limit c.in_ok-answer.answer more) (λ lines more. IsAnswer p lines c.args.limit c.in_ok-reply.reply more)
    c.in_ok-answer.ensures.lines
    (λ lines more. answer_lines p lines c.args.limit c.in_ok-answer.answer c.in_ok-reply.reply more c.in_ok-reply.ensures.of)

pub returns-in_err-assume-clause-leaves : goal.returns-in_err-assume-clause-leaves
returns-in_err-assume-clause-leaves g c =
    let l = g.L.LogSink in
    let k = c.args.known.now in
    on_err_anyway _ _ (known_left (layout_of k.encoded) k.former.now k.budget k.room c.args.solver.now (l.tells c.args.log.now)
    (g.met.L.LogSink.one_reading c.args.log.now))

pub returns-in_err-answer-clause-leaves : goal.returns-in_err-answer-clause-leaves
returns-in_err-answer-clause-leaves g c = on_err_anyway _ _ c.in_err-answer.ensures.leaves

pub returns-in_err-reply-clause-leaves : goal.returns-in_err-reply-clause-leaves
returns-in_err-reply-clause-leaves g c =
    let l = g.L.LogSink in
    let k = c.args.known.now in
    let y = layout_of k.encoded in
    let old = c.args.solver.now in
    let new = c.query.new.solver in
    on_err_anyway _ _ (later_left y k.former.now k.budget k.room old new (l.tells c.args.log.now) (l.tells c.query.new.log) (l.tells c.query.new.log)
    (l.learnt c.args.log.now) (l.learnt c.query.new.log)
    (λ lines more. TellsAnswer (moved_task y k.former.now k.budget k.room) lines c.args.limit c.in_ok-answer.answer more) c.in_ok-answer.ensures.lines
    (known_left y k.former.now k.budget k.room new (l.tells c.query.new.log) (g.met.L.LogSink.one_reading c.query.new.log)))
