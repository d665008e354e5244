use Rattle.std.proofs.Common.{◌<◌, ◌≤◌, List, ℕ, length, sym, ◌∙◌, ap, subst}
use Rattle.std.specs.Prelude.{All}
use Rattle.cnf_core.specs.declared.limits.TheConstants.{VARS}
use Rattle.outside_io.proofs.Results.{on_err_anyway}
use Rattle.lex_minimise.proofs.TellLemmas.{goes_weaker}
use Rattle.search_why.specs.Asked.{TellsReply}
use Rattle.law_core.specs.Known.{KnowsWhy, TellsAnswer, task_of}
use Rattle.law_core.specs.Query.{query_of}
use Rattle.law_core.specs.Search.{layout_with}
use Rattle.law_core.proofs.AskLemmas.{selecting_within, wanted_there}
use Rattle.law_core.proofs.QueryLemmas.{known_left, later_left, reply_tells}
use Rattle.law_core.proofs.asking.ask.Goals as goal

pub returns-clause-lines : goal.returns-clause-lines
returns-clause-lines g c =
    let k = c.args.known.now in
    let l = g.L.LogSink in
    let y = layout_with k in
    goes_weaker (KnowsWhy (task_of y k.budget k.room) c.args.solver.now) (KnowsWhy (task_of y k.budget k.room) c.query.new.solver) (l.tells c.args.log.now)
    (l.tells c.query.new.log) (l.learnt c.args.log.now) (l.learnt c.query.new.log)
    (λ lines more. TellsAnswer (task_of y k.budget k.room) c.in_ok-answer.answer lines more)
    (λ lines more. TellsReply (task_of y k.budget k.room) c.in_ok-reply.reply lines more) c.in_ok-answer.ensures.lines
    (λ lines more. reply_tells y k.budget k.room c.in_ok-answer.answer c.in_ok-reply.reply lines more c.in_ok-reply.ensures.of)

pub returns-in_err-assume-clause-leaves : goal.returns-in_err-assume-clause-leaves
returns-in_err-assume-clause-leaves g c =
    let k = g.L.LogSink in
    let x = c.args.known.now in
    on_err_anyway _ _ (known_left (layout_with x) x.budget x.room c.args.solver.now (k.tells c.args.log.now) (g.met.L.LogSink.one_reading c.args.log.now))

pub returns-in_err-answer-clause-leaves : goal.returns-in_err-answer-clause-leaves
returns-in_err-answer-clause-leaves g c = on_err_anyway _ _ c.in_err-answer.ensures.leaves

pub returns-in_err-reply-clause-leaves : goal.returns-in_err-reply-clause-leaves
returns-in_err-reply-clause-leaves g c =
    let k = g.L.LogSink in
    let x = c.args.known.now in
    let y = layout_with x in
    on_err_anyway _ _ (later_left y x.budget x.room c.args.solver.now c.query.new.solver (k.tells c.args.log.now) (k.tells c.query.new.log)
    (k.tells c.query.new.log) (k.learnt c.args.log.now) (k.learnt c.query.new.log)
    (λ lines more. TellsAnswer (task_of y x.budget x.room) c.in_ok-answer.answer lines more) c.in_ok-answer.ensures.lines
    (known_left y x.budget x.room c.query.new.solver (k.tells c.query.new.log) (g.met.L.LogSink.one_reading c.query.new.log)))

pub assumptions-requires : goal.assumptions-requires
assumptions-requires g c =
    let k = c.args.known.now in
    let y = layout_with k in
    record {
      there = subst (λ (xs : List ℕ). All (λ n. n < length xs) c.args.wanted.now) (sym c.deref.ensures.value)
          (wanted_there y k.selecting.items c.args.wanted.now k.budget k.room c.requires.ready.selecting_are c.requires.places);
      variables = subst (All (λ x. (1 ≤ x) × (x ≤ VARS))) (sym c.deref.ensures.value)
          (selecting_within y k.selecting.items k.budget k.room c.args.solver.now c.requires.ready);
    }

pub query-requires-clause-assumed : goal.query-requires-clause-assumed
query-requires-clause-assumed g c = c.deref-2.ensures.value ∙ c.in_ok-assume.ensures ∙ ap (λ (xs : List ℕ). query_of xs c.args.wanted.now) c.deref.ensures.value

pub reply-requires-clause-assumed : goal.reply-requires-clause-assumed
reply-requires-clause-assumed g c = c.deref-3.ensures.value ∙ c.in_ok-assume.ensures ∙ ap (λ (xs : List ℕ). query_of xs c.args.wanted.now) c.deref.ensures.value
