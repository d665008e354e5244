use Rattle.std.proofs.Common.{◌∙◌, List, [], refl, sym, subst}
use Rattle.outside_io.proofs.Results.{on_err_anyway}
use Rattle.cnf_core.specs.Lit.{Literal}
use Rattle.refute_log.specs.declared.line.LogLine.TheVariants.{Query, Refuted}
use Rattle.refute_log.specs.Told.{Lines, AddsLine}
use Rattle.refute_log.specs.Lines.{MayBeTold}
use Rattle.cdcl_core.specs.Belongs.{BelongsTo}
use Rattle.cdcl_core.specs.Search.{clauses}
use Rattle.cdcl_core.specs.Rounds.{BelongsAt}
use Rattle.cdcl_core.proofs.AskLemmas.{asking_none}
use Rattle.cdcl_core.proofs.ConflictLemmas.{query_told}
use Rattle.cdcl_core.proofs.ModelLemmas.{query_there}
use Rattle.cdcl_core.proofs.LeftLemmas.{left_same, left_refused, counted_none, counted_from}
use Rattle.cdcl_core.proofs.RoundLemmas.{searched_ok, searched_seen, searched_refuted, query_err, query_err_of}
use Rattle.cdcl_core.proofs.StepLemmas.{not_err}
use Rattle.cdcl_core.proofs.search.Search.search.Goals as goal

pub tell-requires : goal.tell-requires
tell-requires g c = subst (λ (q : List Literal). MayBeTold (Query q)) (sym c.in_ok-new.ensures)
    (query_told c.args.self.now c.args.query.now c.requires.idle.search (query_there c.args.self.now c.args.query.now c.requires.idle.search c.requires.named)
    c.requires.distinct)

pub rounds-requires-clause-there : goal.rounds-requires-clause-there
rounds-requires-clause-there g c = query_there c.args.self.now c.args.query.now c.requires.idle.search c.requires.named

pub rounds-requires-clause-asking : goal.rounds-requires-clause-asking
rounds-requires-clause-asking g c = asking_none c.args.self.now.arena c.args.self.now.trail c.args.query.now c.requires.idle.level

pub returns-in_err-new-clause-leaves : goal.returns-in_err-new-clause-leaves
returns-in_err-new-clause-leaves g c = on_err_anyway _ _ (left_same (g.L.LogSink.tells c.args.log.now)
    (λ (lines : Lines). BelongsTo lines (clauses c.args.self.now) c.args.self.now.words) (g.met.L.LogSink.one_reading c.args.log.now) (λ lines b. b.derives))

pub returns-in_err-tell-clause-leaves : goal.returns-in_err-tell-clause-leaves
returns-in_err-tell-clause-leaves g c = on_err_anyway _ _ (left_refused (g.L.LogSink.tells c.args.log.now) (g.L.LogSink.tells c.tell.new.self)
    (λ (lines : Lines). BelongsTo lines (clauses c.args.self.now) c.args.self.now.words) (g.met.L.LogSink.one_reading c.args.log.now) c.in_err-tell.ensures.err
    (λ lines b. b.derives))

pub returns-in_err-tell-2-clause-leaves : goal.returns-in_err-tell-2-clause-leaves
returns-in_err-tell-2-clause-leaves g c =
    let asked : AddsLine (g.L.LogSink.tells c.args.log.now) (g.L.LogSink.tells c.tell.new.self) (Query c.args.query.now) = subst
    (λ (q : List Literal). AddsLine (g.L.LogSink.tells c.args.log.now) (g.L.LogSink.tells c.tell.new.self) (Query q)) c.in_ok-new.ensures
    c.in_ok-tell.ensures.ok in
    on_err_anyway _ _ (query_err (g.L.LogSink.tells c.args.log.now) (g.L.LogSink.tells c.tell.new.self) (g.L.LogSink.tells c.tell-then-self.new.self)
    c.args.query.now c.args.self.now (query_told c.args.self.now c.args.query.now c.requires.idle.search
    (query_there c.args.self.now c.args.query.now c.requires.idle.search c.requires.named) c.requires.distinct) c.requires.named asked
    (left_refused (g.L.LogSink.tells c.tell.new.self) (g.L.LogSink.tells c.tell-then-self.new.self)
    (λ (lines : Lines). BelongsAt c.args.query.now lines (clauses c.args.self.now) c.args.self.now.words) (g.met.L.LogSink.one_reading c.tell.new.self)
    c.in_err-tell-2.ensures.err (λ lines b. b.belongs.derives)))

pub returns-then-self-clause-searched : goal.returns-then-self-clause-searched
returns-then-self-clause-searched g c =
    let asked : AddsLine (g.L.LogSink.tells c.args.log.now) (g.L.LogSink.tells c.tell.new.self) (Query c.args.query.now) = subst
    (λ (q : List Literal). AddsLine (g.L.LogSink.tells c.args.log.now) (g.L.LogSink.tells c.tell.new.self) (Query q)) c.in_ok-new.ensures
    c.in_ok-tell.ensures.ok in
    let ends : AddsLine (g.L.LogSink.tells c.tell.new.self) (g.L.LogSink.tells c.tell-then-self.new.self) (Refuted []) = subst
    (λ (q : List Literal). AddsLine (g.L.LogSink.tells c.tell.new.self) (g.L.LogSink.tells c.tell-then-self.new.self) (Refuted q))
    (c.from_vec.ensures ∙ c.new-then-self.ensures.items) c.in_ok-tell-2.ensures.ok in
    searched_refuted (g.L.LogSink.tells c.args.log.now) (g.L.LogSink.tells c.tell.new.self) (g.L.LogSink.tells c.tell-then-self.new.self)
    (g.L.LogSink.learnt c.args.log.now) (g.L.LogSink.learnt c.tell.new.self) (g.L.LogSink.learnt c.tell-then-self.new.self) c.args.query.now c.args.self.now _
    c.args.budget (record { arena = refl; trail = refl; own = refl; numbers = (refl, refl, refl); flags = (refl, refl, refl) }) c.clear.ensures.clause
    c.requires.idle.search c.if-self.true (query_told c.args.self.now c.args.query.now c.requires.idle.search
    (query_there c.args.self.now c.args.query.now c.requires.idle.search c.requires.named) c.requires.distinct) c.requires.named asked
    c.in_ok-tell.ensures.learnt ends c.in_ok-tell-2.ensures.learnt

pub returns-clause-searched : goal.returns-clause-searched
returns-clause-searched g c =
    let asked : AddsLine (g.L.LogSink.tells c.args.log.now) (g.L.LogSink.tells c.tell.new.self) (Query c.args.query.now) = subst
    (λ (q : List Literal). AddsLine (g.L.LogSink.tells c.args.log.now) (g.L.LogSink.tells c.tell.new.self) (Query q)) c.in_ok-new.ensures
    c.in_ok-tell.ensures.ok in
    searched_seen c.rounds.result (g.L.LogSink.tells c.args.log.now) (g.L.LogSink.tells c.rounds.new.log) (g.L.LogSink.learnt c.args.log.now)
    (g.L.LogSink.learnt c.rounds.new.log) c.args.query.now c.args.self.now _ c.rounds.new.self c.args.budget refl
    (searched_ok c.rounds.result (g.L.LogSink.tells c.args.log.now) (g.L.LogSink.tells c.tell.new.self) (g.L.LogSink.tells c.rounds.new.log)
    (g.L.LogSink.learnt c.args.log.now) (g.L.LogSink.learnt c.tell.new.self) (g.L.LogSink.learnt c.rounds.new.log) c.args.query.now _ c.rounds.new.self
    c.args.budget (query_told c.args.self.now c.args.query.now c.requires.idle.search
    (query_there c.args.self.now c.args.query.now c.requires.idle.search c.requires.named) c.requires.distinct) c.requires.named asked
    c.in_ok-tell.ensures.learnt c.rounds.ensures.ends)

pub returns-clause-leaves : goal.returns-clause-leaves
returns-clause-leaves g c =
    let asked : AddsLine (g.L.LogSink.tells c.args.log.now) (g.L.LogSink.tells c.tell.new.self) (Query c.args.query.now) = subst
    (λ (q : List Literal). AddsLine (g.L.LogSink.tells c.args.log.now) (g.L.LogSink.tells c.tell.new.self) (Query q)) c.in_ok-new.ensures
    c.in_ok-tell.ensures.ok in
    query_err_of c.rounds.result (g.L.LogSink.tells c.args.log.now) (g.L.LogSink.tells c.tell.new.self) (g.L.LogSink.tells c.rounds.new.log) c.args.query.now
    c.args.self.now (query_told c.args.self.now c.args.query.now c.requires.idle.search
    (query_there c.args.self.now c.args.query.now c.requires.idle.search c.requires.named) c.requires.distinct) c.requires.named asked c.rounds.ensures.leaves

pub returns-in_err-new-clause-few : goal.returns-in_err-new-clause-few
returns-in_err-new-clause-few g c = on_err_anyway _ _ (counted_none c.args.budget (g.L.LogSink.learnt c.args.log.now) (g.L.LogSink.learnt c.args.log.now) refl)

pub returns-in_err-tell-clause-few : goal.returns-in_err-tell-clause-few
returns-in_err-tell-clause-few g c = on_err_anyway _ _ (counted_none c.args.budget (g.L.LogSink.learnt c.args.log.now) (g.L.LogSink.learnt c.tell.new.self)
    c.in_err-tell.ensures.learnt_err)

pub returns-in_err-tell-2-clause-few : goal.returns-in_err-tell-2-clause-few
returns-in_err-tell-2-clause-few g c = on_err_anyway _ _ (counted_none c.args.budget (g.L.LogSink.learnt c.args.log.now)
    (g.L.LogSink.learnt c.tell-then-self.new.self) (c.in_err-tell-2.ensures.learnt_err ∙ c.in_ok-tell.ensures.learnt))

pub returns-clause-few : goal.returns-clause-few
returns-clause-few g c = counted_from c.rounds.result c.args.budget (g.L.LogSink.learnt c.args.log.now) (g.L.LogSink.learnt c.tell.new.self)
    (g.L.LogSink.learnt c.rounds.new.log) c.in_ok-tell.ensures.learnt c.rounds.ensures.few

pub returns-then-self-clause-search : goal.returns-then-self-clause-search
returns-then-self-clause-search g c =
    let search = c.requires.idle.search in
    let f = search.fitted in
    record {
      fitted = record {
        room_limit = f.room_limit;
        heap_size = f.heap_size;
        analyser_size = c.clear.ensures.vars
            ∙ f.analyser_size;
        phases_size = f.phases_size;
        arena_limit = f.arena_limit;
        sum = f.sum;
        within = f.within;
      };
      solving = search.solving;
      offered = search.offered;
    }

pub returns-in_err-tell-2-clause-later : goal.returns-in_err-tell-2-clause-later
returns-in_err-tell-2-clause-later g c = g.met.L.LogSink.later_more c.args.log.now c.tell.new.self c.tell-then-self.new.self c.in_ok-tell.ensures.later
    c.in_err-tell-2.ensures.later

pub returns-then-self-clause-later : goal.returns-then-self-clause-later
returns-then-self-clause-later g c = g.met.L.LogSink.later_more c.args.log.now c.tell.new.self c.tell-then-self.new.self c.in_ok-tell.ensures.later
    c.in_ok-tell-2.ensures.later

pub returns-clause-later : goal.returns-clause-later
returns-clause-later g c = g.met.L.LogSink.later_more c.args.log.now c.tell.new.self c.rounds.new.log c.in_ok-tell.ensures.later c.rounds.ensures.later

pub returns-then-self-clause-cause : goal.returns-then-self-clause-cause
returns-then-self-clause-cause g c = λ e. absurd (not_err _ _ e)
