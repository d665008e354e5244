use Rattle.outside_io.proofs.Results.{on_err_anyway}
use Rattle.cdcl_core.specs.Search.{clauses, seen}
use Rattle.cdcl_core.proofs.RoundLemmas.{searched_err, searched_counted, searched_same, given_same}
use Rattle.cdcl_core.proofs.StepLemmas.{not_err}
use Rattle.cdcl_core.proofs.search.Search.solve.Goals as goal

pub conclude-requires-clause-says : goal.conclude-requires-clause-says
conclude-requires-clause-says g c = c.in_ok-answer.ensures.searched.says

pub returns-clause-answer : goal.returns-clause-answer
returns-clause-answer g c = λ given h. c.in_ok-model.ensures.answer given c.in_ok-refuted.refuted.items (c.in_ok-answer.ensures.searched.given given h)

pub returns-clause-given : goal.returns-clause-given
returns-clause-given g c = λ given h. given_same given (clauses c.search.new.self) (clauses c.conclude.new.self) c.in_ok-model.ensures.store.clauses
    (c.in_ok-answer.ensures.searched.given given h)

pub returns-clause-searched : goal.returns-clause-searched
returns-clause-searched g c = searched_same (g.L.LogSink.tells c.args.log.now) (g.L.LogSink.tells c.search.new.log) c.args.query.now (seen c.args.self.now)
    c.search.new.self c.conclude.new.self c.in_ok-answer.answer c.args.budget (g.L.LogSink.learnt c.args.log.now) (g.L.LogSink.learnt c.search.new.log)
    c.in_ok-model.ensures.store c.in_ok-answer.ensures.searched.searched

pub returns-in_err-model-clause-leaves : goal.returns-in_err-model-clause-leaves
returns-in_err-model-clause-leaves g c = on_err_anyway _ _ (searched_err (g.L.LogSink.tells c.args.log.now) (g.L.LogSink.tells c.search.new.log)
    c.args.query.now c.args.self.now c.search.new.self c.in_ok-answer.answer c.args.budget (g.L.LogSink.learnt c.args.log.now)
    (g.L.LogSink.learnt c.search.new.log) (g.met.L.LogSink.one_reading c.search.new.log) c.in_ok-answer.ensures.searched.searched)

pub returns-in_err-model-clause-few : goal.returns-in_err-model-clause-few
returns-in_err-model-clause-few g c = on_err_anyway _ _ (searched_counted (g.L.LogSink.tells c.args.log.now) (g.L.LogSink.tells c.search.new.log)
    c.args.query.now c.args.self.now c.search.new.self c.in_ok-answer.answer c.args.budget (g.L.LogSink.learnt c.args.log.now)
    (g.L.LogSink.learnt c.search.new.log) c.in_ok-answer.ensures.searched.searched)

pub returns-clause-model : goal.returns-clause-model
returns-clause-model g c = c.in_ok-model.ensures.model c.in_ok-refuted.refuted.items

pub returns-clause-refuted : goal.returns-clause-refuted
returns-clause-refuted g c = λ given h. c.in_ok-refuted.ensures given (c.in_ok-answer.ensures.searched.given given h)

pub refuted_of-requires : goal.refuted_of-requires
refuted_of-requires g c = c.in_ok-answer.ensures.searched.says

pub returns-in_err-refuted-clause-leaves : goal.returns-in_err-refuted-clause-leaves
returns-in_err-refuted-clause-leaves g c = on_err_anyway _ _ (searched_err (g.L.LogSink.tells c.args.log.now) (g.L.LogSink.tells c.search.new.log)
    c.args.query.now c.args.self.now c.search.new.self c.in_ok-answer.answer c.args.budget (g.L.LogSink.learnt c.args.log.now)
    (g.L.LogSink.learnt c.search.new.log) (g.met.L.LogSink.one_reading c.search.new.log) c.in_ok-answer.ensures.searched.searched)

pub returns-in_err-refuted-clause-few : goal.returns-in_err-refuted-clause-few
returns-in_err-refuted-clause-few g c = on_err_anyway _ _ (searched_counted (g.L.LogSink.tells c.args.log.now) (g.L.LogSink.tells c.search.new.log)
    c.args.query.now c.args.self.now c.search.new.self c.in_ok-answer.answer c.args.budget (g.L.LogSink.learnt c.args.log.now)
    (g.L.LogSink.learnt c.search.new.log) c.in_ok-answer.ensures.searched.searched)

pub returns-clause-cause : goal.returns-clause-cause
returns-clause-cause g c = λ e. absurd (not_err _ _ e)
