use Rattle.outside_io.proofs.Results.{on_err_anyway}
use Rattle.refute_log.specs.Told.{Lines}
use Rattle.cdcl_core.specs.Search.{clauses}
use Rattle.cdcl_core.specs.Rounds.{BelongsAt}
use Rattle.cdcl_core.proofs.LeftLemmas.{left_refused}
use Rattle.cdcl_core.proofs.RoundLemmas.{ends_model}
use Rattle.cdcl_core.proofs.search.Search.complete.Goals as goal

pub returns-clause-ends : goal.returns-clause-ends
returns-clause-ends g c = ends_model (g.L.LogSink.tells c.args.log.now) (g.L.LogSink.tells c.tell.new.self) (g.L.LogSink.learnt c.args.log.now)
    (g.L.LogSink.learnt c.tell.new.self) c.args.query.now c.args.self.now c.in_ok-tell.ensures.ok c.in_ok-tell.ensures.learnt c.requires.complete

pub returns-in_err-tell-clause-leaves : goal.returns-in_err-tell-clause-leaves
returns-in_err-tell-clause-leaves g c = on_err_anyway _ _ (left_refused (g.L.LogSink.tells c.args.log.now) (g.L.LogSink.tells c.tell.new.self)
    (λ (lines : Lines). BelongsAt c.args.query.now lines (clauses c.args.self.now) c.args.self.now.words) (g.met.L.LogSink.one_reading c.args.log.now)
    c.in_err-tell.ensures.err (λ lines b. b.belongs.derives))
