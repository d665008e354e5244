use Rattle.std.proofs.Common.{◌≡◌}
use Rattle.outside_io.proofs.Results.{on_err_anyway}
use Rattle.refute_log.specs.Told.{Lines}
use Rattle.cdcl_core.specs.Search.{clauses}
use Rattle.cdcl_core.specs.Rounds.{BelongsAt}
use Rattle.cdcl_core.proofs.ConflictLemmas.{refuted_told}
use Rattle.cdcl_core.proofs.StoreLemmas.{analysed_store, analysed_clauses}
use Rattle.cdcl_core.proofs.LeftLemmas.{left_same, left_refused}
use Rattle.cdcl_core.proofs.RoundLemmas.{ends_refuted}
use Rattle.cdcl_core.specs.declared.answer.Answer.TheVariants.{Refuted as RefutedAnswer, Spent}
use Rattle.cdcl_core.proofs.StepLemmas.{not_err}
use Rattle.cdcl_core.proofs.search.Search.refute.Goals as goal

pub tell-requires : goal.tell-requires
tell-requires g c = refuted_told c.args.self.now c.in_ok-clause.clause c.requires.search c.in_ok-clause.ensures.there c.in_ok-clause.ensures.distinct

pub returns-clause-ends : goal.returns-clause-ends
returns-clause-ends g c = ends_refuted (g.L.LogSink.tells c.args.log.now) (g.L.LogSink.tells c.tell.new.self) (g.L.LogSink.learnt c.args.log.now)
    (g.L.LogSink.learnt c.tell.new.self) c.args.query.now c.in_ok-clause.clause c.args.self.now c.refutation.new.self
    (analysed_store c.args.self.now c.refutation.new.self c.in_ok-clause.ensures.same)
    (analysed_clauses c.args.self.now c.refutation.new.self c.in_ok-clause.ensures.same)
    (refuted_told c.args.self.now c.in_ok-clause.clause c.requires.search c.in_ok-clause.ensures.there c.in_ok-clause.ensures.distinct) c.requires.named
    c.in_ok-clause.ensures.refuting c.in_ok-clause.ensures.needed c.in_ok-tell.ensures.ok c.in_ok-tell.ensures.learnt

pub returns-in_err-clause-clause-leaves : goal.returns-in_err-clause-clause-leaves
returns-in_err-clause-clause-leaves g c = on_err_anyway _ _ (left_same (g.L.LogSink.tells c.args.log.now)
    (λ (lines : Lines). BelongsAt c.args.query.now lines (clauses c.args.self.now) c.args.self.now.words) (g.met.L.LogSink.one_reading c.args.log.now)
    (λ lines b. b.belongs.derives))

pub returns-in_err-tell-clause-leaves : goal.returns-in_err-tell-clause-leaves
returns-in_err-tell-clause-leaves g c = on_err_anyway _ _ (left_refused (g.L.LogSink.tells c.args.log.now) (g.L.LogSink.tells c.tell.new.self)
    (λ (lines : Lines). BelongsAt c.args.query.now lines (clauses c.args.self.now) c.args.self.now.words) (g.met.L.LogSink.one_reading c.args.log.now)
    c.in_err-tell.ensures.err (λ lines b. b.belongs.derives))

refuted_unspent : RefutedAnswer ≡ Spent → ⊥
refuted_unspent e = cc

pub returns-clause-cause : goal.returns-clause-cause
returns-clause-cause g c = λ e. absurd (not_err _ _ e)

pub returns-clause-unspent : goal.returns-clause-unspent
returns-clause-unspent g c = refuted_unspent
