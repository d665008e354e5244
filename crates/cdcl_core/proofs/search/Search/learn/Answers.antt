use Rattle.std.proofs.Common.{◌≡◌, refl, sym, ◌∙◌, subst, arith}
use Rattle.std.proofs.lemmas.Option.{none-some}
use Rattle.outside_io.proofs.Results.{on_err_anyway}
use Rattle.refute_log.specs.declared.line.LogLine.TheVariants.{Learnt}
use Rattle.refute_log.specs.Told.{Lines}
use Rattle.cdcl_core.specs.Kept.{IsFull}
use Rattle.cdcl_core.specs.Search.{clauses, IsLearntFrom, IsKeptOne}
use Rattle.cdcl_core.specs.Rounds.{BelongsAt}
use Rattle.cdcl_core.proofs.ConflictLemmas.{learnt_told}
use Rattle.cdcl_core.proofs.LeftLemmas.{left_same, left_refused, left_told, counted_none, counted_one}
use Rattle.cdcl_core.proofs.RoundLemmas.{some_of, none_of, ends_full, learns_one, learn_derives}
use Rattle.cdcl_core.proofs.StoreLemmas.{analysed_asking}
use Rattle.cdcl_core.specs.declared.answer.Answer.TheVariants.{Spent, Room}
use Rattle.cdcl_core.proofs.StepLemmas.{not_err}
use Rattle.cdcl_core.proofs.search.Search.learn.Goals as goal

pub derive-requires-clause-above : goal.derive-requires-clause-above
derive-requires-clause-above g c = let a = c.requires.above in omega arith

pub tell-requires : goal.tell-requires
tell-requires g c = learnt_told c.derive.new.self c.in-Some.clause c.derive.new.self.analyser.back c.in_ok-clause.ensures.search
    (some_of _ c.in-Some.clause (IsFull c.args.self.now.room c.args.self.now.words (clauses c.args.self.now)) (IsLearntFrom c.derive.new.self) c.in-Some.is
    c.in_ok-clause.ensures.learnt).learnt

pub take_learnt-requires-clause-unrefuted : goal.take_learnt-requires-clause-unrefuted
take_learnt-requires-clause-unrefuted g c = c.in_ok-clause.ensures.same.flags.0 ∙ c.requires.unrefuted

pub take_learnt-requires-clause-learnt : goal.take_learnt-requires-clause-learnt
take_learnt-requires-clause-learnt g c = subst (IsLearntFrom c.derive.new.self) (sym c.into_clause.ensures)
    (some_of _ c.in-Some.clause (IsFull c.args.self.now.room c.args.self.now.words (clauses c.args.self.now)) (IsLearntFrom c.derive.new.self) c.in-Some.is
    c.in_ok-clause.ensures.learnt)

pub returns-clause-learnt : goal.returns-clause-learnt
returns-clause-learnt g c = learns_one (g.L.LogSink.tells c.args.log.now) (g.L.LogSink.tells c.tell.new.self) (g.L.LogSink.learnt c.args.log.now)
    (g.L.LogSink.learnt c.tell.new.self) c.args.query.now c.args.self.now c.derive.new.self c.take_learnt.new.self c.in-Some.clause
    (learnt_told c.derive.new.self c.in-Some.clause c.derive.new.self.analyser.back c.in_ok-clause.ensures.search
    (some_of _ c.in-Some.clause (IsFull c.args.self.now.room c.args.self.now.words (clauses c.args.self.now)) (IsLearntFrom c.derive.new.self) c.in-Some.is
    c.in_ok-clause.ensures.learnt).learnt)
    c.in_ok-clause.ensures.same c.requires.search c.requires.unrefuted c.requires.asking c.requires.above
    (some_of _ c.in-Some.clause (IsFull c.args.self.now.room c.args.self.now.words (clauses c.args.self.now)) (IsLearntFrom c.derive.new.self) c.in-Some.is
    c.in_ok-clause.ensures.learnt) (subst (IsKeptOne c.derive.new.self c.take_learnt.new.self) c.into_clause.ensures c.in_ok-take_learnt.ensures.kept)
    c.in_ok-take_learnt.ensures.learnt c.in_ok-tell.ensures.ok c.in_ok-tell.ensures.learnt

pub returns-clause-on : goal.returns-clause-on
returns-clause-on g c = λ none. (
  c.in_ok-take_learnt.ensures.asking c.args.query.now
      (analysed_asking c.args.query.now c.args.self.now c.derive.new.self c.in_ok-clause.ensures.same c.requires.asking),
  c.in_ok-take_learnt.ensures.refuted,
)

pub returns-in_err-clause-clause-leaves : goal.returns-in_err-clause-clause-leaves
returns-in_err-clause-clause-leaves g c = on_err_anyway _ _ (left_same (g.L.LogSink.tells c.args.log.now)
    (λ (lines : Lines). BelongsAt c.args.query.now lines (clauses c.args.self.now) c.args.self.now.words) (g.met.L.LogSink.one_reading c.args.log.now)
    (λ lines b. b.belongs.derives))

pub returns-in_err-tell-clause-leaves : goal.returns-in_err-tell-clause-leaves
returns-in_err-tell-clause-leaves g c = on_err_anyway _ _ (left_refused (g.L.LogSink.tells c.args.log.now) (g.L.LogSink.tells c.tell.new.self)
    (λ (lines : Lines). BelongsAt c.args.query.now lines (clauses c.args.self.now) c.args.self.now.words) (g.met.L.LogSink.one_reading c.args.log.now)
    c.in_err-tell.ensures.err (λ lines b. b.belongs.derives))

pub returns-in_err-take_learnt-clause-leaves : goal.returns-in_err-take_learnt-clause-leaves
returns-in_err-take_learnt-clause-leaves g c = on_err_anyway _ _ (left_told (g.L.LogSink.tells c.args.log.now) (g.L.LogSink.tells c.tell.new.self)
    (λ (lines : Lines). BelongsAt c.args.query.now lines (clauses c.args.self.now) c.args.self.now.words) (Learnt c.in-Some.clause) refl
    (g.met.L.LogSink.one_reading c.tell.new.self) c.in_ok-tell.ensures.ok
    (learn_derives c.args.query.now c.args.self.now c.derive.new.self c.in-Some.clause
    (learnt_told c.derive.new.self c.in-Some.clause c.derive.new.self.analyser.back c.in_ok-clause.ensures.search
    (some_of _ c.in-Some.clause (IsFull c.args.self.now.room c.args.self.now.words (clauses c.args.self.now)) (IsLearntFrom c.derive.new.self) c.in-Some.is
    c.in_ok-clause.ensures.learnt).learnt)
    c.in_ok-clause.ensures.same c.requires.search c.requires.unrefuted c.requires.asking c.requires.above
    (some_of _ c.in-Some.clause (IsFull c.args.self.now.room c.args.self.now.words (clauses c.args.self.now)) (IsLearntFrom c.derive.new.self) c.in-Some.is
    c.in_ok-clause.ensures.learnt)))

pub returns-in_err-clause-clause-few : goal.returns-in_err-clause-clause-few
returns-in_err-clause-clause-few g c = on_err_anyway _ _ (counted_none 1 (g.L.LogSink.learnt c.args.log.now) (g.L.LogSink.learnt c.args.log.now) refl)

pub returns-in_err-tell-clause-few : goal.returns-in_err-tell-clause-few
returns-in_err-tell-clause-few g c = on_err_anyway _ _ (counted_none 1 (g.L.LogSink.learnt c.args.log.now) (g.L.LogSink.learnt c.tell.new.self)
    c.in_err-tell.ensures.learnt_err)

pub returns-in_err-take_learnt-clause-few : goal.returns-in_err-take_learnt-clause-few
returns-in_err-take_learnt-clause-few g c = on_err_anyway _ _ (counted_one (g.L.LogSink.learnt c.args.log.now) (g.L.LogSink.learnt c.tell.new.self)
    c.in_ok-tell.ensures.learnt)

room_unspent : Room ≡ Spent → ⊥
room_unspent e = cc

pub returns-in_default-clause-learnt : goal.returns-in_default-clause-learnt
returns-in_default-clause-learnt g c = ends_full (g.L.LogSink.tells c.args.log.now) (g.L.LogSink.learnt c.args.log.now) c.args.query.now c.args.self.now
    c.derive.new.self c.in_ok-clause.ensures.same (none_of _ (IsFull c.args.self.now.room c.args.self.now.words (clauses c.args.self.now))
    (IsLearntFrom c.derive.new.self) c.in_default.is c.in_ok-clause.ensures.learnt)

pub returns-in_default-clause-later : goal.returns-in_default-clause-later
returns-in_default-clause-later g c = g.met.L.LogSink.later_same c.args.log.now

pub returns-in_default-clause-on : goal.returns-in_default-clause-on
returns-in_default-clause-on g c = λ e. absurd (none-some _ (sym e))

pub returns-in_default-clause-unspent : goal.returns-in_default-clause-unspent
returns-in_default-clause-unspent g c = room_unspent

pub returns-in_default-clause-cause : goal.returns-in_default-clause-cause
returns-in_default-clause-cause g c = λ e. absurd (not_err _ _ e)

pub returns-clause-cause : goal.returns-clause-cause
returns-clause-cause g c = λ e. absurd (not_err _ _ e)
