use Rattle.std.proofs.Common.{◌≡◌, ◌+◌, ◌∷◌, ◌∙◌, [], sym, ap, subst, arith}
use Rattle.outside_io.specs.Counts.{rose_by}
use Rattle.outside_io.proofs.Results.{on_err_anyway}
use Rattle.cnf_core.specs.Clause.{AreThere}
use Rattle.cdcl_core.specs.Search.{clauses}
use Rattle.cdcl_core.specs.declared.answer.Answer.TheVariants.{Spent}
use Rattle.cdcl_core.specs.Rounds.{LearnsOne, EndsSo, HasGone}
use Rattle.cdcl_core.proofs.LeftLemmas.{counted_more, counted_after}
use Rattle.cdcl_core.proofs.RoundLemmas.{some_of, none_of, if_some_of, gone_none, gone_same, gone_more, gone_err, ends_after, spent_less, named_same}
use Rattle.cdcl_core.proofs.RoundLemmas.{named_more, rounds_ok, rounds_err}
use Rattle.cdcl_core.proofs.StepLemmas.{not_err}
use Rattle.cdcl_core.proofs.search.Search.rounds.Goals as goal

pub loop-told-init : goal.loop-told-init
loop-told-init g c = record {
  search = c.requires.search;
  unrefuted = c.requires.unrefuted;
  there = c.requires.there;
  named = c.requires.named;
  asking = c.requires.asking;
  gone = gone_none (g.L.LogSink.tells c.args.log.now) (g.L.LogSink.learnt c.args.log.now) c.args.query.now c.args.self.now;
  faults = omega arith;
  later = g.met.L.LogSink.later_same c.args.log.now;
}

pub returns-in_err-answer-clause-leaves : goal.returns-in_err-answer-clause-leaves
returns-in_err-answer-clause-leaves g c = on_err_anyway _ _ (gone_err (g.L.LogSink.tells c.args.log.now) (g.L.LogSink.tells c.loop-told.log)
    (g.L.LogSink.tells c.round.new.log) (g.L.LogSink.learnt c.args.log.now) (g.L.LogSink.learnt c.loop-told.log) c.args.query.now c.args.self.now
    c.loop-told.self c.loop-told.told c.loop-told.invariant.gone c.in_err-answer.ensures.leaves)

pub returns-in-Some-clause-ends : goal.returns-in-Some-clause-ends
returns-in-Some-clause-ends g c =
    let other : c.in-Some.answer ≡ Spent → ⊥ = if_some_of _ c.in-Some.answer (λ a. a ≡ Spent → ⊥) c.in-Some.is c.in_ok-answer.ensures.unspent in
    let ends : EndsSo (g.L.LogSink.tells c.loop-told.log) (g.L.LogSink.tells c.round.new.log) (g.L.LogSink.learnt c.loop-told.log)
    (g.L.LogSink.learnt c.round.new.log) c.args.query.now c.loop-told.self c.round.new.self c.in-Some.answer =
    some_of _ c.in-Some.answer (LearnsOne (g.L.LogSink.tells c.loop-told.log) (g.L.LogSink.tells c.round.new.log) (g.L.LogSink.learnt c.loop-told.log)
    (g.L.LogSink.learnt c.round.new.log) c.args.query.now c.loop-told.self c.round.new.self)
    (λ a. EndsSo (g.L.LogSink.tells c.loop-told.log) (g.L.LogSink.tells c.round.new.log) (g.L.LogSink.learnt c.loop-told.log)
    (g.L.LogSink.learnt c.round.new.log) c.args.query.now c.loop-told.self c.round.new.self a) c.in-Some.is c.in_ok-answer.ensures.learnt in
    let test = c.loop-told-test.true in
    ends_after (g.L.LogSink.tells c.args.log.now) (g.L.LogSink.tells c.loop-told.log) (g.L.LogSink.tells c.round.new.log) (g.L.LogSink.learnt c.args.log.now)
    (g.L.LogSink.learnt c.loop-told.log) (g.L.LogSink.learnt c.round.new.log) c.args.query.now c.args.self.now c.loop-told.self c.round.new.self
    c.in-Some.answer c.loop-told.told c.args.budget
    (spent_less c.in-Some.answer c.args.budget c.loop-told.told other (omega arith)) c.loop-told.invariant.gone ends

pub loop-told-preserved : goal.loop-told-preserved
loop-told-preserved g c =
    let one : LearnsOne (g.L.LogSink.tells c.loop-told.log) (g.L.LogSink.tells c.round.new.log) (g.L.LogSink.learnt c.loop-told.log)
    (g.L.LogSink.learnt c.round.new.log) c.args.query.now c.loop-told.self c.round.new.self =
    none_of _ (LearnsOne (g.L.LogSink.tells c.loop-told.log) (g.L.LogSink.tells c.round.new.log) (g.L.LogSink.learnt c.loop-told.log)
    (g.L.LogSink.learnt c.round.new.log) c.args.query.now c.loop-told.self c.round.new.self)
    (λ a. EndsSo (g.L.LogSink.tells c.loop-told.log) (g.L.LogSink.tells c.round.new.log) (g.L.LogSink.learnt c.loop-told.log)
    (g.L.LogSink.learnt c.round.new.log) c.args.query.now c.loop-told.self c.round.new.self a) c.in_default.is c.in_ok-answer.ensures.learnt in
    let on = c.in_ok-answer.ensures.on c.in_default.is in
    let before = c.loop-told.invariant in
    let store = c.restart_after.ensures.store in
    record {
      search = c.restart_after.ensures.search;
      unrefuted = store.refuted ∙ on.1;
      there = subst (λ n. AreThere n c.args.query.now) (sym (store.vars ∙ one.kept.vars)) before.there;
      named = named_same c.args.query.now (clauses c.round.new.self) (clauses c.restart_after.new.self) store.clauses
          (named_more c.args.query.now (clauses c.loop-told.self) (clauses c.round.new.self) (one.clause ∷ []) one.kept.clauses before.named);
      asking = c.restart_after.ensures.asking c.args.query.now on.0;
      gone = gone_same (g.L.LogSink.tells c.args.log.now) (g.L.LogSink.tells c.round.new.log) (g.L.LogSink.learnt c.args.log.now)
          (g.L.LogSink.learnt c.round.new.log) c.args.query.now c.args.self.now c.round.new.self c.restart_after.new.self (c.loop-told.told + 1) store
          (gone_more (g.L.LogSink.tells c.args.log.now) (g.L.LogSink.tells c.loop-told.log) (g.L.LogSink.tells c.round.new.log)
          (g.L.LogSink.learnt c.args.log.now) (g.L.LogSink.learnt c.loop-told.log) (g.L.LogSink.learnt c.round.new.log) c.args.query.now c.args.self.now
          c.loop-told.self c.round.new.self c.loop-told.told before.gone one);
      faults = let a = before.faults in let b = c.in_ok-answer.ensures.faults in omega arith;
      later = g.met.L.LogSink.later_more c.args.log.now c.loop-told.log c.round.new.log before.later c.in_ok-answer.ensures.later;
    }

pub returns-clause-ends : goal.returns-clause-ends
returns-clause-ends g c =
    let end : c.loop-told.told ≡ c.args.budget = let a = c.loop-told.auto.told-end in let b = c.loop-told-test.false in omega arith in
    rounds_ok c.last_round.result (g.L.LogSink.tells c.args.log.now) (g.L.LogSink.tells c.loop-told.log) (g.L.LogSink.tells c.last_round.new.log)
    (g.L.LogSink.learnt c.args.log.now) (g.L.LogSink.learnt c.loop-told.log) (g.L.LogSink.learnt c.last_round.new.log) c.args.query.now c.args.self.now
    c.loop-told.self c.last_round.new.self c.args.budget
    (subst (HasGone (g.L.LogSink.tells c.args.log.now) (g.L.LogSink.tells c.loop-told.log) (g.L.LogSink.learnt c.args.log.now)
    (g.L.LogSink.learnt c.loop-told.log) c.args.query.now c.args.self.now c.loop-told.self) end c.loop-told.invariant.gone) c.last_round.ensures.ends

pub returns-clause-leaves : goal.returns-clause-leaves
returns-clause-leaves g c = rounds_err c.last_round.result (g.L.LogSink.tells c.args.log.now) (g.L.LogSink.tells c.loop-told.log)
    (g.L.LogSink.tells c.last_round.new.log) (g.L.LogSink.learnt c.args.log.now) (g.L.LogSink.learnt c.loop-told.log) c.args.query.now c.args.self.now
    c.loop-told.self c.loop-told.told c.loop-told.invariant.gone c.last_round.ensures.leaves

pub returns-in_err-answer-clause-few : goal.returns-in_err-answer-clause-few
returns-in_err-answer-clause-few g c =
    let test = c.loop-told-test.true in
    let gone = c.loop-told.invariant.gone in
    on_err_anyway _ _ (counted_more c.args.budget c.loop-told.told (g.L.LogSink.learnt c.args.log.now) (g.L.LogSink.learnt c.loop-told.log)
    (g.L.LogSink.learnt c.round.new.log) (omega arith) gone.counted c.in_err-answer.ensures.few)

pub returns-clause-few : goal.returns-clause-few
returns-clause-few g c =
    let end : c.loop-told.told ≡ c.args.budget = let a = c.loop-told.auto.told-end in let b = c.loop-told-test.false in omega arith in
    let gone = c.loop-told.invariant.gone in
    counted_after c.last_round.result c.args.budget (g.L.LogSink.learnt c.args.log.now) (g.L.LogSink.learnt c.loop-told.log)
    (g.L.LogSink.learnt c.last_round.new.log) (gone.counted ∙ ap (λ n. rose_by n (g.L.LogSink.learnt c.args.log.now)) end) c.last_round.ensures.counted

pub returns-in_err-answer-clause-later : goal.returns-in_err-answer-clause-later
returns-in_err-answer-clause-later g c = g.met.L.LogSink.later_more c.args.log.now c.loop-told.log c.round.new.log c.loop-told.invariant.later
    c.in_err-answer.ensures.later

pub returns-in-Some-clause-later : goal.returns-in-Some-clause-later
returns-in-Some-clause-later g c = g.met.L.LogSink.later_more c.args.log.now c.loop-told.log c.round.new.log c.loop-told.invariant.later
    c.in_ok-answer.ensures.later

pub returns-clause-later : goal.returns-clause-later
returns-clause-later g c = g.met.L.LogSink.later_more c.args.log.now c.loop-told.log c.last_round.new.log c.loop-told.invariant.later c.last_round.ensures.later

pub returns-in-Some-clause-cause : goal.returns-in-Some-clause-cause
returns-in-Some-clause-cause g c = λ e. absurd (not_err _ _ e)
