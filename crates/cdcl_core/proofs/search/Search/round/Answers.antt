use Rattle.std.proofs.Common.{◌∙◌, sym}
use Rattle.std.proofs.lemmas.Option.{none-some}
use Rattle.outside_io.proofs.Results.{on_err_anyway}
use Rattle.cdcl_core.specs.Search.{clauses}
use Rattle.cdcl_core.proofs.LeftLemmas.{counted_none}
use Rattle.cdcl_core.proofs.RoundLemmas.{named_same, ends_from, left_from, round_ok, round_err}
use Rattle.cdcl_core.proofs.StepLemmas.{not_err}
use Rattle.cdcl_core.proofs.search.Search.round.Goals as goal

pub meet-requires-clause-unrefuted : goal.meet-requires-clause-unrefuted
meet-requires-clause-unrefuted g c = c.in-Clash.ensures.store.refuted ∙ c.requires.unrefuted

pub meet-requires-clause-named : goal.meet-requires-clause-named
meet-requires-clause-named g c = named_same c.args.query.now (clauses c.args.self.now) (clauses c.descend.new.self) c.in-Clash.ensures.store.clauses
    c.requires.named

pub refute-requires-clause-named : goal.refute-requires-clause-named
refute-requires-clause-named g c = named_same c.args.query.now (clauses c.args.self.now) (clauses c.descend.new.self) c.in-Denied.ensures.store.clauses
    c.requires.named

pub returns-in-Clash-clause-learnt : goal.returns-in-Clash-clause-learnt
returns-in-Clash-clause-learnt g c = round_ok c.meet.result (g.L.LogSink.tells c.args.log.now) (g.L.LogSink.tells c.meet.new.log)
    (g.L.LogSink.learnt c.args.log.now) (g.L.LogSink.learnt c.meet.new.log) c.args.query.now c.args.self.now c.descend.new.self c.meet.new.self
    c.in-Clash.ensures.store c.meet.ensures.learnt

pub returns-in-Clash-clause-leaves : goal.returns-in-Clash-clause-leaves
returns-in-Clash-clause-leaves g c = round_err c.meet.result (g.L.LogSink.tells c.args.log.now) (g.L.LogSink.tells c.meet.new.log) c.args.query.now
    c.args.self.now c.descend.new.self c.in-Clash.ensures.store c.meet.ensures.leaves

pub returns-in_ok-refute-in-Denied-clause-learnt : goal.returns-in_ok-refute-in-Denied-clause-learnt
returns-in_ok-refute-in-Denied-clause-learnt g c = ends_from (g.L.LogSink.tells c.args.log.now) (g.L.LogSink.tells c.refute.new.log)
    (g.L.LogSink.learnt c.args.log.now) (g.L.LogSink.learnt c.refute.new.log) c.args.query.now c.args.self.now c.descend.new.self c.refute.new.self
    c.in_ok-refute-in-Denied.field-0 c.in-Denied.ensures.store c.in_ok-refute-in-Denied.ensures.ends

pub returns-in_err-refute-in-Denied-clause-leaves : goal.returns-in_err-refute-in-Denied-clause-leaves
returns-in_err-refute-in-Denied-clause-leaves g c = on_err_anyway _ _ (left_from (g.L.LogSink.tells c.args.log.now) (g.L.LogSink.tells c.refute.new.log)
    c.args.query.now c.args.self.now c.descend.new.self c.in-Denied.ensures.store c.in_err-refute-in-Denied.ensures.leaves)

pub returns-in_ok-complete-in-Complete-clause-learnt : goal.returns-in_ok-complete-in-Complete-clause-learnt
returns-in_ok-complete-in-Complete-clause-learnt g c = ends_from (g.L.LogSink.tells c.args.log.now) (g.L.LogSink.tells c.complete.new.log)
    (g.L.LogSink.learnt c.args.log.now) (g.L.LogSink.learnt c.complete.new.log) c.args.query.now c.args.self.now c.descend.new.self c.complete.new.self
    c.in_ok-complete-in-Complete.field-0 c.in-Complete.ensures.store c.in_ok-complete-in-Complete.ensures.ends

pub returns-in_err-complete-in-Complete-clause-leaves : goal.returns-in_err-complete-in-Complete-clause-leaves
returns-in_err-complete-in-Complete-clause-leaves g c = on_err_anyway _ _ (left_from (g.L.LogSink.tells c.args.log.now) (g.L.LogSink.tells c.complete.new.log)
    c.args.query.now c.args.self.now c.descend.new.self c.in-Complete.ensures.store c.in_err-complete-in-Complete.ensures.leaves)

pub returns-in_err-refute-in-Denied-clause-few : goal.returns-in_err-refute-in-Denied-clause-few
returns-in_err-refute-in-Denied-clause-few g c = on_err_anyway _ _ (counted_none 1 (g.L.LogSink.learnt c.args.log.now) (g.L.LogSink.learnt c.refute.new.log)
    c.in_err-refute-in-Denied.ensures.counted)

pub returns-in_err-complete-in-Complete-clause-few : goal.returns-in_err-complete-in-Complete-clause-few
returns-in_err-complete-in-Complete-clause-few g c = on_err_anyway _ _ (counted_none 1 (g.L.LogSink.learnt c.args.log.now)
    (g.L.LogSink.learnt c.complete.new.log) c.in_err-complete-in-Complete.ensures.counted)

pub returns-in_ok-refute-in-Denied-clause-on : goal.returns-in_ok-refute-in-Denied-clause-on
returns-in_ok-refute-in-Denied-clause-on g c = λ e. absurd (none-some _ (sym e))

pub returns-in_ok-complete-in-Complete-clause-on : goal.returns-in_ok-complete-in-Complete-clause-on
returns-in_ok-complete-in-Complete-clause-on g c = λ e. absurd (none-some _ (sym e))

pub returns-in_ok-refute-in-Denied-clause-cause : goal.returns-in_ok-refute-in-Denied-clause-cause
returns-in_ok-refute-in-Denied-clause-cause g c = λ e. absurd (not_err _ _ e)

pub returns-in_ok-complete-in-Complete-clause-cause : goal.returns-in_ok-complete-in-Complete-clause-cause
returns-in_ok-complete-in-Complete-clause-cause g c = λ e. absurd (not_err _ _ e)

pub returns-in_ok-refute-in-Denied-clause-unspent : goal.returns-in_ok-refute-in-Denied-clause-unspent
returns-in_ok-refute-in-Denied-clause-unspent g c = c.in_ok-refute-in-Denied.ensures.unspent

pub returns-in_ok-complete-in-Complete-clause-unspent : goal.returns-in_ok-complete-in-Complete-clause-unspent
returns-in_ok-complete-in-Complete-clause-unspent g c = c.in_ok-complete-in-Complete.ensures.unspent

pub returns-in-Clash-clause-cause : goal.returns-in-Clash-clause-cause
returns-in-Clash-clause-cause g c = c.meet.ensures.cause
