use Rattle.std.proofs.Common.{◌∙◌}
use Rattle.cdcl_core.specs.Search.{clauses}
use Rattle.cdcl_core.proofs.RoundLemmas.{named_same, round_err, last_ok}
use Rattle.cdcl_core.proofs.search.Search.last_round.Goals as goal

pub meet_last-requires-clause-unrefuted : goal.meet_last-requires-clause-unrefuted
meet_last-requires-clause-unrefuted g c = c.in-Clash.ensures.store.refuted ∙ c.requires.unrefuted

pub meet_last-requires-clause-named : goal.meet_last-requires-clause-named
meet_last-requires-clause-named g c = named_same c.args.query.now (clauses c.args.self.now) (clauses c.descend.new.self) c.in-Clash.ensures.store.clauses
    c.requires.named

pub refute-requires-clause-named : goal.refute-requires-clause-named
refute-requires-clause-named g c = named_same c.args.query.now (clauses c.args.self.now) (clauses c.descend.new.self) c.in-Denied.ensures.store.clauses
    c.requires.named

pub returns-in-Clash-clause-ends : goal.returns-in-Clash-clause-ends
returns-in-Clash-clause-ends g c = last_ok c.meet_last.result (g.L.LogSink.tells c.args.log.now) (g.L.LogSink.tells c.meet_last.new.log)
    (g.L.LogSink.learnt c.args.log.now) (g.L.LogSink.learnt c.meet_last.new.log) c.args.query.now c.args.self.now c.descend.new.self c.meet_last.new.self
    c.in-Clash.ensures.store c.meet_last.ensures.ends

pub returns-in-Clash-clause-leaves : goal.returns-in-Clash-clause-leaves
returns-in-Clash-clause-leaves g c = round_err c.meet_last.result (g.L.LogSink.tells c.args.log.now) (g.L.LogSink.tells c.meet_last.new.log) c.args.query.now
    c.args.self.now c.descend.new.self c.in-Clash.ensures.store c.meet_last.ensures.leaves

pub returns-in-Denied-clause-ends : goal.returns-in-Denied-clause-ends
returns-in-Denied-clause-ends g c = last_ok c.refute.result (g.L.LogSink.tells c.args.log.now) (g.L.LogSink.tells c.refute.new.log)
    (g.L.LogSink.learnt c.args.log.now) (g.L.LogSink.learnt c.refute.new.log) c.args.query.now c.args.self.now c.descend.new.self c.refute.new.self
    c.in-Denied.ensures.store c.refute.ensures.ends

pub returns-in-Denied-clause-leaves : goal.returns-in-Denied-clause-leaves
returns-in-Denied-clause-leaves g c = round_err c.refute.result (g.L.LogSink.tells c.args.log.now) (g.L.LogSink.tells c.refute.new.log) c.args.query.now
    c.args.self.now c.descend.new.self c.in-Denied.ensures.store c.refute.ensures.leaves

pub returns-in-Complete-clause-ends : goal.returns-in-Complete-clause-ends
returns-in-Complete-clause-ends g c = last_ok c.complete.result (g.L.LogSink.tells c.args.log.now) (g.L.LogSink.tells c.complete.new.log)
    (g.L.LogSink.learnt c.args.log.now) (g.L.LogSink.learnt c.complete.new.log) c.args.query.now c.args.self.now c.descend.new.self c.complete.new.self
    c.in-Complete.ensures.store c.complete.ensures.ends

pub returns-in-Complete-clause-leaves : goal.returns-in-Complete-clause-leaves
returns-in-Complete-clause-leaves g c = round_err c.complete.result (g.L.LogSink.tells c.args.log.now) (g.L.LogSink.tells c.complete.new.log) c.args.query.now
    c.args.self.now c.descend.new.self c.in-Complete.ensures.store c.complete.ensures.leaves

pub returns-in-Denied-clause-cause : goal.returns-in-Denied-clause-cause
returns-in-Denied-clause-cause g c = c.refute.ensures.cause

pub returns-in-Clash-clause-cause : goal.returns-in-Clash-clause-cause
returns-in-Clash-clause-cause g c = c.meet_last.ensures.cause

pub returns-in-Complete-clause-cause : goal.returns-in-Complete-clause-cause
returns-in-Complete-clause-cause g c = c.complete.ensures.cause
