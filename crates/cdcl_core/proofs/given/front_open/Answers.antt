use Rattle.std.proofs.Common.{arith}
use Rattle.cdcl_core.proofs.GivenLemmas.{fronted_none, fronted_one, fronted_two, exchanged_same, exchanged_distinct, there_same, same_twice}
use Rattle.cdcl_core.proofs.given.front_open.Goals as goal

pub returns-then-first-lits-clause-same : goal.returns-then-first-lits-clause-same
returns-then-first-lits-clause-same c = λ l. (λ h. h, λ h. h)

pub returns-then-first-lits-clause-fronted : goal.returns-then-first-lits-clause-fronted
returns-then-first-lits-clause-fronted c = fronted_none c.args.trail.now c.args.lits.now c.open_place-first.result (c.if-first-lits.true)
    c.open_place-first.ensures.before

pub returns-then-second-lits-clause-same : goal.returns-then-second-lits-clause-same
returns-then-second-lits-clause-same c = exchanged_same c.args.lits.now c.exchange.new.lits 0 c.open_place-first.result c.exchange.ensures (omega arith)
    (omega arith)

pub returns-then-second-lits-clause-there : goal.returns-then-second-lits-clause-there
returns-then-second-lits-clause-there c = there_same c.args.trail.now.vars c.args.lits.now c.exchange.new.lits
    (exchanged_same c.args.lits.now c.exchange.new.lits 0 c.open_place-first.result c.exchange.ensures (omega arith) (omega arith)) c.requires.there

pub returns-then-second-lits-clause-distinct : goal.returns-then-second-lits-clause-distinct
returns-then-second-lits-clause-distinct c = exchanged_distinct c.args.lits.now c.exchange.new.lits 0 c.open_place-first.result c.exchange.ensures (omega arith)
    (omega arith) c.requires.distinct

pub returns-then-second-lits-clause-fronted : goal.returns-then-second-lits-clause-fronted
returns-then-second-lits-clause-fronted c = fronted_one c.args.trail.now c.args.lits.now c.exchange.new.lits c.open_place-first.result
    c.open_place-second.result c.exchange.ensures (omega arith) (λ d lt. c.open_place-first.ensures.here d lt) c.if-second-lits.true
    c.open_place-second.ensures.before

pub open_place-second-requires-clause-there : goal.open_place-second-requires-clause-there
open_place-second-requires-clause-there c = there_same c.args.trail.now.vars c.args.lits.now c.exchange.new.lits
    (exchanged_same c.args.lits.now c.exchange.new.lits 0 c.open_place-first.result c.exchange.ensures (omega arith) (omega arith)) c.requires.there

pub returns-clause-same : goal.returns-clause-same
returns-clause-same c = same_twice c.args.lits.now c.exchange.new.lits c.exchange-2.new.lits
    (exchanged_same c.args.lits.now c.exchange.new.lits 0 c.open_place-first.result c.exchange.ensures (omega arith) (omega arith))
    (exchanged_same c.exchange.new.lits c.exchange-2.new.lits 1 c.open_place-second.result c.exchange-2.ensures (omega arith) (omega arith))

pub returns-clause-there : goal.returns-clause-there
returns-clause-there c = there_same c.args.trail.now.vars c.args.lits.now c.exchange-2.new.lits
    (same_twice c.args.lits.now c.exchange.new.lits c.exchange-2.new.lits (exchanged_same c.args.lits.now c.exchange.new.lits 0 c.open_place-first.result
    c.exchange.ensures (omega arith) (omega arith)) (exchanged_same c.exchange.new.lits c.exchange-2.new.lits 1 c.open_place-second.result c.exchange-2.ensures
    (omega arith) (omega arith))) c.requires.there

pub returns-clause-distinct : goal.returns-clause-distinct
returns-clause-distinct c = exchanged_distinct c.exchange.new.lits c.exchange-2.new.lits 1 c.open_place-second.result c.exchange-2.ensures (omega arith)
    (omega arith) (exchanged_distinct c.args.lits.now c.exchange.new.lits 0 c.open_place-first.result c.exchange.ensures (omega arith) (omega arith)
    c.requires.distinct)

pub returns-clause-fronted : goal.returns-clause-fronted
returns-clause-fronted c = fronted_two c.args.trail.now c.args.lits.now c.exchange.new.lits c.exchange-2.new.lits c.open_place-first.result
    c.open_place-second.result c.exchange.ensures c.exchange-2.ensures (omega arith) c.open_place-second.ensures.from (omega arith)
    (λ d lt. c.open_place-first.ensures.here d lt) (λ d lt. c.open_place-second.ensures.here d lt)
