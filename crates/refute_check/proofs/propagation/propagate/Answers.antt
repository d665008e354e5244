use Rattle.std.proofs.Common.{arith}
use Rattle.std.proofs.lemmas.Bool.{true≢false, false≢true}
use Rattle.cnf_core.proofs.MarkLemmas.{trail_short}
use Rattle.cnf_core.proofs.GrowthLemmas.{grows_more}
use Rattle.refute_check.proofs.AdvanceLemmas.{propagated_none, propagated_more}
use Rattle.refute_check.proofs.propagation.propagate.Goals as goal

pub loop-front-init : goal.loop-front-init
loop-front-init c = propagated_none c.args.formula.now.vars c.args.formula.now.clauses c.args.trail.now.items c.args.truth.now c.args.counts.now
    c.args.noted.now.items c.args.from c.requires.counted c.requires.quiet

pub loop-front-preserved : goal.loop-front-preserved
loop-front-preserved c =
    let next = c.in_ok-found.ensures.next c.if-found.false in
    rw next (propagated_more c.args.formula.now.vars c.args.formula.now.clauses c.args.trail.now.items c.loop-front.trail.items c.advance.new.trail.items
    c.loop-front.truth c.advance.new.truth c.args.counts.now c.args.noted.now.items c.loop-front.counts c.loop-front.noted.items c.advance.new.counts
    c.advance.new.noted.items c.args.from c.loop-front.front
    c.loop-front.invariant (rw next at c.in_ok-found.ensures.counted) (c.in_ok-found.ensures.quiet c.if-found.false) c.in_ok-found.ensures.grows
    c.in_ok-found.ensures.noted)

pub loop-front-smaller : goal.loop-front-smaller
loop-front-smaller c =
    let short = trail_short c.args.formula.now.vars c.loop-front.truth c.loop-front.trail.items c.loop-front.invariant.counted.table in
    let size = c.loop-front.invariant.counted.table.size in
    let same = c.advance.auto.truth in
    omega (arith, short, size, same, c.len.ensures, c.loop-front-test.true, c.in_ok-found.ensures.next c.if-found.false)

pub returns-then-found-clause-grows : goal.returns-then-found-clause-grows
returns-then-found-clause-grows c =
    grows_more c.args.formula.now.clauses c.args.trail.now.items c.loop-front.trail.items c.advance.new.trail.items c.loop-front.invariant.grows
    c.in_ok-found.ensures.grows

pub advance-requires-clause-counted : goal.advance-requires-clause-counted
advance-requires-clause-counted c = c.loop-front.invariant.counted

pub advance-requires-clause-quiet : goal.advance-requires-clause-quiet
advance-requires-clause-quiet c = c.loop-front.invariant.quiet

pub returns-then-found-clause-counted : goal.returns-then-found-clause-counted
returns-then-found-clause-counted c = c.in_ok-found.ensures.counted

pub returns-then-found-clause-falsified : goal.returns-then-found-clause-falsified
returns-then-found-clause-falsified c = λ _. c.in_ok-found.ensures.falsified c.if-found.true

pub returns-then-found-clause-all : goal.returns-then-found-clause-all
returns-then-found-clause-all c = λ e. absurd (true≢false e)

pub returns-then-found-clause-quiet : goal.returns-then-found-clause-quiet
returns-then-found-clause-quiet c = λ e. absurd (true≢false e)

pub returns-clause-counted : goal.returns-clause-counted
returns-clause-counted c = c.loop-front.invariant.counted

pub returns-clause-grows : goal.returns-clause-grows
returns-clause-grows c = c.loop-front.invariant.grows

pub returns-clause-falsified : goal.returns-clause-falsified
returns-clause-falsified c = λ e. absurd (false≢true e)

pub returns-then-found-clause-noted : goal.returns-then-found-clause-noted
returns-then-found-clause-noted c = λ before h. c.in_ok-found.ensures.noted before (let p = c.loop-front.invariant in p.noted before h)

pub returns-clause-noted : goal.returns-clause-noted
returns-clause-noted c = c.loop-front.invariant.noted
