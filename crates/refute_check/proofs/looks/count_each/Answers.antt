use Rattle.std.proofs.Common.{◌≡◌, ◌<◌, ◌≤◌, ◌+◌, ◌-◌, ℕ, List, arith, refl, length, take, get_or, set, subst}
use Rattle.std.proofs.lemmas.Grind.{get_or-set_at}
use Rattle.std.proofs.lemmas.List.{take_all}
use Rattle.refute_check.specs.Tables.{CountedUp, AreQuietNow}
use Rattle.refute_check.proofs.CountLemmas.{some_left, counted_less, one_less}
use Rattle.refute_check.proofs.GrowthLemmas.{passed_none, passed_on, passed_look}
use Rattle.refute_check.proofs.looks.count_each.Goals as goal
use Rattle.refute_check.proofs.looks.count_each.Goals.{then-not-found+in_ok-found, else-not-found}

pub loop-n-init : goal.loop-n-init
loop-n-init c = passed_none c.args.formula.now.vars c.args.formula.now.clauses c.args.counts.now c.args.truth.now c.args.trail.now.items c.requires.trail

pub overflow_sub-counts : goal.overflow_sub-counts
overflow_sub-counts c = some_left c.args.numbers.now c.args.counts.now c.loop-n.counts c.loop-n.n-index c.loop-n-test.true
    (c.requires.enough c.loop-n.n-index 0 c.loop-n-test.true) c.loop-n.invariant.counted

pub loop-n-preserved : goal.loop-n-preserved
loop-n-preserved c =
    let numbers = c.args.numbers.now in
    let i = c.loop-n.n-index in
    let n : ℕ = get_or numbers i 0 in
    let counts : List ℕ = c.loop-n.counts in
    let now : List ℕ = set counts n (get_or counts n 0 - 1) in
    let there : n < length counts = omega (arith, c.requires.there i 0 c.loop-n-test.true, c.requires.size, c.loop-n.auto.counts) in
    let some = some_left numbers c.args.counts.now counts i c.loop-n-test.true (c.requires.enough i 0 c.loop-n-test.true) c.loop-n.invariant.counted in
    let up : CountedUp (take (i + 1) numbers) now c.args.counts.now = counted_less numbers c.args.counts.now counts i c.loop-n-test.true there some
    c.loop-n.invariant.counted in
    let at : get_or now n 0 ≡ get_or counts n 0 - 1 = get_or-set_at counts n n (get_or counts n 0 - 1) 0 refl there in
    let le : get_or now n 0 ≤ get_or c.args.counts.now n 0 - 1 = omega (arith, at, one_less numbers c.args.counts.now counts i c.loop-n.invariant.counted) in
    elim c.if-not-found.branch [
      | then-not-found+in_ok-found w ↦ rw (w.truth-is, w.trail-is, w.found-is)
          (passed_look c.args.formula.now.vars c.args.formula.now.clauses numbers c.args.counts.now c.args.trail.now.items counts now c.loop-n.truth
          w.look_at.new.truth c.loop-n.trail.items w.look_at.new.trail.items c.loop-n.found w.in_ok-found.found i (get_or now n 0) c.loop-n-test.true
          c.loop-n.invariant w.if-not-found.true up le w.in_ok-found.ensures.trail w.in_ok-found.ensures.grows w.in_ok-found.ensures.falsified
          w.in_ok-found.ensures.quiet)
      | else-not-found w ↦ rw (w.truth-is, w.trail-is, w.found-is)
          (passed_on c.args.formula.now.vars c.args.formula.now.clauses numbers c.args.counts.now c.args.trail.now.items counts now c.loop-n.truth
          c.loop-n.trail.items c.loop-n.found i c.loop-n.invariant w.if-not-found.false up)
    ]

pub look_at-requires-clause-trail : goal.look_at-requires-clause-trail
look_at-requires-clause-trail c = c.loop-n.invariant.table

pub returns-clause-counted : goal.returns-clause-counted
returns-clause-counted c = subst (λ (ns : List ℕ). CountedUp ns c.loop-n.counts c.args.counts.now)
    (take_all c.loop-n.n-index c.args.numbers.now c.loop-n-test.false) c.loop-n.invariant.counted

pub returns-clause-trail : goal.returns-clause-trail
returns-clause-trail c = c.loop-n.invariant.table

pub returns-clause-grows : goal.returns-clause-grows
returns-clause-grows c = c.loop-n.invariant.grows

pub returns-clause-falsified : goal.returns-clause-falsified
returns-clause-falsified c = c.loop-n.invariant.falsified

pub returns-clause-quiet : goal.returns-clause-quiet
returns-clause-quiet c = λ none. subst (λ (ns : List ℕ). AreQuietNow c.args.formula.now.clauses ns c.args.counts.now c.args.trail.now.items
    c.loop-n.trail.items) (take_all c.loop-n.n-index c.args.numbers.now c.loop-n-test.false) (c.loop-n.invariant.quiet none)
