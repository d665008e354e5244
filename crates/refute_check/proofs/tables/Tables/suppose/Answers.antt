use Rattle.std.proofs.Common.{◌≡◌, ◌∙◌, arith, length, subst, drop}
use Rattle.cnf_core.specs.Trail.{IsTrail}
use Rattle.refute_check.proofs.SupposeLemmas.{assumed_counted, assumed_quiet, clash_falsifies, supposed_falsifies, supposed_closure, supposed_front}
use Rattle.refute_check.proofs.SupposeLemmas.{written_back}
use Rattle.refute_check.proofs.NotedLemmas.{notes_written}
use Rattle.refute_check.proofs.NoveltyLemmas.{supposed_reasoned}
use Rattle.refute_check.proofs.tables.Tables.suppose.Goals as goal

pub propagate-requires-clause-counted : goal.propagate-requires-clause-counted
propagate-requires-clause-counted c =
    let vars = c.args.formula.now.vars in
    let clauses = c.args.formula.now.clauses in
    let t = subst (λ n. IsTrail n c.assume_false.new.truth c.assume_false.new.trail.items) c.vars.ensures.value c.in_ok-clash.ensures.trail in
    let counted = assumed_counted vars clauses c.args.self.now.truth.items c.assume_false.new.truth c.args.self.now.trail.items c.assume_false.new.trail.items
    c.args.self.now.counts.items c.args.lits.now c.requires.settled.counted c.in_ok-clash.ensures.assumes t in
    let size : length c.assume_false.new.truth ≡ c.args.self.now.truth.len = c.assume_false.auto.truth ∙ c.deref_mut.ensures.len in
    let truth_is : c.deref_mut-3.result.now ≡ c.assume_false.new.truth = c.deref_mut-3.ensures.value
    ∙ written_back c.args.self.now.truth.len c.assume_false.new.truth (drop (length c.assume_false.new.truth) c.args.self.now.truth.items) size in
    let level : c.len-level.result ≡ length c.args.self.now.trail.items = omega (arith, c.len-level.ensures) in
    rw (truth_is, c.deref_mut-2.ensures.value, level) counted

pub propagate-requires-clause-quiet : goal.propagate-requires-clause-quiet
propagate-requires-clause-quiet c =
    let level : c.len-level.result ≡ length c.args.self.now.trail.items = omega (arith, c.len-level.ensures) in
    rw level (assumed_quiet c.args.formula.now.clauses c.args.self.now.trail.items c.assume_false.new.trail.items c.args.lits.now c.requires.settled.quiet
    c.in_ok-clash.ensures.assumes)

pub returns-then-clash-clause-front : goal.returns-then-clash-clause-front
returns-then-clash-clause-front c = let a = c.in_ok-clash.ensures.assumes in a.front

pub returns-clause-front : goal.returns-clause-front
returns-clause-front c = supposed_front c.args.formula.now.clauses c.args.self.now.trail.items c.assume_false.new.trail.items c.propagate.new.trail.items
    c.args.lits.now c.in_ok-clash.ensures.assumes c.in_ok-reached.ensures.grows

pub returns-then-clash-clause-falsified : goal.returns-then-clash-clause-falsified
returns-then-clash-clause-falsified c = λ _. clash_falsifies c.args.formula.now.clauses c.args.self.now.trail.items c.args.lits.now c.requires.settled.within
    c.requires.settled.reasoned (c.in_ok-clash.ensures.clash c.if-clash.true)

pub returns-clause-falsified : goal.returns-clause-falsified
returns-clause-falsified c = λ t. supposed_falsifies c.args.formula.now.clauses c.args.self.now.trail.items c.assume_false.new.trail.items
    c.propagate.new.trail.items c.args.lits.now c.requires.settled.within c.in_ok-clash.ensures.assumes c.in_ok-reached.ensures.grows
    (c.in_ok-reached.ensures.falsified t)

pub returns-clause-closed : goal.returns-clause-closed
returns-clause-closed c = λ f. supposed_closure c.args.formula.now.clauses c.args.self.now.trail.items c.assume_false.new.trail.items
    c.propagate.new.trail.items c.args.lits.now c.requires.settled.within c.in_ok-clash.ensures.assumes (c.in_ok-clash.ensures.all c.if-clash.false)
    c.in_ok-reached.ensures.grows (c.in_ok-reached.ensures.quiet f)

pub returns-clause-reasoned : goal.returns-clause-reasoned
returns-clause-reasoned c = λ _. supposed_reasoned c.args.formula.now.clauses c.args.self.now.trail.items c.assume_false.new.trail.items
    c.propagate.new.trail.items c.args.lits.now c.requires.settled.reasoned c.in_ok-clash.ensures.assumes c.in_ok-reached.ensures.grows

pub returns-then-clash-clause-noted : goal.returns-then-clash-clause-noted
returns-then-clash-clause-noted c = λ _ h. h

pub returns-clause-noted : goal.returns-clause-noted
returns-clause-noted c =
    let size : length c.propagate.new.counts ≡ c.args.self.now.counts.len = c.propagate.auto.counts ∙ c.deref_mut-2.ensures.len in
    notes_written c.args.formula.now.clauses c.args.self.now.noted.items c.args.self.now.counts.items c.deref_mut-2.result.now c.propagate.new.noted.items
    c.propagate.new.counts (drop (length c.propagate.new.counts) c.args.self.now.counts.items) c.args.self.now.counts.len c.in_ok-reached.ensures.noted
    c.deref_mut-2.ensures.value size
