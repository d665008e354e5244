use Rattle.std.proofs.Common.{◌≡◌, ◌∙◌, arith, length, take, subst}
use Rattle.cnf_core.specs.Lit.{has}
use Rattle.cnf_core.specs.Propagation.{negations}
use Rattle.cnf_core.proofs.PropagationLemmas.{closure_unfalsified}
use Rattle.cnf_core.specs.Formula.{IsFormula}
use Rattle.cnf_core.specs.Trail.{IsTrail}
use Rattle.refute_check.proofs.SupposeLemmas.{settled_again}
use Rattle.refute_check.proofs.NotedLemmas.{noted_before, noted_there, noted_small}
use Rattle.refute_check.proofs.tables.Tables.follows.Goals as goal

pub take_back-requires-clause-trail : goal.take_back-requires-clause-trail
take_back-requires-clause-trail c = rw c.vars.ensures.value c.in_ok-falsified.ensures.counted.table

pub take_back-requires-clause-there : goal.take_back-requires-clause-there
take_back-requires-clause-there c =
    let old = c.args.self.now in
    let mid = c.suppose.new.self in
    let clauses = c.args.formula.now.clauses in
    noted_there clauses mid.noted.items mid.counts.items old.counts.items
    (noted_before clauses old.noted.items old.counts.items mid.noted.items mid.counts.items c.requires.settled.unnoted c.in_ok-falsified.ensures.noted)
    c.in_ok-falsified.ensures.counted.right.size

pub take_back-requires-clause-small : goal.take_back-requires-clause-small
take_back-requires-clause-small c =
    let old = c.args.self.now in
    let mid = c.suppose.new.self in
    let clauses = c.args.formula.now.clauses in
    let f : IsFormula c.args.formula.now = c.vars.ensures.formula in
    let within = f.within_room in
    let limit = f.room_limit in
    noted_small clauses (has (take (length old.trail.items) old.trail.items)) mid.noted.items mid.counts.items old.counts.items
    (noted_before clauses old.noted.items old.counts.items mid.noted.items mid.counts.items c.requires.settled.unnoted c.in_ok-falsified.ensures.noted)
    c.requires.settled.counted.right (omega (arith, within, limit))

pub returns-clause-settled : goal.returns-clause-settled
returns-clause-settled c =
    let level : c.len-level.result ≡ length c.args.self.now.trail.items = omega (arith, c.len-level.ensures) in
    let new = c.take_back.new.self in
    let mid = c.suppose.new.self in
    let table = subst (λ n. IsTrail n new.truth.items new.trail.items) c.vars.ensures.value c.take_back.ensures.trail in
    settled_again c.args.formula.now.vars c.args.formula.now.clauses c.args.self.now c.take_back.new.self c.suppose.new.self.trail.items mid.counts.items
    mid.noted.items c.len-level.result level c.requires.settled (c.take_back.ensures.same ∙ c.in_ok-falsified.ensures.same) table
    c.in_ok-falsified.ensures.noted
    c.in_ok-falsified.ensures.counted.right.size c.take_back.ensures.counts c.take_back.ensures.size c.take_back.ensures.unnoted c.take_back.ensures.rest
    c.in_ok-falsified.ensures.front

pub returns-clause-no : goal.returns-clause-no
returns-clause-no c = λ f rup. closure_unfalsified c.args.formula.now.clauses (negations c.args.lits.now) (has c.suppose.new.self.trail.items)
    (c.in_ok-falsified.ensures.closed f) rup
