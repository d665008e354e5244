use Rattle.std.proofs.Common.{arith, sym, subst}
use Rattle.std.specs.Prelude.{All}
use Rattle.std.proofs.lemmas.Bool.{true≢false, false≢true}
use Rattle.std.proofs.lemmas.List.Elements.{All-contains}
use Rattle.cnf_core.specs.Lit.{has}
use Rattle.cnf_core.specs.Clause.{IsThere}
use Rattle.cnf_core.specs.Trail.{IsTrail}
use Rattle.cnf_core.proofs.GrowthLemmas.{grows_none, grows_unit}
use Rattle.refute_check.specs.Tables.{IsUnsetUnit}
use Rattle.refute_check.proofs.GrowthLemmas.{trail_consistent, unset_by_marks, quiet_by_marks, all_same_set}
use Rattle.refute_check.proofs.ShortLemmas.{both, short_there, rest_unit, quiet_beside, marked_beside, falsified_beside}
use Rattle.refute_check.proofs.looks.look_beside.Goals as goal
use Rattle.refute_check.proofs.looks.look_beside.Goals.{After-vars-vars, In_ok-mark-in-Unit}

there : (c : After-vars-vars) → All (IsThere c.args.formula.now.vars) (both c.args.rest)
there c = short_there c.args.formula.now.vars c.args.formula.now.clauses c.args.l c.args.rest c.vars-vars.ensures.formula.there c.requires.short

pub scan_rest-requires-clause-first : goal.scan_rest-requires-clause-first
scan_rest-requires-clause-first c = let h : IsThere c.args.formula.now.vars c.args.rest.first = there c 0 c.args.rest.first (omega arith) in omega
    (arith, h.1, c.vars-vars.ensures.value)

pub scan_rest-requires-clause-last : goal.scan_rest-requires-clause-last
scan_rest-requires-clause-last c = let h : IsThere c.args.formula.now.vars c.args.rest.last = there c 1 c.args.rest.last (omega arith) in omega
    (arith, h.1, c.vars-vars.ensures.value)

pub scan_rest-requires-clause-consistent : goal.scan_rest-requires-clause-consistent
scan_rest-requires-clause-consistent c = trail_consistent _ c.args.truth.now c.args.trail.now.items c.requires.trail

pub mark-requires-clause-there : goal.mark-requires-clause-there
mark-requires-clause-there c =
    let h : IsThere c.args.formula.now.vars c.in-Unit.u = All-contains (IsThere c.args.formula.now.vars) (both c.args.rest) c.in-Unit.u
    (short_there c.args.formula.now.vars c.args.formula.now.clauses c.args.l c.args.rest c.vars-vars.ensures.formula.there c.requires.short)
    c.in-Unit.ensures.unit.among in
    subst (λ n. IsThere n c.in-Unit.u) (sym c.vars-vars.ensures.value) h

pub returns-in-Falsified-clause-falsified : goal.returns-in-Falsified-clause-falsified
returns-in-Falsified-clause-falsified c = λ _.
    falsified_beside c.args.formula.now.clauses (has c.args.trail.now.items) c.args.l c.args.rest c.requires.short c.requires.false_now
    (all_same_set (_) (has c.args.trail.now.items) (both c.args.rest) c.requires.trail.marks c.in-Falsified.ensures)

unset : (c : In_ok-mark-in-Unit) → IsUnsetUnit (has c.args.trail.now.items) (both c.args.rest) c.in-Unit.u
unset c = unset_by_marks c.args.formula.now.vars c.args.truth.now c.args.trail.now.items (both c.args.rest) c.in-Unit.u c.requires.trail c.in-Unit.ensures

pub returns-in_ok-mark-in-Unit-clause-grows : goal.returns-in_ok-mark-in-Unit-clause-grows
returns-in_ok-mark-in-Unit-clause-grows c =
    let s = c.requires.short in
    let one = rest_unit (has c.args.trail.now.items) s.clause c.args.l c.args.rest c.in-Unit.u s.parts c.requires.false_now (unset c) in
    rw c.in_ok-mark-in-Unit.ensures.more (grows_unit c.args.formula.now.clauses c.args.trail.now.items s.clause c.in-Unit.u s.among one.unit)

pub returns-in_ok-mark-in-Unit-clause-quiet : goal.returns-in_ok-mark-in-Unit-clause-quiet
returns-in_ok-mark-in-Unit-clause-quiet c = λ _. rw c.in_ok-mark-in-Unit.ensures.more
    (marked_beside c.args.trail.now.items c.args.l c.args.rest c.in-Unit.u c.requires.false_now (unset c))

pub returns-in-Quiet-clause-quiet : goal.returns-in-Quiet-clause-quiet
returns-in-Quiet-clause-quiet c = λ _.
    quiet_beside c.args.trail.now.items c.args.l c.args.rest c.requires.false_now
    (quiet_by_marks c.args.formula.now.vars c.args.truth.now c.args.trail.now.items (both c.args.rest) c.requires.trail c.in-Quiet.ensures)

pub mark-requires-clause-trail : goal.mark-requires-clause-trail
mark-requires-clause-trail c = subst (λ n. IsTrail n c.args.truth.now c.args.trail.now.items) (sym c.vars-vars.ensures.value) c.requires.trail

pub mark-requires-clause-not_true : goal.mark-requires-clause-not_true
mark-requires-clause-not_true c = c.in-Unit.ensures.not_true

pub mark-requires-clause-not_false : goal.mark-requires-clause-not_false
mark-requires-clause-not_false c = c.in-Unit.ensures.not_false

pub returns-in-Falsified-clause-trail : goal.returns-in-Falsified-clause-trail
returns-in-Falsified-clause-trail c = c.requires.trail

pub returns-in-Falsified-clause-grows : goal.returns-in-Falsified-clause-grows
returns-in-Falsified-clause-grows c = grows_none c.args.formula.now.clauses c.args.trail.now.items

pub returns-in-Falsified-clause-quiet : goal.returns-in-Falsified-clause-quiet
returns-in-Falsified-clause-quiet c = λ e. absurd (true≢false e)

pub returns-in_ok-mark-in-Unit-clause-trail : goal.returns-in_ok-mark-in-Unit-clause-trail
returns-in_ok-mark-in-Unit-clause-trail c = subst (λ n. IsTrail n c.mark.new.truth c.mark.new.trail.items) c.vars-vars.ensures.value
    c.in_ok-mark-in-Unit.ensures.trail

pub returns-in_ok-mark-in-Unit-clause-falsified : goal.returns-in_ok-mark-in-Unit-clause-falsified
returns-in_ok-mark-in-Unit-clause-falsified c = λ e. absurd (false≢true e)

pub returns-in-Quiet-clause-trail : goal.returns-in-Quiet-clause-trail
returns-in-Quiet-clause-trail c = c.requires.trail

pub returns-in-Quiet-clause-grows : goal.returns-in-Quiet-clause-grows
returns-in-Quiet-clause-grows c = grows_none c.args.formula.now.clauses c.args.trail.now.items

pub returns-in-Quiet-clause-falsified : goal.returns-in-Quiet-clause-falsified
returns-in-Quiet-clause-falsified c = λ e. absurd (false≢true e)
