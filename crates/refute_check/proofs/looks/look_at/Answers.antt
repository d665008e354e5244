use Rattle.std.proofs.Common.{◌++◌, ◌∷◌, [], List, sym, subst}
use Rattle.std.specs.Prelude.{Contains}
use Rattle.std.proofs.lemmas.Bool.{true≢false, false≢true}
use Rattle.std.proofs.lemmas.List.Elements.{All-contains, Contains-get_or}
use Rattle.cnf_core.specs.Lit.{Literal, has}
use Rattle.cnf_core.specs.Trail.{IsTrail}
use Rattle.cnf_core.specs.Clause.{IsThere}
use Rattle.cnf_core.specs.Formula.{clause_at}
use Rattle.cnf_core.proofs.ClauseLemmas.{distinct_at}
use Rattle.cnf_core.proofs.TrailLemmas.{there_all}
use Rattle.refute_check.specs.Tables.{IsUnsetUnit, IsQuietNow}
use Rattle.cnf_core.proofs.GrowthLemmas.{grows_none, grows_unit}
use Rattle.refute_check.proofs.GrowthLemmas.{trail_consistent, unset_by_marks, few_now, marked_now}
use Rattle.refute_check.proofs.looks.look_at.Goals as goal
use Rattle.refute_check.proofs.looks.look_at.Goals.{In_ok-mark-in-Unit}

pub returns-then-count-gt1-clause-quiet : goal.returns-then-count-gt1-clause-quiet
returns-then-count-gt1-clause-quiet c =
    λ _. few_now (clause_at c.args.formula.now c.args.number) c.args.count c.args.trail.now.items
    (distinct_at c.args.formula.now.clauses c.args.number c.vars-vars.ensures.formula.distinct) c.if-count-gt1.true

pub scan_clause-requires-clause-consistent : goal.scan_clause-requires-clause-consistent
scan_clause-requires-clause-consistent c = trail_consistent _ c.args.truth.now c.args.trail.now.items c.requires.trail

pub mark-requires-clause-there : goal.mark-requires-clause-there
mark-requires-clause-there c =
    let vars = c.args.formula.now.vars in
    let clause = c.lits_of-clause.result.now in
    let there : IsThere vars c.in-Unit.l = All-contains (IsThere vars) clause c.in-Unit.l (there_all vars clause c.lits_of-clause.ensures.there)
    c.in-Unit.ensures.unit.among in
    subst (λ n. IsThere n c.in-Unit.l) (sym c.vars-vars.ensures.value) there

among : (c : In_ok-mark-in-Unit) → Contains c.args.formula.now.clauses c.lits_of-clause.result.now
among c = subst (λ (clause : List Literal). Contains c.args.formula.now.clauses clause) (sym c.lits_of-clause.ensures.value)
    (Contains-get_or c.args.formula.now.clauses c.args.number [] c.requires.there)

unset : (c : In_ok-mark-in-Unit) → IsUnsetUnit (has c.args.trail.now.items) c.lits_of-clause.result.now c.in-Unit.l
unset c = unset_by_marks c.args.formula.now.vars c.args.truth.now c.args.trail.now.items c.lits_of-clause.result.now c.in-Unit.l c.requires.trail
    c.in-Unit.ensures

pub returns-in_ok-mark-in-Unit-clause-grows : goal.returns-in_ok-mark-in-Unit-clause-grows
returns-in_ok-mark-in-Unit-clause-grows c =
    rw c.in_ok-mark-in-Unit.ensures.more (grows_unit c.args.formula.now.clauses c.args.trail.now.items c.lits_of-clause.result.now c.in-Unit.l (among c)
    (let u = unset c in u.unit))

pub returns-in_ok-mark-in-Unit-clause-quiet : goal.returns-in_ok-mark-in-Unit-clause-quiet
returns-in_ok-mark-in-Unit-clause-quiet c =
    let count = c.args.count in
    let trail = c.args.trail.now.items in
    λ _. rw c.in_ok-mark-in-Unit.ensures.more (subst (λ (clause : List Literal). IsQuietNow clause count trail (trail ++ c.in-Unit.l ∷ []))
    c.lits_of-clause.ensures.value (marked_now c.lits_of-clause.result.now count trail c.in-Unit.l (unset c)))

pub returns-then-count-gt1-clause-trail : goal.returns-then-count-gt1-clause-trail
returns-then-count-gt1-clause-trail c = c.requires.trail

pub returns-then-count-gt1-clause-grows : goal.returns-then-count-gt1-clause-grows
returns-then-count-gt1-clause-grows c = grows_none c.args.formula.now.clauses c.args.trail.now.items

pub returns-then-count-gt1-clause-falsified : goal.returns-then-count-gt1-clause-falsified
returns-then-count-gt1-clause-falsified c = λ e. absurd (false≢true e)

pub mark-requires-clause-trail : goal.mark-requires-clause-trail
mark-requires-clause-trail c = subst (λ n. IsTrail n c.args.truth.now c.args.trail.now.items) (sym c.vars-vars.ensures.value) c.requires.trail

pub mark-requires-clause-not_true : goal.mark-requires-clause-not_true
mark-requires-clause-not_true c = c.in-Unit.ensures.not_true

pub mark-requires-clause-not_false : goal.mark-requires-clause-not_false
mark-requires-clause-not_false c = c.in-Unit.ensures.not_false

pub returns-in-Falsified-clause-trail : goal.returns-in-Falsified-clause-trail
returns-in-Falsified-clause-trail c = c.requires.trail

pub returns-in-Falsified-clause-grows : goal.returns-in-Falsified-clause-grows
returns-in-Falsified-clause-grows c = grows_none c.args.formula.now.clauses c.args.trail.now.items

pub returns-in-Falsified-clause-quiet : goal.returns-in-Falsified-clause-quiet
returns-in-Falsified-clause-quiet c = λ e. absurd (true≢false e)

pub returns-in_ok-mark-in-Unit-clause-trail : goal.returns-in_ok-mark-in-Unit-clause-trail
returns-in_ok-mark-in-Unit-clause-trail c = subst (λ n. IsTrail n c.mark.new.truth c.mark.new.trail.items) c.vars-vars.ensures.value
    c.in_ok-mark-in-Unit.ensures.trail

pub returns-in_ok-mark-in-Unit-clause-falsified : goal.returns-in_ok-mark-in-Unit-clause-falsified
returns-in_ok-mark-in-Unit-clause-falsified c = λ e. absurd (false≢true e)

pub returns-in-Quiet-clause-trail : goal.returns-in-Quiet-clause-trail
returns-in-Quiet-clause-trail c = c.requires.trail

pub returns-in-Quiet-clause-grows : goal.returns-in-Quiet-clause-grows
returns-in-Quiet-clause-grows c = grows_none c.args.formula.now.clauses c.args.trail.now.items

pub returns-in-Quiet-clause-falsified : goal.returns-in-Quiet-clause-falsified
returns-in-Quiet-clause-falsified c = λ e. absurd (false≢true e)
