use Rattle.std.proofs.Common.{◌≤◌, ◌∙◌, sym, ap, subst}
use Rattle.cnf_core.specs.Lit.{Literal, negate}
use Rattle.cnf_core.specs.Clause.{IsThere}
use Rattle.cnf_core.proofs.PropagationLemmas.{negate-negate}
use Rattle.cnf_core.proofs.TrailLemmas.{there_get}
use Rattle.cnf_core.specs.Trail.{marked}
use Rattle.refute_check.proofs.AssumeLemmas.{assumed_none, assumed_false, assumed_more, assumed_clash, assumed_all}
use Rattle.refute_check.proofs.assume.assume_false.Goals as goal
use Rattle.refute_check.proofs.assume.assume_false.Goals.{in-False, in-Unset+in_ok-mark-in-Unset}

pub loop-l-init : goal.loop-l-init
loop-l-init c = assumed_none c.args.vars c.args.lits.now c.args.truth.now c.args.trail.now.items c.requires.trail

pub truth_of-requires-clause-there : goal.truth_of-requires-clause-there
truth_of-requires-clause-there c =
    let h = there_get c.args.vars c.args.lits.now c.loop-l.l-index c.l-item.result c.loop-l-test.true c.requires.there in
    subst (λ (k : Literal). k.var ≤ c.args.vars) (sym c.l-item.is) h.1

pub mark-requires-clause-there : goal.mark-requires-clause-there
mark-requires-clause-there c =
    let h = there_get c.args.vars c.args.lits.now c.loop-l.l-index c.l-item.result c.loop-l-test.true c.requires.there in
    let there = subst (λ (k : Literal). IsThere c.args.vars k) (sym c.l-item.is) h in
    subst (λ (k : Literal). IsThere c.args.vars k) (sym c.negated.ensures) there

pub mark-requires-clause-not_true : goal.mark-requires-clause-not_true
mark-requires-clause-not_true c = ap (marked c.loop-l.truth) c.negated.ensures ∙ c.in-Unset.ensures.1

pub mark-requires-clause-not_false : goal.mark-requires-clause-not_false
mark-requires-clause-not_false c = ap (λ (k : Literal). marked c.loop-l.truth (negate k)) c.negated.ensures
    ∙ ap (marked c.loop-l.truth) (negate-negate c.l-item.result) ∙ c.in-Unset.ensures.0

pub loop-l-preserved : goal.loop-l-preserved
loop-l-preserved c =
    elim c.match-truth_of.branch [
      | in-False w ↦ rw (w.truth-is, w.trail-is) (assumed_false c.args.vars c.args.lits.now c.args.trail.now.items c.loop-l.truth c.loop-l.trail.items
          c.loop-l.l-index c.l-item.result c.loop-l-test.true c.l-item.is c.loop-l.invariant w.in-False.ensures)
      | in-Unset+in_ok-mark-in-Unset w ↦ rw (w.truth-is, w.trail-is) (assumed_more c.args.vars c.args.lits.now c.args.trail.now.items c.loop-l.truth
          w.mark.new.truth c.loop-l.trail.items w.mark.new.trail.items c.loop-l.l-index c.l-item.result w.negated.result c.loop-l-test.true c.l-item.is
          c.loop-l.invariant w.negated.ensures w.in_ok-mark-in-Unset.ensures.trail w.in_ok-mark-in-Unset.ensures.more)
    ]

pub returns-in-True-clause-clash : goal.returns-in-True-clause-clash
returns-in-True-clause-clash c = λ _. assumed_clash c.args.vars c.args.lits.now c.args.trail.now.items c.loop-l.truth c.loop-l.trail.items c.loop-l.l-index
    c.l-item.result c.requires.distinct c.loop-l-test.true c.l-item.is c.loop-l.invariant c.in-True.ensures

pub returns-clause-all : goal.returns-clause-all
returns-clause-all c = λ _. assumed_all c.args.vars c.args.lits.now c.args.trail.now.items c.loop-l.truth c.loop-l.trail.items c.loop-l.l-index
    c.loop-l-test.false c.loop-l.invariant
