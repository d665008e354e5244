use Rattle.std.proofs.Common.{◌≡◌, ◌≤◌, ◌+◌, false, None, sym, subst, take}
use Rattle.cnf_core.specs.Lit.{Literal, negate}
use Rattle.cnf_core.specs.Propagation.{IsIn}
use Rattle.cnf_core.proofs.TrailLemmas.{there_get}
use Rattle.cnf_core.specs.Trail.{marked}
use Rattle.refute_check.proofs.ScanLemmas.{Seen, SeenOne, seen_false, seen_unset, quiet_two, seen_all}
use Rattle.refute_check.proofs.scan.scan_clause.Goals as goal
use Rattle.refute_check.proofs.scan.scan_clause.Goals.{in-False, in-Unset+in-None}

pub truth_of-requires-clause-there : goal.truth_of-requires-clause-there
truth_of-requires-clause-there c =
    let h = there_get c.args.vars c.args.clause.now c.loop-l.l-index c.l-item.result c.loop-l-test.true c.requires.there in
    subst (λ (k : Literal). k.var ≤ c.args.vars) (sym c.l-item.is) h.1

pub loop-l-preserved : goal.loop-l-preserved
loop-l-preserved c =
    let set = marked c.args.truth.now in
    let clause = c.args.clause.now in
    let i = c.loop-l.l-index in
    let d = c.l-item.result in
    elim c.match-truth_of.branch [
      | in-False w ↦ rw w.candidate-is (seen_false set clause i d c.loop-l.candidate c.loop-l-test.true c.loop-l.invariant
          (subst (λ (k : Literal). IsIn set (negate k)) c.l-item.is w.in-False.ensures))
      | in-Unset+in-None w ↦
          let none : Seen set (take i clause) None = rw w.in-None.is at c.loop-l.invariant in
          let here = subst (λ (k : Literal). (set k ≡ false) × (set (negate k) ≡ false)) c.l-item.is w.in-Unset.ensures in
          rw w.candidate-is (subst (λ (k : Literal). SeenOne set (take (i + 1) clause) k) (sym c.l-item.is)
          (seen_unset set clause i d c.loop-l-test.true none here.0 here.1))
    ]

pub returns-in-Some : goal.returns-in-Some
returns-in-Some c =
    let set = marked c.args.truth.now in
    let clause = c.args.clause.now in
    let i = c.loop-l.l-index in
    let one : SeenOne set (take i clause) c.in-Some.field-0 = rw c.in-Some.is at c.loop-l.invariant in
    let here = subst (λ (k : Literal). (set k ≡ false) × (set (negate k) ≡ false)) c.l-item.is c.in-Unset.ensures in
    quiet_two set clause i c.in-Some.field-0 c.l-item.result c.requires.distinct c.loop-l-test.true one here.1

pub returns-in-None-candidate : goal.returns-in-None-candidate
returns-in-None-candidate c = seen_all (marked c.args.truth.now) c.args.clause.now c.loop-l.l-index c.loop-l-test.false
    (rw c.in-None-candidate.is at c.loop-l.invariant)
