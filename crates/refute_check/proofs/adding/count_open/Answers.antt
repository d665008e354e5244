use Rattle.std.proofs.Common.{◌≡◌, ◌∙◌, arith, sym, ap, subst}
use Rattle.cnf_core.specs.Lit.{Literal, negate}
use Rattle.cnf_core.specs.Clause.{IsThere}
use Rattle.cnf_core.proofs.TrailLemmas.{there_get}
use Rattle.cnf_core.specs.Trail.{marked, weight}
use Rattle.refute_check.proofs.AddLemmas.{false_step}
use Rattle.refute_check.proofs.adding.count_open.Goals as goal
use Rattle.refute_check.proofs.adding.count_open.Goals.{then-not-is_marked, else-not-is_marked}

pub is_marked-requires-clause-there : goal.is_marked-requires-clause-there
is_marked-requires-clause-there c =
    let h = there_get c.args.vars c.args.lits.now c.loop-l.l-index c.l-item.result c.loop-l-test.true c.requires.there in
    let there = subst (λ (k : Literal). IsThere c.args.vars k) (sym c.l-item.is) h in
    subst (λ (k : Literal). IsThere c.args.vars k) (sym c.negated.ensures) there

pub loop-l-preserved : goal.loop-l-preserved
loop-l-preserved c =
    let is : c.is_marked.result ≡ marked c.args.truth.now (negate c.l-item.result) = c.is_marked.ensures ∙ ap (marked c.args.truth.now) c.negated.ensures in
    let step = false_step c.args.truth.now c.args.lits.now c.loop-l.l-index c.l-item.result c.is_marked.result c.loop-l-test.true c.l-item.is is in
    let before = c.loop-l.invariant in
    elim c.if-not-is_marked.branch [
      | then-not-is_marked w ↦ let none : weight c.is_marked.result ≡ 0 = ap weight w.if-not-is_marked.true in omega (arith, w.count-is, step, before, none)
      | else-not-is_marked w ↦ let one : weight c.is_marked.result ≡ 1 = ap weight w.if-not-is_marked.false in omega (arith, w.count-is, step, before, one)
    ]
