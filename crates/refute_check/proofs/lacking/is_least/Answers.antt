use Rattle.std.proofs.Common.{List, ◌≤◌, sym, subst, arith}
use Rattle.plan_core.specs.Values.{value_of}
use Rattle.cnf_core.specs.Lit.{Literal}
use Rattle.refute_check.proofs.JudgeLemmas.{AreUnreached, verdict_is}
use Rattle.refute_check.proofs.lacking.is_least.Goals as goal

pub returns : goal.returns
returns c = λ lines known.
    let greatest = value_of c.args.greatest.now in
    let positive : 1 ≤ value_of c.args.v.now c.args.c = (let e = c.of.ensures in let ne = c.if-of-eq0.false in omega arith) in
    let are : AreUnreached greatest c.args.bounds.now c.args.earlier.now c.args.c c.args.v.now c.deref.result.now =
    subst (λ (ls : List Literal). AreUnreached greatest c.args.bounds.now c.args.earlier.now c.args.c c.args.v.now ls) (sym c.deref.ensures.value)
    c.in_ok-literals.ensures in
    let both = verdict_is greatest lines c.args.checker.now c.args.bounds.now c.args.earlier.now c.args.c c.args.v.now c.deref.result.now known are positive in
    (λ t. both.0 (c.verdict.ensures.0 t), λ h. c.verdict.ensures.1 (both.1 h))
