use Rattle.std.proofs.Common.{List, ◌≤◌, sym, subst, arith}
use Rattle.plan_core.specs.Values.{value_of}
use Rattle.cnf_core.specs.Lit.{Literal}
use Rattle.refute_check.proofs.JudgeLemmas.{AreUnreached, verdict_is}
use Rattle.log_check.specs.Hinted.{log_of}
use Rattle.log_check.proofs.HintedLemmas.{kept_as, knows_log, refutes_same}
use Rattle.log_check.proofs.hint_lacking.is_least.Goals as goal

pub returns : goal.returns
returns c = λ told lines known.
    let greatest = value_of c.args.greatest.now in
    let log = log_of told lines in
    let positive : 1 ≤ value_of c.args.v.now c.args.c = (let e = c.of.ensures in let ne = c.if-of-eq0.false in omega arith) in
    let are : AreUnreached greatest c.args.bounds.now c.args.earlier.now c.args.c c.args.v.now c.deref.result.now =
    subst (λ (ls : List Literal). AreUnreached greatest c.args.bounds.now c.args.earlier.now c.args.c c.args.v.now ls) (sym c.deref.ensures.value)
    c.in_ok-literals.ensures in
    let both = verdict_is greatest log (kept_as log) c.args.bounds.now c.args.earlier.now c.args.c c.args.v.now c.deref.result.now
    (knows_log told lines c.args.checker.now c.args.bounds.now known) are positive in
    let same = refutes_same told lines c.args.checker.now c.args.bounds.now c.deref.result.now known in
    (λ t. both.0 (same.0 (c.verdict.ensures.0 t)), λ h. c.verdict.ensures.1 (same.1 (both.1 h)))
