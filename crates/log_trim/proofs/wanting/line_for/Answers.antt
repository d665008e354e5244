use Rattle.std.proofs.Common.{List, sym, subst}
use Rattle.plan_core.specs.Values.{value_of}
use Rattle.cnf_core.specs.Lit.{Literal}
use Rattle.refute_check.proofs.JudgeLemmas.{AreUnreached}
use Rattle.log_trim.proofs.WantedLemmas.{found_least}
use Rattle.log_trim.proofs.wanting.line_for.Goals as goal

pub returns : goal.returns
returns c =
    let greatest = value_of c.args.greatest.now in
    let all : AreUnreached greatest c.args.bounds.now c.args.earlier.now c.args.c c.args.v.now c.deref.result.now =
    subst (λ (ls : List Literal). AreUnreached greatest c.args.bounds.now c.args.earlier.now c.args.c c.args.v.now ls) (sym c.deref.ensures.value)
    c.in_ok-literals.ensures in
    found_least greatest c.args.lines.now c.args.bounds.now c.args.earlier.now c.args.c c.args.v.now c.deref.result.now c.first_refuted.result c.requires.bounds
    all c.first_refuted.ensures
