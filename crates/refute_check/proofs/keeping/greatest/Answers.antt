use Rattle.std.proofs.Common.{arith}
use Rattle.refute_check.proofs.KeepLemmas.{greatest_step}
use Rattle.refute_check.proofs.keeping.greatest.Goals as goal
use Rattle.refute_check.proofs.keeping.greatest.Goals.{then-most-var, else-most-var}

pub loop-l-preserved : goal.loop-l-preserved
loop-l-preserved c =
    let step = greatest_step c.args.lits.now c.loop-l.l-index c.l-item.result c.loop-l.most c.var-var.result.0 c.loop-l-test.true c.l-item.is
    c.var-var.ensures.value c.loop-l.invariant in
    elim c.if-most-var.branch [
      | then-most-var w ↦ let low = w.if-most-var.true in omega (arith, w.most-is, step, low)
      | else-most-var w ↦ let high = w.if-most-var.false in omega (arith, w.most-is, step, high)
    ]
