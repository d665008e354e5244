use Rattle.std.proofs.Common.{◌≤◌, arith}
use Rattle.refute_log.proofs.AmongLemmas.{all_more_at, all_end}
use Rattle.refute_check.proofs.judging.are_named.Goals as goal

pub loop-l-preserved : goal.loop-l-preserved
loop-l-preserved c =
    let low : c.l-item.result.var ≤ c.args.vars = omega arith in
    all_more_at (λ k. k.var ≤ c.args.vars) c.args.lits.now c.loop-l.l-index c.l-item.result c.loop-l-test.true c.l-item.is c.loop-l.invariant low

pub returns-clause-yes : goal.returns-clause-yes
returns-clause-yes c = λ _. all_end (λ k. k.var ≤ c.args.vars) c.args.lits.now c.loop-l.l-index c.loop-l-test.false c.loop-l.invariant
