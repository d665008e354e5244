use Rattle.std.proofs.Common.{arith}
use Rattle.refute_check.proofs.TimelyLemmas.{timely_more, timely_all}
use Rattle.refute_check.proofs.timely.are_timely.Goals as goal

pub loop-i-preserved : goal.loop-i-preserved
loop-i-preserved c =
    timely_more c.args.lines.now c.loop-i.i c.loop-i.vars c.greatest_with-vars.result c.loop-i.query c.in_ok-query.query c.get-line.result.now
    c.loop-i.invariant c.get-line.ensures.value c.if-not-is_timely.ensures c.greatest_with-vars.ensures c.in_ok-query.ensures

pub returns : goal.returns
returns c = timely_all c.args.lines.now c.loop-i.i c.loop-i.vars c.loop-i.query c.loop-i.invariant
    (let low = c.loop-i-test.false in let size = c.len-i-end.ensures.value in omega arith)
