use Rattle.std.proofs.Common.{arith}
use Rattle.log_check.specs.Awaited.{awaited_lines}
use Rattle.log_check.proofs.FittingLemmas.{awaited_more, awaited_other, awaited_to_end}
use Rattle.log_check.proofs.fitting.begin.Goals as goal

pub loop-i-preserved : goal.loop-i-preserved
loop-i-preserved c = (
  c.in-Some.ensures.0,
  awaited_more (awaited_lines c.args.all.now) (awaited_lines c.loop-i.awaited) (awaited_lines c.in-Some.more) c.args.lines.now c.loop-i.i c.get.result.now
      c.get.ensures.value c.loop-i.invariant.1 c.in-Some.ensures.1,
)

pub returns-in-None : goal.returns-in-None
returns-in-None c = awaited_other (awaited_lines c.args.all.now) (awaited_lines c.loop-i.awaited) c.args.lines.now c.loop-i.i c.get.result.now
    c.get.ensures.value c.loop-i.invariant.1 c.in-None.ensures

pub returns : goal.returns
returns c =
    let low = c.loop-i-test.false in
    let size = c.len-i-end.ensures.value in
    awaited_to_end (awaited_lines c.args.all.now) (awaited_lines c.loop-i.awaited) c.args.lines.now c.loop-i.i (omega arith) c.loop-i.invariant.1
