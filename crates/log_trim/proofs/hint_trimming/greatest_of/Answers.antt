use Rattle.std.proofs.Common.{arith}
use Rattle.log_trim.proofs.HintedLemmas.{within_at, within_next, within_all}
use Rattle.log_trim.proofs.hint_trimming.greatest_of.Goals as goal

pub loop-i-preserved : goal.loop-i-preserved
loop-i-preserved c =
    let inv = c.loop-i.invariant in
    let g = c.greatest_in.ensures in
    record {
      within = within_next c.loop-i.most c.greatest_in.result c.max-most.result c.args.lines.now c.loop-i.i c.get.result.now c.get.ensures.value
          c.max-most.ensures inv.within g.within;
      least = λ n h.
          let low = inv.least n h in
          let next = g.least n (within_at n c.args.lines.now c.loop-i.i c.get.result.now h c.get.ensures.value) in
          omega (arith, low, next, c.max-most.ensures);
      limit = let low = inv.limit in omega (arith, low, g.limit, c.max-most.ensures);
    }

pub returns-clause-within : goal.returns-clause-within
returns-clause-within c = let inv = c.loop-i.invariant in within_all c.loop-i.most c.args.lines.now c.loop-i.i
    (omega (arith, c.loop-i-test.false, c.len-i-end.ensures.value)) inv.within
