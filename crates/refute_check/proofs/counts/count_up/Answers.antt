use Rattle.std.proofs.Common.{arith, ◌<◌, length, get_or}
use Rattle.refute_check.proofs.CountLemmas.{times_at, counted_more}
use Rattle.refute_check.proofs.counts.count_up.Goals as goal

pub overflow_add-counts : goal.overflow_add-counts
overflow_add-counts c =
    let i = c.loop-n.n-index in
    let n = get_or c.args.places.now i 0 in
    omega (arith, times_at c.args.places.now i c.loop-n-test.true, c.loop-n.invariant n, c.requires.small i 0 c.loop-n-test.true)

pub loop-n-preserved : goal.loop-n-preserved
loop-n-preserved c =
    let there : get_or c.args.places.now c.loop-n.n-index 0 < length c.loop-n.counts = omega
    (arith, c.requires.there c.loop-n.n-index 0 c.loop-n-test.true, c.loop-n.auto.counts) in
    counted_more c.args.places.now c.args.counts.now c.loop-n.counts c.loop-n.n-index c.loop-n-test.true there c.loop-n.invariant
