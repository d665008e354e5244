use Rattle.std.proofs.Common.{arith, ◌/◌, ◌<◌, length, get_or}
use Rattle.std.proofs.lemmas.List.{get_or_default}
use Rattle.std.proofs.lemmas.List.Edits.{map_over_more}
use Rattle.pick_heap.proofs.heap.halve.Goals as goal

pub loop-i-preserved : goal.loop-i-preserved
loop-i-preserved c =
    let ys = c.loop-i.activities in
    let test = c.loop-i-test.true in
    let within : c.loop-i.i < length c.loop-i.activities = let same = c.loop-i.auto.activities in omega arith in
    map_over_more (λ a. a / 2) c.args.activities.now ys c.loop-i.i (get_or ys c.loop-i.i 0) (omega arith) c.loop-i.invariant
    (get_or_default ys c.loop-i.i 0 (get_or ys c.loop-i.i 0) within)
