use Rattle.std.proofs.Common.{arith, ◌*◌, ◌+◌, ◌/◌, ◌∙◌}
use Rattle.pick_heap.proofs.MatchLemmas.{named_set, kept_set, won_up, won_same, winner_named}
use Rattle.pick_heap.proofs.matches.replay.Goals as goal

pub returns-then-winner-tree-clause-won : goal.returns-then-winner-tree-clause-won
returns-then-winner-tree-clause-won c = won_same c.args.activities.now c.loop-k.tree c.args.leaves (c.loop-k.k / 2) c.better-winner.result
    c.better-winner.ensures c.if-winner-tree.true c.loop-k.invariant.won

pub loop-k-preserved : goal.loop-k-preserved
loop-k-preserved c =
    let to = c.loop-k.invariant.to in
    let from = c.loop-k-test.true in
    let size = c.requires.size in
    let same = c.loop-k.auto.tree in
    let w = c.better-winner.ensures in
    record {
      from = omega arith;
      to = omega arith;
      named = named_set c.args.activities.now c.loop-k.tree c.args.leaves (c.loop-k.k / 2) c.better-winner.result (omega arith) c.loop-k.invariant.named
          (winner_named c.args.activities.now c.loop-k.tree (2 * (c.loop-k.k / 2)) (2 * (c.loop-k.k / 2) + 1) c.better-winner.result c.loop-k.invariant.named
          w);
      won = won_up c.args.activities.now c.loop-k.tree c.args.leaves (c.loop-k.k / 2) c.better-winner.result (omega arith) (omega arith) w
          c.loop-k.invariant.won;
      kept = λ j le. kept_set c.args.activities.now c.loop-k.tree c.args.leaves (c.loop-k.k / 2) c.better-winner.result (omega arith) j (omega arith)
          ∙ c.loop-k.invariant.kept j le;
    }
