use Rattle.std.specs.Prelude.{◌+◌}
use Rattle.std.proofs.Common.{arith}
use Rattle.plan_core.specs.Laws.{EdgesAreParted}
use Rattle.plan_core.specs.Lawful.{IsOtherPair}
use Rattle.track_order.specs.Order.{is_above}
use Rattle.lawful_check.proofs.HoldingLemmas.{pair_from, pair_on, row_ends}
use Rattle.std.proofs.lemmas.Bool.{both_ways}
use Rattle.lawful_check.proofs.edge_laws.not_parted.Goals.{else-are_unordered-via-then-are_unordered+else-not-are_parted}
use Rattle.lawful_check.proofs.edge_laws.not_parted.Goals.{else-are_unordered-via-else-are_unordered}
use Rattle.lawful_check.proofs.edge_laws.not_parted.Goals as goal

pub loop-f-init : goal.loop-f-init
loop-f-init c = pair_from (IsOtherPair c.args.g.now (is_above c.args.t.now)) (EdgesAreParted c.args.g.now c.args.d.now) c.args.e (c.args.e + 1)
    (λ b less is. let rising = is.pair.rising in omega (arith, rising, less)) c.requires.before

pub loop-f-preserved : goal.loop-f-preserved
loop-f-preserved c =
    elim c.else-are_unordered.branch [
      | else-are_unordered-via-then-are_unordered+else-not-are_parted w ↦
          pair_on (IsOtherPair c.args.g.now (is_above c.args.t.now)) (EdgesAreParted c.args.g.now c.args.d.now) c.args.e c.loop-f.f c.loop-f.invariant
          (record { met = λ is. w.are_parted.ensures.0 w.if-not-are_parted.false })
      | else-are_unordered-via-else-are_unordered w ↦
          pair_on (IsOtherPair c.args.g.now (is_above c.args.t.now)) (EdgesAreParted c.args.g.now c.args.d.now) c.args.e c.loop-f.f c.loop-f.invariant
          (record { met = λ is. absurd (both_ways c.are_unordered.result w.if-are_unordered.false (c.are_unordered.ensures.1 is)) })
    ]

pub returns : goal.returns
returns c = row_ends (IsOtherPair c.args.g.now (is_above c.args.t.now)) (EdgesAreParted c.args.g.now c.args.d.now) c.args.e c.loop-f.f
    (λ b past is. let within = is.pair.within in omega (arith, within, past, c.loop-f-test.false, c.edges-count.ensures.value)) c.loop-f.invariant
