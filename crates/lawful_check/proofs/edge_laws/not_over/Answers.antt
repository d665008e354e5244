use Rattle.std.proofs.Common.{arith, sym, ◌∙◌}
use Rattle.plan_core.specs.Laws.{EdgeIsOver}
use Rattle.plan_core.specs.Lawful.{IsAbovePair}
use Rattle.track_order.specs.Order.{is_above}
use Rattle.lawful_check.proofs.HoldingLemmas.{pair_on, row_ends}
use Rattle.std.proofs.lemmas.Bool.{both_ways}
use Rattle.lawful_check.proofs.edge_laws.not_over.Goals.{else-above-via-then-above+else-not-is_over, else-above-via-else-above}
use Rattle.lawful_check.proofs.edge_laws.not_over.Goals as goal

pub loop-f-preserved : goal.loop-f-preserved
loop-f-preserved c =
    elim c.else-above.branch [
      | else-above-via-then-above+else-not-is_over w ↦
          pair_on (IsAbovePair c.args.g.now (is_above c.args.t.now)) (EdgeIsOver c.args.g.now c.args.d.now) c.args.e c.loop-f.f c.loop-f.invariant
          (record { met = λ is. w.is_over.ensures.0 w.if-not-is_over.false })
      | else-above-via-else-above w ↦
          pair_on (IsAbovePair c.args.g.now (is_above c.args.t.now)) (EdgeIsOver c.args.g.now c.args.d.now) c.args.e c.loop-f.f c.loop-f.invariant
          (record { met = λ is. absurd (both_ways (is_above c.args.t.now c.args.e c.loop-f.f) (sym c.above.ensures ∙ w.if-above.false) is.is_above) })
    ]

pub returns : goal.returns
returns c = row_ends (IsAbovePair c.args.g.now (is_above c.args.t.now)) (EdgeIsOver c.args.g.now c.args.d.now) c.args.e c.loop-f.f
    (λ b past is. let within = is.second in omega (arith, within, past, c.loop-f-test.false, c.edges-f-end.ensures.value)) c.loop-f.invariant
