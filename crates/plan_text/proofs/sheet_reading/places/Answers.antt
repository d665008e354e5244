use Rattle.std.proofs.Common.{List, subst, sym, arith}
use Rattle.plan_core.specs.declared.point.Point.{Point}
use Rattle.plan_text.specs.SheetFaults.{node_due}
use Rattle.plan_text.specs.SheetReading.{placed_lines, AreReadTo}
use Rattle.plan_text.proofs.ReadingLemmas.{fails, count_more, place_read, place_fault}
use Rattle.plan_text.proofs.sheet_reading.places.Goals as goal

pub returns-in_err-place : goal.returns-in_err-place
returns-in_err-place c =
    let less = c.loop-n-test.true in
    let end = c.nodes-n-end.ensures.value in
    let from = c.from.ensures in
    fails c.from_residual.result _ _ c.in_err-place.field-0.0 c.from_residual.ensures.1
    (place_fault c.args.edition c.args.g.now c.args.text.now c.loop-n.rest.now c.loop-n.n _ c.loop-n.places.items c.in_err-place.field-0.0
    (omega (arith, less, end)) c.loop-n.invariant.0 c.loop-n.invariant.1 (omega (arith, from)) c.in_err-place.ensures)

pub loop-n-preserved : goal.loop-n-preserved
loop-n-preserved c =
    let less = c.loop-n-test.true in
    let end = c.nodes-n-end.ensures.value in
    let items = c.in_ok-push.ensures.items in (
      count_more _ c.loop-n.places.items c.in_ok-place.place c.loop-n.n items c.loop-n.invariant.0,
      λ before. subst (λ (places : List Point). AreReadTo c.args.g.now before (node_due c.args.edition c.args.g.now 0) c.args.text.now
          (placed_lines c.args.edition c.args.g.now 0 places) c.in_ok-place.left.now) (sym items)
          (place_read c.args.edition c.args.g.now c.args.text.now c.loop-n.rest.now c.in_ok-place.left.now c.loop-n.n c.loop-n.places.items c.in_ok-place.place
          (omega (arith, less, end)) c.loop-n.invariant.0 c.loop-n.invariant.1 c.in_ok-place.ensures before),
    )
