use Rattle.std.proofs.Common.{List, subst, sym, arith}
use Rattle.plan_core.specs.declared.point.Point.{Point}
use Rattle.plan_text.specs.SheetFaults.{edge_due}
use Rattle.plan_text.specs.SheetReading.{drawn_lines, AreReadTo}
use Rattle.plan_text.proofs.ReadingLemmas.{fails, count_more, line_read, line_fault}
use Rattle.plan_text.proofs.sheet_reading.lines.Goals as goal

pub returns-in_err-line : goal.returns-in_err-line
returns-in_err-line c =
    let less = c.loop-e-test.true in
    let end = c.edges-e-end.ensures.value in
    let from = c.from.ensures in
    let nodes = c.nodes.ensures.value in
    let first = c.from-first.ensures in
    fails c.from_residual.result _ _ c.in_err-line.field-0.0 c.from_residual.ensures.1
    (line_fault c.args.edition c.args.g.now c.args.text.now c.loop-e.rest.now c.loop-e.e _ _ c.loop-e.lines.items c.in_err-line.field-0.0
    (omega (arith, less, end)) c.loop-e.invariant.0 c.loop-e.invariant.1 (omega (arith, from, nodes, first)) c.in_err-line.ensures)

pub loop-e-preserved : goal.loop-e-preserved
loop-e-preserved c =
    let less = c.loop-e-test.true in
    let end = c.edges-e-end.ensures.value in
    let items = c.in_ok-push.ensures.items in (
      count_more _ c.loop-e.lines.items c.in_ok-line.line c.loop-e.e items c.loop-e.invariant.0,
      λ before. subst (λ (lines : List (List Point)). AreReadTo c.args.g.now before (edge_due c.args.edition c.args.g.now 0) c.args.text.now
          (drawn_lines c.args.edition c.args.g.now 0 lines) c.in_ok-line.left.now) (sym items)
          (line_read c.args.edition c.args.g.now c.args.text.now c.loop-e.rest.now c.in_ok-line.left.now c.loop-e.e c.loop-e.lines.items c.in_ok-line.line
          (omega (arith, less, end)) c.loop-e.invariant.0 c.loop-e.invariant.1 c.in_ok-line.ensures.0 c.in_ok-line.ensures.1 before),
    )
