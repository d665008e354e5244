use Rattle.std.proofs.Common.{◌≤◌, sym, ap, ◌∙◌, subst}
use Rattle.plan_core.specs.declared.point.Point.{Point}
use Rattle.edge_shape.proofs.LineHeights.{height_before, height_behind}
use Rattle.edge_shape.proofs.line_columns.height_over.Goals as goal

pub returns-then-x-west_end : goal.returns-then-x-west_end
returns-then-x-west_end c =
    ap (λ (p : Point). p.y) c.west_end-then-x-west_end.ensures
    ∙ sym (height_before c.args.line.now c.args.x c.points-points.ensures.is_line
    (subst (λ (p : Point). c.args.x ≤ p.x) c.west_end.ensures c.if-x-west_end.true))

pub returns-then-east_end-x : goal.returns-then-east_end-x
returns-then-east_end-x c =
    ap (λ (p : Point). p.y) c.east_end-then-east_end-x.ensures
    ∙ sym (height_behind c.args.line.now c.args.x c.points-points.ensures.is_line
    (subst (λ (p : Point). p.x ≤ c.args.x) c.east_end.ensures c.if-east_end-x.true))
