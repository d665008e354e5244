use Rattle.std.proofs.Common.{◌≡◌, ◌+◌, ◌-◌, ◌∙◌, ap, arith}
use Rattle.plan_core.specs.declared.point.Point.{Point}
use Rattle.plan_core.specs.Line.{west_end}
use Rattle.plan_core.proofs.LineLemmas.{ends_rise}
use Rattle.edge_shape.specs.Columns.{steps_of, line_is_level_from}
use Rattle.edge_shape.proofs.LineHeights.{steps_are}
use Rattle.edge_shape.proofs.line_columns.has_level.Goals as goal

pub overflow_sub-east_end : goal.overflow_sub-east_end
overflow_sub-east_end c =
    let rise = ends_rise c.args.line.now c.points-points.ensures.is_line in
    let east = ap (λ (p : Point). p.x) c.east_end.ensures in
    omega arith

pub returns : goal.returns
returns c =
    let line = c.args.line.now in
    let is = steps_are line c.points-points.ensures.is_line in
    let east = ap (λ (p : Point). p.x) c.east_end.ensures in
    let last : c.east_end.result.x - 1 ≡ (west_end line).x + steps_of line = omega arith in
    c.is_level_by.ensures ∙ ap (line_is_level_from line) last
