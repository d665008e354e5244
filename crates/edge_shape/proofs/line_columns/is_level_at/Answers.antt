use Rattle.std.proofs.Common.{◌≤◌, subst}
use Rattle.plan_core.specs.declared.point.Point.{Point}
use Rattle.plan_core.specs.Line.{height, west_end, east_end}
use Rattle.plan_core.proofs.LineLemmas.{ends_rise}
use Rattle.edge_shape.specs.Columns.{steps_of}
use Rattle.edge_shape.proofs.LineHeights.{steps_are}
use Rattle.edge_shape.proofs.CodeLemmas.{level_high}
use Rattle.edge_shape.proofs.line_columns.is_level_at.Goals as goal

pub returns-then-east_end-c : goal.returns-then-east_end-c
returns-then-east_end-c c =
    let l = c.args.line.now in
    let is_line = c.points-points.ensures.is_line in
    level_high (height l) (west_end l).x (steps_of l) (east_end l).x c.args.c (steps_are l is_line) (ends_rise l is_line)
    (subst (λ (p : Point). p.x ≤ c.args.c) c.east_end.ensures c.if-east_end-c.true)
