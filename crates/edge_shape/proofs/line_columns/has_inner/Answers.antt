use Rattle.std.proofs.Common.{length, ap, ◌∙◌, List, arith}
use Rattle.plan_core.specs.declared.point.Point.{Point}
use Rattle.plan_core.proofs.LineLemmas.{line_length}
use Rattle.edge_shape.specs.Columns.{has_inner}
use Rattle.edge_shape.proofs.CodeLemmas.{inner_three, inner_four, or_first, or_second}
use Rattle.edge_shape.proofs.line_columns.has_inner.Goals as goal

pub returns-in-len3 : goal.returns-in-len3
returns-in-len3 c =
    inner_three c.points.result.now _ c.args.x (omega (arith, c.in-len3.len_at_least, c.in-len3.len_below))
    ∙ ap (λ (l : List Point). has_inner l c.args.x) c.points.ensures.value

pub returns-then-b-x : goal.returns-then-b-x
returns-then-b-x c =
    or_first _ _ _ _ c.if-b-x.true (inner_four c.points.result.now _ c.args.x (omega (arith, c.in-len4.len_at_least, c.in-len4.len_below)))
    ∙ ap (λ (l : List Point). has_inner l c.args.x) c.points.ensures.value

pub returns-else-b-x : goal.returns-else-b-x
returns-else-b-x c =
    or_second _ _ _ _ c.if-b-x.false (inner_four c.points.result.now _ c.args.x (omega (arith, c.in-len4.len_at_least, c.in-len4.len_below)))
    ∙ ap (λ (l : List Point). has_inner l c.args.x) c.points.ensures.value

pub returns-in_default-2 : goal.returns-in_default-2
returns-in_default-2 c =
    let few = (line_length c.args.line.now c.points.ensures.is_line).1 in
    let same = ap (λ (l : List Point). length l) c.points.ensures.value in
    absurd (omega (arith, few, same, c.in_default.len_at_least))
