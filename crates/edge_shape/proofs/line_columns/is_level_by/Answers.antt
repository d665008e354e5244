use Rattle.std.proofs.Common.{◌-◌, sym, ◌∙◌, arith}
use Rattle.plan_core.specs.Line.{height, west_end}
use Rattle.edge_shape.specs.Columns.{steps_of}
use Rattle.edge_shape.proofs.StepLemmas.{seen_true}
use Rattle.edge_shape.proofs.CodeLemmas.{seen_false}
use Rattle.edge_shape.proofs.line_columns.is_level_by.Goals as goal

pub returns-then-is_level_at : goal.returns-then-is_level_at
returns-then-is_level_at c =
    let l = c.args.line.now in
    sym (seen_true (height l) (west_end l).x (steps_of l) c.loop-k.k (sym c.is_level_at.ensures ∙ c.if-is_level_at.true) (c.args.c - c.loop-k.k) c.args.c
    (omega (arith, c.loop-k-test.true)))

pub returns : goal.returns
returns c =
    let l = c.args.line.now in
    sym (seen_false (height l) (west_end l).x (steps_of l) c.args.c (λ j lt. c.loop-k.invariant j (omega (arith, lt, c.loop-k-test.false))))
