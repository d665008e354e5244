use Rattle.std.proofs.Common.{◌≡◌, true, List, ap, sym, ◌∙◌, arith}
use Rattle.std.proofs.lemmas.Grind.{common_steps}
use Rattle.std.proofs.lemmas.List.Elements.{All-more}
use Rattle.plan_core.specs.declared.point.Point.{Point}
use Rattle.plan_core.specs.Line.{is_line}
use Rattle.plan_geometry.proofs.drawing.Drawing.new.Goals as goal

pub loop-line-preserved : goal.loop-line-preserved
loop-line-preserved c = record {
  same = grind (arith, common_steps, c.loop-line.invariant.same, c.copied.ensures.same);
  are_lines = All-more (λ (line : List Point). is_line line ≡ true) c.args.lines.now c.loop-line.line-index c.line-item.result c.loop-line-test.true
      c.loop-line.invariant.are_lines (ap is_line (sym c.line-item.is) ∙ c.copied.ensures.is_line);
}
