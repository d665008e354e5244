use Rattle.std.proofs.Common.{◌≡◌, take, true, List}
use Rattle.std.specs.Prelude.{All}
use Rattle.plan_core.specs.declared.point.Point.{Point}
use Rattle.plan_core.specs.Line.{is_line}
use Rattle.plan_geometry.proofs.drawing.Drawing.new.Given as goal

abbrev pub invariant-loop-line : goal.invariant-loop-line
invariant-loop-line l = record {
  same : l.copies.items ≡ take l.line-index l.lines;
  are_lines : All (λ (line : List Point). is_line line ≡ true) (take l.line-index l.lines);
}
