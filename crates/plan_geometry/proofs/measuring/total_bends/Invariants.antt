use Rattle.std.proofs.Common.{◌≡◌, ◌+◌, ◌*◌, ◌≤◌, drop}
use Rattle.std.specs.Prelude.{sum_by}
use Rattle.plan_core.specs.Line.{bends}
use Rattle.plan_geometry.proofs.measuring.total_bends.Given as goal

abbrev pub invariant-loop-line : goal.invariant-loop-line
invariant-loop-line l = record {
  same : l.sum + sum_by bends (drop l.line-index l.lines) ≡ sum_by bends l.lines;
  bounded : l.sum ≤ 2 * l.line-index;
}
