use Rattle.std.proofs.Common.{◌≡◌, ◌+◌, ◌*◌, ◌≤◌, drop}
use Rattle.std.specs.Prelude.{sum_by}
use Rattle.plan_core.specs.Line.{diagonal}
use Rattle.plan_geometry.proofs.measuring.total_diagonal.Given as goal

abbrev pub invariant-loop-line : goal.invariant-loop-line
invariant-loop-line l = record {
  same : l.sum + sum_by diagonal (drop l.line-index l.lines) ≡ sum_by diagonal l.lines;
  bounded : l.sum ≤ 196605 * l.line-index;
}
