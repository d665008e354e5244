use Rattle.std.proofs.Common.{◌≡◌, length}
use Rattle.run_explain_redraw.proofs.PointLemmas.{AreFirst}
use Rattle.run_explain_redraw.proofs.former_points.former_points.Given as goal

abbrev pub invariant-loop-n : goal.invariant-loop-n
invariant-loop-n l = record {
  size : length l.points.items ≡ l.n;
  first : AreFirst l.g l.old l.d l.points.items l.n;
}
