use Rattle.std.proofs.Common.{◌≡◌, ◌≤◌, length}
use Rattle.lex_minimise.proofs.together.moved_points.Given as goal

abbrev pub invariant-loop-p : goal.invariant-loop-p
invariant-loop-p l = (length l.found.items ≡ l.p-index) × (l.p-index ≤ length l.points)
