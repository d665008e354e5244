use Rattle.std.proofs.Common.{◌≡◌, ◌≤◌, length}
use Rattle.lex_minimise.proofs.together.without.Given as goal

abbrev pub invariant-loop-line : goal.invariant-loop-line
invariant-loop-line l = (length l.lines.items ≡ l.line-index) × (l.line-index ≤ length l.d.lines)
