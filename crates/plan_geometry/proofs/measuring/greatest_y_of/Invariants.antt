use Rattle.std.proofs.Common.{◌≡◌, drop}
use Rattle.std.specs.Prelude.{max}
use Rattle.plan_geometry.proofs.GreatestLemmas.{greatest_of}
use Rattle.plan_geometry.proofs.measuring.greatest_y_of.Given as goal

abbrev pub invariant-loop-line : goal.invariant-loop-line
invariant-loop-line l = max l.most (greatest_of (λ p. p.y) (drop l.line-index l.lines)) ≡ greatest_of (λ p. p.y) l.lines
