use Rattle.std.proofs.Common.{◌≡◌, drop}
use Rattle.std.specs.Prelude.{max, map}
use Rattle.plan_core.specs.Values.{maximum}
use Rattle.plan_geometry.proofs.measuring.greatest_x.Given as goal

abbrev pub invariant-loop-p : goal.invariant-loop-p
invariant-loop-p l = max l.most (maximum (map (λ p. p.x) (drop l.p-index l.points))) ≡ maximum (map (λ p. p.x) l.points)
