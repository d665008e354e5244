use Rattle.std.proofs.Common.{◌≡◌, ◌++◌, ◌∷◌, drop}
use Rattle.std.specs.Prelude.{flat_map}
use Rattle.outside_io.specs.Contents.{Begins}
use Rattle.plan_write.specs.SvgText.{point_text}
use Rattle.plan_write.proofs.svg.push_further_points.Given as goal

abbrev pub invariant-loop-p : goal.invariant-loop-p
invariant-loop-p l = record {
  begins : Begins l.fn.into.items l.into.items;
  left : l.into.items ++ flat_map (λ p. 32 ∷ point_text l.height p) (drop l.p-index l.points) ≡ l.fn.into.items ++ flat_map (λ p. 32 ∷ point_text l.height p)
      l.points;
}
