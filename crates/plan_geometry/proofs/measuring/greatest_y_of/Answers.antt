use Rattle.std.proofs.Common.{◌≡◌, List, ◌∙◌, ap, arith, map, get_or}
use Rattle.plan_core.specs.declared.point.Point.{Point}
use Rattle.plan_core.specs.Values.{maximum}
use Rattle.plan_geometry.proofs.GreatestLemmas.{greatest_step}
use Rattle.plan_geometry.proofs.measuring.greatest_y_of.Goals as goal

pub loop-line-preserved : goal.loop-line-preserved
loop-line-preserved c =
    let line : List Point = c.line-item.result in
    let step = greatest_step (λ p. p.y) c.args.lines.now c.loop-line.line-index line c.loop-line-test.true in
    let here : c.greatest_y.result ≡ maximum (map (λ p. p.y) (get_or c.args.lines.now c.loop-line.line-index line)) = c.greatest_y.ensures
    ∙ ap (λ (xs : List Point). maximum (map (λ p. p.y) xs)) (c.points.ensures.value ∙ c.line-item.is) in
    omega (arith, step, here, c.max-most.ensures, c.loop-line.invariant)
