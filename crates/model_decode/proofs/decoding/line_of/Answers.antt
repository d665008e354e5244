use Rattle.std.proofs.Common.{◌∙◌, ap}
use Rattle.plan_core.specs.declared.point.Point.{Point}
use Rattle.plan_core.specs.Drawing.{place}
use Rattle.model_decode.proofs.decoding.line_of.Goals as goal

pub line_between-requires-clause-west : goal.line_between-requires-clause-west
line_between-requires-clause-west c = λ d is. ap (λ (p : Point). p.x) (c.place_of-west.ensures d is) ∙ ap (λ n. (place d n).x) c.west.ensures.value

pub line_between-requires-clause-east : goal.line_between-requires-clause-east
line_between-requires-clause-east c = λ d is. ap (λ (p : Point). p.x) (c.place_of-east.ensures d is) ∙ ap (λ n. (place d n).x) c.east.ensures.value
