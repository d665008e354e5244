use Rattle.std.proofs.Common.{◌≡◌, true, lit<, ap, ◌∙◌}
use Rattle.plan_core.specs.Line.{is_line}
use Rattle.plan_geometry.proofs.LineLemmas.{room_left}
use Rattle.plan_geometry.proofs.line.Line.copied.Goals as goal

pub push-requires : goal.push-requires
push-requires c =
    let line : is_line c.as_slice-p-items.result.now ≡ true = ap is_line c.as_slice-p-items.ensures.value ∙ c.self.invariant in
    (lit< tt, room_left c.as_slice-p-items.result.now c.loop-p.p-index c.loop-p.held.items line c.loop-p-test.true c.loop-p.invariant)
