use Rattle.std.proofs.Common.{◌≡◌, true, lit<, rules}
use Rattle.plan_core.specs.Line.{is_line}
use Rattle.plan_geometry.proofs.LineLemmas.{room_left}
use Rattle.plan_geometry.proofs.line.Line.new.Goals as goal

pub push-requires : goal.push-requires
push-requires c =
    let line : is_line c.args.points.now ≡ true = search rules in
    (lit< tt, room_left c.args.points.now c.loop-p.p-index c.loop-p.held.items line c.loop-p-test.true c.loop-p.invariant)
