use Rattle.std.proofs.Common.{drop}
use Rattle.plan_geometry.proofs.LineLemmas.{IsOnTheWay}
use Rattle.plan_geometry.proofs.line.Line.height.Given as goal

abbrev pub invariant-loop-p : goal.invariant-loop-p
invariant-loop-p l = IsOnTheWay l.fn.self l.x l.west (drop l.p-index l.p-items)
