use Rattle.std.proofs.Common.{◌≡◌, drop}
use Rattle.plan_core.specs.Line.{last_from, east_end}
use Rattle.plan_geometry.proofs.line.Line.east_end.Given as goal

abbrev pub invariant-loop-p : goal.invariant-loop-p
invariant-loop-p l = last_from l.last (drop l.p-index l.p-items) ≡ east_end l.fn.self
