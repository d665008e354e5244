use Rattle.std.proofs.Common.{◌≡◌, take}
use Rattle.plan_geometry.proofs.line.Line.copied.Given as goal

abbrev pub invariant-loop-p : goal.invariant-loop-p
invariant-loop-p l = l.held.items ≡ take l.p-index l.p-items
