use Rattle.std.proofs.Common.{drop}
use Rattle.plan_geometry.proofs.LineLemmas.{IsMeasured}
use Rattle.plan_geometry.proofs.line.Line.diagonal.Given as goal

abbrev pub invariant-loop-p : goal.invariant-loop-p
invariant-loop-p l = IsMeasured l.fn.self l.west (drop l.p-index l.p-items) l.sum l.p-index
