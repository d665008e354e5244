use Rattle.std.proofs.Common.{◌≡◌, ◌++◌, length}
use Rattle.std.specs.Prelude.{flat_map}
use Rattle.plan_write.specs.SheetLine.{coordinates}
use Rattle.plan_text.proofs.sheet_lines.points_of.Given as goal

abbrev pub invariant-loop-x : goal.invariant-loop-x
invariant-loop-x l = l.numbers ≡ flat_map coordinates l.points.items ++ l.rest

abbrev pub decreases-loop-x : goal.decreases-loop-x
decreases-loop-x l = length l.rest
